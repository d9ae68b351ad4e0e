use Rattle.std.proofs.Common.{◌+◌, drop}
use Rattle.gml_core.specs.Trees.{listed}
use Rattle.gml_core.specs.Views.{entry_view, view}
use Rattle.st_script.proofs.RecordLemmas.{said_step, good_step}
use Rattle.st_script.proofs.reading.scan.Goals as goal

pub loop-i-preserved : goal.loop-i-preserved
loop-i-preserved c =
    let es = listed (view c.args.tree.now) in
    let d = drop c.loop-i.i es in
    let rest = drop (c.loop-i.i + 1) es in
    let e = entry_view c.pair_at.result.now in
    record {
      said = said_step es d rest e c.loop-i.items c.take.new.items c.pair_at.ensures.rest c.in_ok-take.ensures.said c.loop-i.invariant.said;
      good = good_step es d rest e c.pair_at.ensures.rest c.in_ok-take.ensures.good c.loop-i.invariant.good;
    }
