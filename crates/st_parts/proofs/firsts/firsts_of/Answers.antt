use Rattle.std.proofs.Common.{◌+◌, drop, codes}
use Rattle.gml_core.specs.Trees.{listed}
use Rattle.gml_core.specs.Views.{entry_view, view}
use Rattle.st_parts.proofs.StepLemmas.{first_step}
use Rattle.st_parts.proofs.firsts.firsts_of.Goals as goal

pub loop-i-preserved : goal.loop-i-preserved
loop-i-preserved c =
    let es = listed (view c.args.tree.now) in
    let d = drop c.loop-i.i es in
    let rest = drop (c.loop-i.i + 1) es in
    let e = entry_view c.pair_at.result.now in
    record {
      id = first_step (codes "id") es d rest e _ _ c.pair_at.ensures.rest c.noted-firsts.ensures.id c.loop-i.invariant.id;
      source = first_step (codes "source") es d rest e _ _ c.pair_at.ensures.rest c.noted-firsts.ensures.source c.loop-i.invariant.source;
      target = first_step (codes "target") es d rest e _ _ c.pair_at.ensures.rest c.noted-firsts.ensures.target c.loop-i.invariant.target;
      edge = first_step (codes "edge") es d rest e _ _ c.pair_at.ensures.rest c.noted-firsts.ensures.edge c.loop-i.invariant.edge;
      side = first_step (codes "side") es d rest e _ _ c.pair_at.ensures.rest c.noted-firsts.ensures.side c.loop-i.invariant.side;
      label = first_step (codes "label") es d rest e _ _ c.pair_at.ensures.rest c.noted-firsts.ensures.label c.loop-i.invariant.label;
      order = first_step (codes "order") es d rest e _ _ c.pair_at.ensures.rest c.noted-firsts.ensures.order c.loop-i.invariant.order;
      minlen = first_step (codes "minlen") es d rest e _ _ c.pair_at.ensures.rest c.noted-firsts.ensures.minlen c.loop-i.invariant.minlen;
      sound = c.noted-firsts.ensures.sound;
    }
