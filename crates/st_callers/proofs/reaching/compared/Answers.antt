use Rattle.std.proofs.Common.{rules}
use Rattle.st_order.specs.Labels.{AreAtMost}
use Rattle.st_callers.proofs.ReachingLemmas.{answers_push}
use Rattle.st_callers.proofs.reaching.compared.Goals as goal

pub loop-i-preserved : goal.loop-i-preserved
loop-i-preserved c = record {
  size = search rules;
  each = answers_push (AreAtMost c.args.labels.now) c.args.pairs.now c.loop-i.i c.loop-i.answers.items _ c.reaches.result c.loop-i.invariant.each c.loop-i.invariant.size c.reaches.ensures (search rules);
}
