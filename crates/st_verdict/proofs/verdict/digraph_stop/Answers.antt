use Rattle.st_verdict.proofs.VerdictLemmas.{loop_within}
use Rattle.st_verdict.proofs.verdict.digraph_stop.Goals as goal

pub edge_names-requires : goal.edge_names-requires
edge_names-requires c = loop_within c.args.spec.now.graph _ c.items.result.now c.items.ensures (rw c.in-Cycle.is at c.requires).2
