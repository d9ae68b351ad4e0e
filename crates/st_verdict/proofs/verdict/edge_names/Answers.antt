use Rattle.st_verdict.proofs.VerdictLemmas.{item_within}
use Rattle.std.proofs.Common.{arith}
use Rattle.st_verdict.proofs.verdict.edge_names.Goals as goal

pub name_of_edge-requires : goal.name_of_edge-requires
name_of_edge-requires c = item_within c.args.edges.now _ c.loop-i.i _ (omega arith) c.requires
