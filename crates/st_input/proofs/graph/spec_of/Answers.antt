use Rattle.std.proofs.Common.{arith}
use Rattle.st_input.proofs.FitLemmas.{consistent_in}
use Rattle.st_input.proofs.graph.spec_of.Goals as goal

pub build-requires-clause-consistent : goal.build-requires-clause-consistent
build-requires-clause-consistent c = consistent_in c.args.parts c.args.max_vertices c.args.max_edges c.in_ok-found.ensures.none (omega (arith, c.in_ok-found.ensures.vertices)) (omega (arith, c.in_ok-found.ensures.edges)) c.requires.labels c.requires.shown
