use Rattle.st_gen.proofs.MadeLemmas.{one_graph}
use Rattle.st_gen.proofs.laws.one_graph.Goals as goal

pub returns : goal.returns
returns c = one_graph
