use Rattle.st_verdict.proofs.FileOne.{graph_one}
use Rattle.st_verdict.proofs.laws.one_graph.Goals as goal

pub returns : goal.returns
returns c = graph_one
