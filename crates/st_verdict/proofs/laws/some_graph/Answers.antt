use Rattle.st_verdict.proofs.FileSome.{graph_within_some}
use Rattle.st_verdict.proofs.laws.some_graph.Goals as goal

pub returns : goal.returns
returns c = graph_within_some c.one_answer.ensures.some
