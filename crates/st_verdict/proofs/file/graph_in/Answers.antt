use Rattle.gml_core.specs.Views.{view}
use Rattle.st_input.specs.InputGraph.{InputGraph}
use Rattle.st_verdict.specs.File.{IsGraph, IsTree}
use Rattle.st_verdict.proofs.AnswerLemmas.{stop_first, gives_next}
use Rattle.st_verdict.proofs.VerdictLemmas.{gives_of}
use Rattle.st_verdict.proofs.file.graph_in.Goals as goal

pub returns-in-Err-clause-gives : goal.returns-in-Err-clause-gives
returns-in-Err-clause-gives c = stop_first {B = InputGraph} (IsTree c.args.bytes.now) IsGraph c.in-Err.stop c.in-Err.ensures.err

pub returns-clause-gives : goal.returns-clause-gives
returns-clause-gives c =
    gives_next {B = InputGraph} (IsTree c.args.bytes.now) IsGraph (view c.in-Ok.tree) c.graph_of.result c.in-Ok.ensures.ok
    (gives_of (IsGraph (view c.in-Ok.tree)) c.graph_of.result c.graph_of.ensures.ok c.graph_of.ensures.err)
