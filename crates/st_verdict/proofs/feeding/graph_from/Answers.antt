use Rattle.std.proofs.Common.{arith}
use Rattle.st_ids.specs.declared.limits.TheConstants.{MOST_EDGES, MOST_VERTICES}
use Rattle.gml_core.specs.Views.{view}
use Rattle.st_input.specs.InputGraph.{InputGraph}
use Rattle.st_verdict.specs.File.{IsGraph, IsTree}
use Rattle.st_verdict.proofs.AnswerLemmas.{stop_first, gives_next}
use Rattle.st_verdict.proofs.VerdictLemmas.{gives_of, if_ok}
use Rattle.st_verdict.proofs.feeding.graph_from.Goals as goal

pub returns-in-Err-clause-gives : goal.returns-in-Err-clause-gives
returns-in-Err-clause-gives c = λ b stands. stop_first {B = InputGraph} (IsTree b) IsGraph c.in-Err.stop (c.in-Err.ensures.err b stands)

pub returns-clause-gives : goal.returns-clause-gives
returns-clause-gives c = λ b stands.
    gives_next {B = InputGraph} (IsTree b) IsGraph (view c.in-Ok.tree) c.graph_of.result (c.in-Ok.ensures.ok b stands)
    (gives_of (IsGraph (view c.in-Ok.tree)) c.graph_of.result c.graph_of.ensures.ok c.graph_of.ensures.err)

pub returns-clause-writable : goal.returns-clause-writable
returns-clause-writable c =
    if_ok c.graph_of.result c.graph_of.ensures.ok
    (λ g is. c.read_is_writable.ensures (view c.in-Ok.tree) MOST_VERTICES MOST_EDGES g c.in-Ok.ensures.sound (omega arith) (omega arith) is.0 is.1)
