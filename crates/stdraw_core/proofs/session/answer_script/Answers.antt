use Rattle.std.proofs.Common.{List, ℤ, subst, sym}
use Rattle.st_session.specs.States.{HasEachOnce}
use Rattle.stdraw_core.proofs.session.answer_script.Goals as goal

pub new-session-requires-clause-vertices_differ : goal.new-session-requires-clause-vertices_differ
new-session-requires-clause-vertices_differ c = subst (λ (z : List ℤ). HasEachOnce z) (sym c.names.ensures.vertex) c.requires.tables.different

pub new-session-requires-clause-edges_differ : goal.new-session-requires-clause-edges_differ
new-session-requires-clause-edges_differ c = subst (λ (z : List ℤ). HasEachOnce z) (sym c.names.ensures.edge) c.requires.tables.edges_different
