use Rattle.std.proofs.Common.{rules, List, ℤ, sym, ◌∙◌, subst}
use Rattle.st_session.specs.States.{HasEachOnce}
use Rattle.st_session.proofs.session.Session.new.Goals as goal

pub of-requires-2 : goal.of-requires-2
of-requires-2 c = subst (λ (z : List ℤ). HasEachOnce z) (sym c.items-2.ensures) c.requires.edges_differ

pub returns-clause-state : goal.returns-clause-state
returns-clause-state c = record {
  source = c.args.graph.source;
  sink = c.args.graph.sink;
  planar = search rules;
  vertices = search rules;
  edges = search rules;
  vertices_differ = subst (λ (z : List ℤ). HasEachOnce z) (sym (c.in_ok-vertex_names.ensures ∙ c.items.ensures)) c.requires.vertices_differ;
  edges_differ = subst (λ (z : List ℤ). HasEachOnce z) (sym (c.in_ok-edge_names.ensures ∙ c.items-2.ensures)) c.requires.edges_differ;
}
