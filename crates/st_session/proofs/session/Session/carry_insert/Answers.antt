use Rattle.std.proofs.Common.{rules, ◌≡◌, ◌≢◌, ◌<◌, ◌++◌, ◌∷◌, [], ℤ, None, w64, ap, sym, ◌∙◌, subst}
use Rattle.std.proofs.lemmas.Int.{to_z-of_z}
use Rattle.st_map.specs.Embedded.{Embedded, at, darts}
use Rattle.st_map.specs.Insert.{insert}
use Rattle.st_session.specs.Edits.{insert_state, with_state}
use Rattle.st_session.specs.Kept.{IsKeptSession, session_value}
use Rattle.st_session.specs.States.{LacksName, SessionValue}
use Rattle.st_session.proofs.KeptLemmas.{kept_insert}
use Rattle.st_session.proofs.SessionLemmas.{ends_apart, head_end_in, kept_of, tail_end_in, value_insert}
use Rattle.st_session.proofs.session.Session.carry_insert.Goals as goal

pub add-requires : goal.add-requires
add-requires c = subst (λ (z : ℤ). LacksName c.self.inside.edge_names z) (sym (to_z-of_z w64 c.args.names.now.edge (search rules))) (subst (λ (z : SessionValue). LacksName z.state.edge_names c.args.names.now.edge) (sym c.self.view_is) c.requires.inner.ends.joined.named.new_edge)

pub insert_edge-requires-clause-a : goal.insert_edge-requires-clause-a
insert_edge-requires-clause-a c = subst (λ (z : Embedded). c.args.p.0 < darts z) (sym c.make_room.ensures.graph) (subst (λ (z : SessionValue). c.args.p.0 < darts z.state.graph) (sym c.self.view_is) (tail_end_in c.args.self.now c.args.names.now c.args.p.0 c.args.q.0 c.requires.inner.ends))

pub insert_edge-requires-clause-b : goal.insert_edge-requires-clause-b
insert_edge-requires-clause-b c = subst (λ (z : Embedded). c.args.q.0 < darts z) (sym c.make_room.ensures.graph) (subst (λ (z : SessionValue). c.args.q.0 < darts z.state.graph) (sym c.self.view_is) (head_end_in c.args.self.now c.args.names.now c.args.p.0 c.args.q.0 c.requires.inner.ends))

pub insert_edge-requires-clause-apart : goal.insert_edge-requires-clause-apart
insert_edge-requires-clause-apart c = subst (λ (z : Embedded). at z c.args.p.0 ≢ at z c.args.q.0) (sym c.make_room.ensures.graph) (subst (λ (z : SessionValue). at z.state.graph c.args.p.0 ≢ at z.state.graph c.args.q.0) (sym c.self.view_is) (ends_apart c.args.self.now c.args.names.now c.args.p.0 c.args.q.0 c.requires.inner.ends))

pub invariant_of-self : goal.invariant_of-self
invariant_of-self c = rw c.make_room.ensures.graph c.self.invariant

pub invariant_of-self-in_err-add : goal.invariant_of-self-in_err-add
invariant_of-self-in_err-add c = rw (c.make_room.ensures.graph, c.in_err-add.ensures.err) c.self.invariant

pub invariant_of-self-2 : goal.invariant_of-self-2
invariant_of-self-2 c =
    let after : session_value c.insert_edge.new.self.graph c.self.inside.vertex_names c.add.new.self c.self.inside.outer.0 c.self.inside.max_vertices c.self.inside.max_edges ≡ with_state c.args.self.now (insert_state c.args.self.now.state c.args.p.0 c.args.q.0 c.args.names.now.edge) =
    value_insert c.args.self.now c.self.inside.map.graph c.self.inside.vertex_names c.self.inside.edge_names c.self.inside.outer.0 c.self.inside.max_vertices c.self.inside.max_edges c.self.view_is
    c.insert_edge.new.self.graph c.add.new.self c.args.p.0 c.args.q.0 c.args.names.now.edge
    (c.insert_edge.ensures.graph ∙ ap (λ (z : Embedded). insert z c.args.p.0 c.args.q.0) c.make_room.ensures.graph)
    (c.in_ok-add.ensures.ok ∙ ap (λ (z : ℤ). c.self.inside.edge_names ++ z ∷ []) (to_z-of_z w64 c.args.names.now.edge (search rules))) in
    let kept : IsKeptSession c.args.self.now c.self.inside.poles.source.0 c.self.inside.poles.sink.0 c.self.inside.labels = kept_of (session_value c.self.inside.map.graph c.self.inside.vertex_names c.self.inside.edge_names c.self.inside.outer.0 c.self.inside.max_vertices c.self.inside.max_edges) c.args.self.now c.self.inside.poles.source.0 c.self.inside.poles.sink.0 c.self.inside.labels c.self.view_is c.self.invariant in
    kept_of (with_state c.args.self.now (insert_state c.args.self.now.state c.args.p.0 c.args.q.0 c.args.names.now.edge)) (session_value c.insert_edge.new.self.graph c.self.inside.vertex_names c.add.new.self c.self.inside.outer.0 c.self.inside.max_vertices c.self.inside.max_edges) c.self.inside.poles.source.0 c.self.inside.poles.sink.0 None (sym after)
    (kept_insert c.insertion.ensures c.args.self.now c.self.inside.poles.source.0 c.self.inside.poles.sink.0 c.self.inside.labels kept c.args.p.0 c.args.q.0 c.args.names.now.edge (tail_end_in c.args.self.now c.args.names.now c.args.p.0 c.args.q.0 c.requires.inner.ends) (head_end_in c.args.self.now c.args.names.now c.args.p.0 c.args.q.0 c.requires.inner.ends) (ends_apart c.args.self.now c.args.names.now c.args.p.0 c.args.q.0 c.requires.inner.ends) c.requires.inner.ends.room c.requires.inner.tail_inner c.requires.open c.requires.one_face)

pub returns-clause-insert : goal.returns-clause-insert
returns-clause-insert c = record {
  p = c.args.p.0;
  q = c.args.q.0;
  inner = c.requires.inner;
  acyclic = c.requires.open;
  one_face = c.requires.one_face;
  is =
      value_insert c.args.self.now c.self.inside.map.graph c.self.inside.vertex_names c.self.inside.edge_names c.self.inside.outer.0 c.self.inside.max_vertices c.self.inside.max_edges c.self.view_is
      c.insert_edge.new.self.graph c.add.new.self c.args.p.0 c.args.q.0 c.args.names.now.edge
      (c.insert_edge.ensures.graph ∙ ap (λ (z : Embedded). insert z c.args.p.0 c.args.q.0) c.make_room.ensures.graph)
      (c.in_ok-add.ensures.ok ∙ ap (λ (z : ℤ). c.self.inside.edge_names ++ z ∷ []) (to_z-of_z w64 c.args.names.now.edge (search rules)));
}
