use Rattle.std.proofs.Common.{rules, ◌≡◌, ◌<◌, ◌++◌, ◌∷◌, [], ℤ, None, w64, ap, sym, ◌∙◌, subst}
use Rattle.std.proofs.lemmas.Int.{to_z-of_z}
use Rattle.st_map.specs.Embedded.{Embedded, edges}
use Rattle.st_map.specs.Split.{split}
use Rattle.st_session.specs.Edits.{split_state, with_state}
use Rattle.st_session.specs.Kept.{IsKeptSession, session_value}
use Rattle.st_session.specs.States.{SessionValue}
use Rattle.st_session.proofs.KeptLemmas.{kept_split}
use Rattle.st_session.proofs.SessionLemmas.{kept_of, value_split}
use Rattle.st_session.proofs.session.Session.carry_split.Goals as goal

pub split_edge-requires-clause-edge : goal.split_edge-requires-clause-edge
split_edge-requires-clause-edge c = subst (λ (z : Embedded). c.args.e.0 < edges z) (sym c.make_room.ensures.graph) (subst (λ (z : SessionValue). c.args.e.0 < edges z.state.graph) (sym c.self.view_is) c.requires.there)

pub invariant_of-self : goal.invariant_of-self
invariant_of-self c = rw c.make_room.ensures.graph c.self.invariant

pub invariant_of-self-in_err-add_two : goal.invariant_of-self-in_err-add_two
invariant_of-self-in_err-add_two c = rw (c.make_room.ensures.graph, c.in_err-add_two.ensures.first_kept, c.in_err-add_two.ensures.second_kept) c.self.invariant

pub invariant_of-self-2 : goal.invariant_of-self-2
invariant_of-self-2 c =
    let after : session_value c.split_edge.new.self.graph c.add_two.new.first c.add_two.new.second c.self.inside.outer.0 c.self.inside.max_vertices c.self.inside.max_edges ≡ with_state c.args.self.now (split_state c.args.self.now.state c.args.e.0 c.args.vertex c.args.new_edge) =
    value_split c.args.self.now c.self.inside.map.graph c.self.inside.vertex_names c.self.inside.edge_names c.self.inside.outer.0 c.self.inside.max_vertices c.self.inside.max_edges c.self.view_is
    c.split_edge.new.self.graph c.add_two.new.first c.add_two.new.second c.args.e.0 c.args.vertex c.args.new_edge
    (c.split_edge.ensures.graph ∙ ap (λ (z : Embedded). split z c.args.e.0) c.make_room.ensures.graph)
    (c.in_ok-add_two.ensures.first ∙ ap (λ (z : ℤ). c.self.inside.vertex_names ++ z ∷ []) (to_z-of_z w64 c.args.vertex (search rules)))
    (c.in_ok-add_two.ensures.second ∙ ap (λ (z : ℤ). c.self.inside.edge_names ++ z ∷ []) (to_z-of_z w64 c.args.new_edge (search rules))) in
    let kept : IsKeptSession c.args.self.now c.self.inside.poles.source.0 c.self.inside.poles.sink.0 c.self.inside.labels = kept_of (session_value c.self.inside.map.graph c.self.inside.vertex_names c.self.inside.edge_names c.self.inside.outer.0 c.self.inside.max_vertices c.self.inside.max_edges) c.args.self.now c.self.inside.poles.source.0 c.self.inside.poles.sink.0 c.self.inside.labels c.self.view_is c.self.invariant in
    kept_of (with_state c.args.self.now (split_state c.args.self.now.state c.args.e.0 c.args.vertex c.args.new_edge)) (session_value c.split_edge.new.self.graph c.add_two.new.first c.add_two.new.second c.self.inside.outer.0 c.self.inside.max_vertices c.self.inside.max_edges) c.self.inside.poles.source.0 c.self.inside.poles.sink.0 None (sym after)
    (kept_split c.split.ensures c.args.self.now c.self.inside.poles.source.0 c.self.inside.poles.sink.0 c.self.inside.labels kept c.args.e.0 c.args.vertex c.args.new_edge c.requires.there c.requires.vertices c.requires.edges)

pub returns-clause-split : goal.returns-clause-split
returns-clause-split c =
    value_split c.args.self.now c.self.inside.map.graph c.self.inside.vertex_names c.self.inside.edge_names c.self.inside.outer.0 c.self.inside.max_vertices c.self.inside.max_edges c.self.view_is
    c.split_edge.new.self.graph c.add_two.new.first c.add_two.new.second c.args.e.0 c.args.vertex c.args.new_edge
    (c.split_edge.ensures.graph ∙ ap (λ (z : Embedded). split z c.args.e.0) c.make_room.ensures.graph)
    (c.in_ok-add_two.ensures.first ∙ ap (λ (z : ℤ). c.self.inside.vertex_names ++ z ∷ []) (to_z-of_z w64 c.args.vertex (search rules)))
    (c.in_ok-add_two.ensures.second ∙ ap (λ (z : ℤ). c.self.inside.edge_names ++ z ∷ []) (to_z-of_z w64 c.args.new_edge (search rules)))
