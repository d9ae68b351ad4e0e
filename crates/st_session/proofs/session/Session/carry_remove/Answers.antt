use Rattle.std.proofs.Common.{◌≡◌, ◌<◌, length, None, sym, subst, arith}
use Rattle.st_map.specs.Embedded.{edges}
use Rattle.st_session.specs.Edits.{remove_state, with_state}
use Rattle.st_session.specs.Kept.{IsKeptSession, session_value}
use Rattle.st_session.specs.States.{SessionValue}
use Rattle.st_session.proofs.KeptLemmas.{kept_remove}
use Rattle.st_session.proofs.SessionLemmas.{kept_of, value_removed}
use Rattle.st_session.proofs.session.Session.carry_remove.Goals as goal

pub next_outer-self-inside-requires-clause-there : goal.next_outer-self-inside-requires-clause-there
next_outer-self-inside-requires-clause-there c = subst (λ (z : SessionValue). c.args.e.0 < edges z.state.graph) (sym c.self.view_is) c.requires.there

pub next_outer-self-inside-requires-clause-outer : goal.next_outer-self-inside-requires-clause-outer
next_outer-self-inside-requires-clause-outer c = c.self.invariant.planar.outer_in

pub remove_edge-requires : goal.remove_edge-requires
remove_edge-requires c = subst (λ (z : SessionValue). c.args.e.0 < edges z.state.graph) (sym c.self.view_is) c.requires.there

pub take_out-requires : goal.take_out-requires
take_out-requires c =
    let there : c.args.e.0 < edges c.self.inside.map.graph = subst (λ (z : SessionValue). c.args.e.0 < edges z.state.graph) (sym c.self.view_is) c.requires.there in
    let size : length c.self.inside.edge_names ≡ edges c.self.inside.map.graph = c.self.invariant.edge_names in
    omega arith

pub invariant_of-self : goal.invariant_of-self
invariant_of-self c =
    let after : session_value c.remove_edge.new.self.graph c.self.inside.vertex_names c.take_out.new.self c.next_outer-self-inside.result.0 c.self.inside.max_vertices c.self.inside.max_edges ≡ with_state c.args.self.now (remove_state c.args.self.now.state c.args.e.0) =
    value_removed c.args.self.now c.self.inside.map.graph c.self.inside.vertex_names c.self.inside.edge_names c.self.inside.outer.0 c.self.inside.max_vertices c.self.inside.max_edges c.self.view_is
    c.remove_edge.new.self.graph c.take_out.new.self c.next_outer-self-inside.result.0 c.args.e.0 c.remove_edge.ensures.graph c.take_out.ensures c.next_outer-self-inside.ensures in
    let kept : IsKeptSession c.args.self.now c.self.inside.poles.source.0 c.self.inside.poles.sink.0 c.self.inside.labels = kept_of (session_value c.self.inside.map.graph c.self.inside.vertex_names c.self.inside.edge_names c.self.inside.outer.0 c.self.inside.max_vertices c.self.inside.max_edges) c.args.self.now c.self.inside.poles.source.0 c.self.inside.poles.sink.0 c.self.inside.labels c.self.view_is c.self.invariant in
    kept_of (with_state c.args.self.now (remove_state c.args.self.now.state c.args.e.0)) (session_value c.remove_edge.new.self.graph c.self.inside.vertex_names c.take_out.new.self c.next_outer-self-inside.result.0 c.self.inside.max_vertices c.self.inside.max_edges) c.self.inside.poles.source.0 c.self.inside.poles.sink.0 None (sym after)
    (kept_remove c.removal.ensures c.args.self.now c.self.inside.poles.source.0 c.self.inside.poles.sink.0 c.self.inside.labels kept c.args.e.0 c.requires.there c.requires.others_in c.requires.others_out)

pub returns : goal.returns
returns c =
    value_removed c.args.self.now c.self.inside.map.graph c.self.inside.vertex_names c.self.inside.edge_names c.self.inside.outer.0 c.self.inside.max_vertices c.self.inside.max_edges c.self.view_is
    c.remove_edge.new.self.graph c.take_out.new.self c.next_outer-self-inside.result.0 c.args.e.0 c.remove_edge.ensures.graph c.take_out.ensures c.next_outer-self-inside.ensures
