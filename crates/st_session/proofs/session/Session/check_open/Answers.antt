use Rattle.std.proofs.Common.{rules, ◌<◌, w64, ap, sym, ◌∙◌, subst}
use Rattle.std.proofs.lemmas.Int.{to_z-of_z}
use Rattle.std.proofs.lemmas.Bool.{both_ways}
use Rattle.st_map.specs.Embedded.{at, darts, next, phi}
use Rattle.st_map.specs.Orbits.{SameOrbit}
use Rattle.st_session.specs.Edits.{AreInner, ClosesCycle}
use Rattle.st_session.specs.Editing.{CornersMeet}
use Rattle.st_session.specs.States.{SessionValue}
use Rattle.st_session.proofs.SessionLemmas.{closes_cycle, head_end_in, stays_open, tail_end_in}
use Rattle.st_session.proofs.session.Session.check_open.Goals as goal

pub vertex_of-from-requires : goal.vertex_of-from-requires
vertex_of-from-requires c = subst (λ (z : SessionValue). c.args.q.0 < darts z.state.graph) (sym c.self.view_is) (head_end_in c.args.self.now c.args.names.now c.args.p.0 c.args.q.0 c.requires.ends)

pub vertex_of-to-requires : goal.vertex_of-to-requires
vertex_of-to-requires c = subst (λ (z : SessionValue). c.args.p.0 < darts z.state.graph) (sym c.self.view_is) (tail_end_in c.args.self.now c.args.names.now c.args.p.0 c.args.q.0 c.requires.ends)

pub next_cw-corner-requires : goal.next_cw-corner-requires
next_cw-corner-requires c = subst (λ (z : SessionValue). c.args.p.0 < darts z.state.graph) (sym c.self.view_is) (tail_end_in c.args.self.now c.args.names.now c.args.p.0 c.args.q.0 c.requires.ends)

pub is_corner_of-one_face-requires-clause-d_there : goal.is_corner_of-one_face-requires-clause-d_there
is_corner_of-one_face-requires-clause-d_there c = subst (λ (z : SessionValue). c.args.q.0 < darts z.state.graph) (sym c.self.view_is) (head_end_in c.args.self.now c.args.names.now c.args.p.0 c.args.q.0 c.requires.ends)

pub numbers-requires-clause-u_there : goal.numbers-requires-clause-u_there
numbers-requires-clause-u_there c = subst (λ (z : SessionValue). c.vertex_of-from.result.0 < z.state.graph.vertices) c.self.view_is c.vertex_of-from.ensures.within

pub numbers-requires-clause-v_there : goal.numbers-requires-clause-v_there
numbers-requires-clause-v_there c = subst (λ (z : SessionValue). c.vertex_of-to.result.0 < z.state.graph.vertices) c.self.view_is c.vertex_of-to.ensures.within

pub returns-then-reply-clause-fault : goal.returns-then-reply-clause-fault
returns-then-reply-clause-fault c = (
  to_z-of_z w64 c.args.names.now.tail (search rules),
  to_z-of_z w64 c.args.names.now.head (search rules),
  c.args.p.0,
  c.args.q.0,
  c.requires,
  closes_cycle c.args.self.now.state c.args.p.0 c.args.q.0 c.vertex_of-from.result.0 c.vertex_of-to.result.0 c.in_ok-reply.reply c.in_ok-reply.ensures.numbers
      (c.vertex_of-from.ensures.value ∙ ap (λ (z : SessionValue). at z.state.graph c.args.q.0) c.self.view_is) (c.vertex_of-to.ensures.value ∙ ap (λ (z : SessionValue). at z.state.graph c.args.p.0) c.self.view_is) c.if-reply.true,
)

pub returns-clause-inner : goal.returns-clause-inner
returns-clause-inner c = subst (λ (z : SessionValue). AreInner z c.args.names.now c.args.p.0 c.args.q.0) (sym c.in_ok-reply.ensures.kept) c.requires

pub returns-clause-open : goal.returns-clause-open
returns-clause-open c = subst (λ (z : SessionValue). ClosesCycle z.state c.args.p.0 c.args.q.0 → ⊥) (sym c.in_ok-reply.ensures.kept)
    (stays_open c.args.self.now.state c.args.p.0 c.args.q.0 c.vertex_of-from.result.0 c.vertex_of-to.result.0 c.in_ok-reply.reply c.in_ok-reply.ensures.numbers
    (c.vertex_of-from.ensures.value ∙ ap (λ (z : SessionValue). at z.state.graph c.args.q.0) c.self.view_is) (c.vertex_of-to.ensures.value ∙ ap (λ (z : SessionValue). at z.state.graph c.args.p.0) c.self.view_is) c.if-reply.false)

pub returns-then-not-one_face-clause-fault : goal.returns-then-not-one_face-clause-fault
returns-then-not-one_face-clause-fault c = (
  c.args.p.0,
  c.args.q.0,
  c.requires,
  (stays_open c.args.self.now.state c.args.p.0 c.args.q.0 c.vertex_of-from.result.0 c.vertex_of-to.result.0 c.in_ok-reply.reply c.in_ok-reply.ensures.numbers
      (c.vertex_of-from.ensures.value ∙ ap (λ (z : SessionValue). at z.state.graph c.args.q.0) c.self.view_is) (c.vertex_of-to.ensures.value ∙ ap (λ (z : SessionValue). at z.state.graph c.args.p.0) c.self.view_is) c.if-reply.false),
  subst (λ (z : SessionValue). CornersMeet z.state.graph c.args.p.0 c.args.q.0 → ⊥) c.self.view_is
      (λ h. both_ways c.is_corner_of-one_face.result (search rules) (c.is_corner_of-one_face.ensures.1 (subst (λ z. SameOrbit (phi c.self.inside.map.graph) z (next c.self.inside.map.graph c.args.q.0)) (sym c.next_cw-corner.ensures.value) h))),
)

pub returns-clause-one_face : goal.returns-clause-one_face
returns-clause-one_face c = subst (λ (z : SessionValue). CornersMeet z.state.graph c.args.p.0 c.args.q.0) (sym c.in_ok-reply.ensures.kept)
    (subst (λ (z : SessionValue). CornersMeet z.state.graph c.args.p.0 c.args.q.0) c.self.view_is
    (subst (λ z. SameOrbit (phi c.self.inside.map.graph) z (next c.self.inside.map.graph c.args.q.0)) c.next_cw-corner.ensures.value (c.is_corner_of-one_face.ensures.0 (search rules))))
