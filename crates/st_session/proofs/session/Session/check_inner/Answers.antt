use Rattle.std.proofs.Common.{◌<◌, false, inl, inr, refl, sym, subst}
use Rattle.std.proofs.lemmas.Bool.{both_ways}
use Rattle.st_map.specs.Embedded.{darts}
use Rattle.st_session.specs.Editing.{IsOuterCorner}
use Rattle.st_session.specs.States.{SessionValue}
use Rattle.st_session.proofs.SessionLemmas.{head_end_in, tail_end_in}
use Rattle.st_session.proofs.session.Session.check_inner.Goals as goal

pub is_corner_of-requires-clause-c_there : goal.is_corner_of-requires-clause-c_there
is_corner_of-requires-clause-c_there c = c.self.invariant.planar.outer_in

pub is_corner_of-requires-clause-d_there : goal.is_corner_of-requires-clause-d_there
is_corner_of-requires-clause-d_there c = subst (λ (z : SessionValue). c.args.p.0 < darts z.state.graph) (sym c.self.view_is) (tail_end_in c.args.self.now c.args.names.now c.args.p.0 c.args.q.0 c.requires)

pub is_corner_of-requires-2-clause-c_there : goal.is_corner_of-requires-2-clause-c_there
is_corner_of-requires-2-clause-c_there c = c.self.invariant.planar.outer_in

pub is_corner_of-requires-2-clause-d_there : goal.is_corner_of-requires-2-clause-d_there
is_corner_of-requires-2-clause-d_there c = subst (λ (z : SessionValue). c.args.q.0 < darts z.state.graph) (sym c.self.view_is) (head_end_in c.args.self.now c.args.names.now c.args.p.0 c.args.q.0 c.requires)

pub returns-then-is_corner_of-clause-fault : goal.returns-then-is_corner_of-clause-fault
returns-then-is_corner_of-clause-fault c = (
  c.args.p.0,
  c.args.q.0,
  c.requires,
  inl (subst (λ (z : SessionValue). IsOuterCorner z.state.graph z.state.outer c.args.p.0) c.self.view_is (c.if-is_corner_of.ensures.0 refl)),
)

pub returns-then-is_corner_of-2-clause-fault : goal.returns-then-is_corner_of-2-clause-fault
returns-then-is_corner_of-2-clause-fault c = (
  c.args.p.0,
  c.args.q.0,
  c.requires,
  inr (subst (λ (z : SessionValue). IsOuterCorner z.state.graph z.state.outer c.args.q.0) c.self.view_is (c.if-is_corner_of-2.ensures.0 refl)),
)

pub returns-clause-inner : goal.returns-clause-inner
returns-clause-inner c = record {
  ends = c.requires;
  tail_inner = subst (λ (z : SessionValue). IsOuterCorner z.state.graph z.state.outer c.args.p.0 → ⊥) c.self.view_is (λ h. both_ways false refl (c.if-is_corner_of.ensures.1 h));
  head_inner = subst (λ (z : SessionValue). IsOuterCorner z.state.graph z.state.outer c.args.q.0 → ⊥) c.self.view_is (λ h. both_ways false refl (c.if-is_corner_of-2.ensures.1 h));
}
