use Rattle.std.proofs.Common.{rules, subst}
use Rattle.std.proofs.lemmas.Bool.{both_ways}
use Rattle.st_session.specs.Editing.{OthersIn, OthersOut}
use Rattle.st_session.specs.States.{SessionValue}
use Rattle.st_session.proofs.session.Session.edge_to_remove.Goals as goal

pub returns-then-not-has_other_out-clause-fault : goal.returns-then-not-has_other_out-clause-fault
returns-then-not-has_other_out-clause-fault c = (
  c.in-Some.e,
  search rules,
  subst (λ (z : SessionValue). OthersIn z.state.graph c.in-Some.e) c.self.view_is (c.has_other_in.ensures.0 (search rules)),
  subst (λ (z : SessionValue). OthersOut z.state.graph c.in-Some.e → ⊥) c.self.view_is (λ h. both_ways c.has_other_out.result (search rules) (c.has_other_out.ensures.1 h)),
  search rules,
)

pub returns-clause-others_out : goal.returns-clause-others_out
returns-clause-others_out c = subst (λ (z : SessionValue). OthersOut z.state.graph c.in-Some.e) c.self.view_is (c.has_other_out.ensures.0 (search rules))
