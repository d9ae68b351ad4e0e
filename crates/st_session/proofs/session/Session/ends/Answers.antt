use Rattle.std.proofs.Common.{rules, ◌≡◌, ◌<◌, w64, inr, refl, sym, subst}
use Rattle.std.proofs.lemmas.Int.{to_z-of_z}
use Rattle.std.proofs.lemmas.Option.{slice_get_within}
use Rattle.st_map.specs.Orders.{IsEdgeAt, end_at}
use Rattle.st_session.specs.Edits.{AreJoined}
use Rattle.st_session.specs.States.{IsNameAt, SessionValue}
use Rattle.st_session.proofs.EndLemmas.{edge_at}
use Rattle.st_session.proofs.session.Session.ends.Goals as goal

pub returns-in_default-end_of-clause-fault : goal.returns-in_default-end_of-clause-fault
returns-in_default-end_of-clause-fault c = (
  c.args.named.tail.0,
  c.args.named.tail_after.0,
  c.args.named.head.0,
  c.args.named.head_after.0,
  c.requires,
  (
    (search rules),
    inr (
      to_z-of_z w64 c.args.names.now.head_after (search rules),
      to_z-of_z w64 c.args.names.now.head (search rules),
      subst (λ (z : SessionValue). IsEdgeAt z.state.graph.ends c.args.named.tail.0 c.args.named.tail_after.0) c.self.view_is (edge_at c.self.inside.map.graph c.args.named.tail.0 c.args.named.tail_after.0 c.in-Some.p.0 (subst (λ n. c.args.named.tail_after.0 < n) c.self.invariant.edge_names (slice_get_within c.self.inside.edge_names c.args.named.tail_after.0 c.args.names.now.tail_after (subst (λ (z : SessionValue). IsNameAt z.state.edge_names c.args.named.tail_after.0 c.args.names.now.tail_after) (sym c.self.view_is) c.requires.tail_after_is))) c.in-Some.ensures.value c.in-Some.ensures.vertex),
      subst (λ (z : SessionValue). IsEdgeAt z.state.graph.ends c.args.named.head.0 c.args.named.head_after.0 → ⊥) c.self.view_is (c.in_default-end_of.ensures.none.0 refl),
    ),
  ),
)

pub returns-then-m-self-clause-fault : goal.returns-then-m-self-clause-fault
returns-then-m-self-clause-fault c =
    let joined : AreJoined c.args.self.now.state c.args.names.now c.args.named.tail.0 c.args.named.tail_after.0 c.args.named.head.0 c.args.named.head_after.0 = record {
      named = c.requires;
      apart = search rules;
      tail_at = subst (λ (z : SessionValue). IsEdgeAt z.state.graph.ends c.args.named.tail.0 c.args.named.tail_after.0) c.self.view_is (edge_at c.self.inside.map.graph c.args.named.tail.0 c.args.named.tail_after.0 c.in-Some.p.0 (subst (λ n. c.args.named.tail_after.0 < n) c.self.invariant.edge_names (slice_get_within c.self.inside.edge_names c.args.named.tail_after.0 c.args.names.now.tail_after (subst (λ (z : SessionValue). IsNameAt z.state.edge_names c.args.named.tail_after.0 c.args.names.now.tail_after) (sym c.self.view_is) c.requires.tail_after_is))) c.in-Some.ensures.value c.in-Some.ensures.vertex);
      head_at = subst (λ (z : SessionValue). IsEdgeAt z.state.graph.ends c.args.named.head.0 c.args.named.head_after.0) c.self.view_is (edge_at c.self.inside.map.graph c.args.named.head.0 c.args.named.head_after.0 c.in-Some-end_of.q.0 (subst (λ n. c.args.named.head_after.0 < n) c.self.invariant.edge_names (slice_get_within c.self.inside.edge_names c.args.named.head_after.0 c.args.names.now.head_after (subst (λ (z : SessionValue). IsNameAt z.state.edge_names c.args.named.head_after.0 c.args.names.now.head_after) (sym c.self.view_is) c.requires.head_after_is))) c.in-Some-end_of.ensures.value c.in-Some-end_of.ensures.vertex);
    } in (
      search rules,
      search rules,
      (
        c.args.named.tail.0,
        c.args.named.tail_after.0,
        c.args.named.head.0,
        c.args.named.head_after.0,
        c.requires,
        joined,
      ),
    )

pub returns-clause-ends : goal.returns-clause-ends
returns-clause-ends c =
    let joined : AreJoined c.args.self.now.state c.args.names.now c.args.named.tail.0 c.args.named.tail_after.0 c.args.named.head.0 c.args.named.head_after.0 = record {
      named = c.requires;
      apart = search rules;
      tail_at = subst (λ (z : SessionValue). IsEdgeAt z.state.graph.ends c.args.named.tail.0 c.args.named.tail_after.0) c.self.view_is (edge_at c.self.inside.map.graph c.args.named.tail.0 c.args.named.tail_after.0 c.in-Some.p.0 (subst (λ n. c.args.named.tail_after.0 < n) c.self.invariant.edge_names (slice_get_within c.self.inside.edge_names c.args.named.tail_after.0 c.args.names.now.tail_after (subst (λ (z : SessionValue). IsNameAt z.state.edge_names c.args.named.tail_after.0 c.args.names.now.tail_after) (sym c.self.view_is) c.requires.tail_after_is))) c.in-Some.ensures.value c.in-Some.ensures.vertex);
      head_at = subst (λ (z : SessionValue). IsEdgeAt z.state.graph.ends c.args.named.head.0 c.args.named.head_after.0) c.self.view_is (edge_at c.self.inside.map.graph c.args.named.head.0 c.args.named.head_after.0 c.in-Some-end_of.q.0 (subst (λ n. c.args.named.head_after.0 < n) c.self.invariant.edge_names (slice_get_within c.self.inside.edge_names c.args.named.head_after.0 c.args.names.now.head_after (subst (λ (z : SessionValue). IsNameAt z.state.edge_names c.args.named.head_after.0 c.args.names.now.head_after) (sym c.self.view_is) c.requires.head_after_is))) c.in-Some-end_of.ensures.value c.in-Some-end_of.ensures.vertex);
    } in
    record {
      u = c.args.named.tail.0;
      a = c.args.named.tail_after.0;
      v = c.args.named.head.0;
      b = c.args.named.head_after.0;
      joined = joined;
      p_is = subst (λ (z : SessionValue). c.in-Some.p.0 ≡ end_at z.state.graph.ends c.args.named.tail.0 c.args.named.tail_after.0) c.self.view_is c.in-Some.ensures.value;
      q_is = subst (λ (z : SessionValue). c.in-Some-end_of.q.0 ≡ end_at z.state.graph.ends c.args.named.head.0 c.args.named.head_after.0) c.self.view_is c.in-Some-end_of.ensures.value;
      room = search rules;
    }
