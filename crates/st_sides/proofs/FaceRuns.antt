-- The count of corners of a planar st-graph.
use Rattle.std.proofs.Common.{◌≡◌, ◌≢◌, ℕ, zero, suc, ◌+◌, ◌-◌, ◌*◌, ◌<◌, ◌≤◌, Bool, true, false, not, eqb, ◌∷◌, refl, sym, ap, ◌∙◌, subst, inl, inr, arith}
use Rattle.std.proofs.lemmas.Bool.{eqb-true, eqb-false, and_from, and_parts, not-true, not-false, true_from_ne_false, false_from_ne_true}
use Rattle.st_map.specs.Counting.{count_below}
use Rattle.st_map.specs.Orbits.{iterate, Permutes, SameOrbit, least_within}
use Rattle.st_sides.specs.Runs.{TwoRuns}
use Rattle.st_sides.specs.Corners.{turns_up, turns_down, goes_up, goes_down, is_inner}
use Rattle.st_ids.specs.Ends.{is_out, edge_of, twin}
use Rattle.st_map.specs.Embedded.{Embedded, edges, darts, tail, head, at, next, phi, face, faces}
use Rattle.st_sides.specs.GraphWalks.{IsWalk}
use Rattle.st_ids.specs.Walks.{stay, step}
use Rattle.st_map.specs.Embedded.{HasOrders}
use Rattle.st_sides.specs.GraphWalks.{HasNoCycle}
use Rattle.st_test.specs.Planar.{IsPlanarSt}
use Rattle.st_sides.specs.Stretches.{forward, backward}
use Rattle.st_map.proofs.Public.{orbit-trans, orbit-sym, orbit-stays, iterate-stays, iterate-step, some_or_none, period, change_between, before, orbit-step, steps, even_or_odd, is_out-tail, is_out-head, at-tail, at-head, at-out, at-in, twin-twin, twin-out, twin-in, is_out-twin, twin-below, edge_of-below, twin-apart, at-next, next-permutes, phi-permutes, at-phi, same_vertex, at-iterate}
use Rattle.st_sides.proofs.TwoRunLemmas.{two_runs}
use Rattle.st_sides.proofs.CornerLemmas as corners

-- at the twin of an end in, phi leads to the next
pub phi-twin : (g : Embedded) (d : ℕ) → phi g (twin d) ≡ next g d
unfolding phi
phi-twin g d = ap (next g) (twin-twin d)

pub at-twin_out : (g : Embedded) (d : ℕ) → is_out d ≡ true → at g (twin d) ≡ head g (edge_of d)
at-twin_out g d o = ap (at g) (twin-out d o) ∙ at-head g (edge_of d)

pub at-twin_in : (g : Embedded) (d : ℕ) → is_out d ≡ false → at g (twin d) ≡ tail g (edge_of d)
at-twin_in g d o = ap (at g) (twin-in d o) ∙ at-tail g (edge_of d)

module _ (g : Embedded) (orders : HasOrders g) (ends_in : (e : ℕ) → e < edges g → (tail g e < g.vertices) × (head g e < g.vertices)) where
  pub at_below : (d : ℕ) → d < darts g → at g d < g.vertices
  at_below d l = elim (even_or_odd d) [
    | inl r ↦ let e : at g d ≡ tail g r.0 = ap (at g) r.1 ∙ at-tail g r.0 in omega (arith, ends_in r.0 (omega (arith, r.1)))
    | inr r ↦ let e : at g d ≡ head g r.0 = ap (at g) r.1 ∙ at-head g r.0 in omega (arith, ends_in r.0 (omega (arith, r.1)))
  ]

  -- a stretch of ends out is a walk up
  pub forward_walk : (k d : ℕ) → d < darts g → ((j : ℕ) → j < k → is_out (iterate j (phi g) d) ≡ true)
      → IsWalk g (at g d) (forward k (phi g) d) (at g (iterate k (phi g) d))
  forward_walk zero d l out = stay refl
  forward_walk (suc k) d l out =
      let o : is_out d ≡ true = out 0 (omega arith) in
      let perm : Permutes (darts g) (phi g) = phi-permutes g orders at_below in
      let rest : IsWalk g (at g (phi g d)) (forward k (phi g) (phi g d)) (at g (iterate k (phi g) (phi g d))) =
      forward_walk k (phi g d) (perm.stays d l) (λ j lj. ap is_out (iterate-step j (phi g) d) ∙ out (suc j) (omega arith)) in
      let from : at g (phi g d) ≡ head g (edge_of d) = at-phi g orders at_below d l ∙ at-twin_out g d o in
      step (edge_of-below (edges g) d l)
      (sym (at-out g d o))
      (subst (λ v. IsWalk g v (forward k (phi g) (phi g d)) (at g (phi g (iterate k (phi g) d)))) from
      (subst (λ v. IsWalk g (at g (phi g d)) (forward k (phi g) (phi g d)) (at g v)) (iterate-step k (phi g) d) rest))

  -- a stretch of ends in, backward, is a walk up
  pub backward_walk : (k d : ℕ) → d < darts g → ((j : ℕ) → j < k → is_out (iterate j (phi g) d) ≡ false)
      → IsWalk g (at g (iterate k (phi g) d)) (backward k (phi g) d) (at g d)
  backward_walk zero d l out = stay refl
  backward_walk (suc k) d l out =
      let c : ℕ = iterate k (phi g) d in
      let lc : c < darts g = iterate-stays (darts g) (phi g) (phi-permutes g orders at_below) k d l in
      let i : is_out c ≡ false = out k (omega arith) in
      let rest : IsWalk g (at g c) (backward k (phi g) d) (at g d) = backward_walk k d l (λ j lj. out j (omega arith)) in
      step (edge_of-below (edges g) c lc)
      (sym (at-phi g orders at_below c lc ∙ at-twin_in g c i))
      (subst (λ v. IsWalk g v (backward k (phi g) d) (at g d)) (at-in g c i) rest)

  module _ (no_cycle : HasNoCycle g) where
    no_loop_up : (p d : ℕ) → 0 < p → d < darts g → iterate p (phi g) d ≡ d → ((j : ℕ) → j < p → is_out (iterate j (phi g) d) ≡ true) → ⊥
    no_loop_up zero d pos l e out = omega arith
    no_loop_up (suc k) d pos l e out =
        let w : IsWalk g (at g d) (edge_of d ∷ forward k (phi g) (phi g d)) (at g (iterate (suc k) (phi g) d)) = forward_walk (suc k) d l out in
        no_cycle (at g d) (edge_of d) (forward k (phi g) (phi g d))
        (subst (λ v. IsWalk g (at g d) (edge_of d ∷ forward k (phi g) (phi g d)) (at g v)) e w)

    no_loop_down : (p d : ℕ) → 0 < p → d < darts g → iterate p (phi g) d ≡ d → ((j : ℕ) → j < p → is_out (iterate j (phi g) d) ≡ false) → ⊥
    no_loop_down zero d pos l e out = omega arith
    no_loop_down (suc k) d pos l e out =
        let w : IsWalk g (at g (iterate (suc k) (phi g) d)) (edge_of (iterate k (phi g) d) ∷ backward k (phi g) d) (at g d) = backward_walk (suc k) d l out in
        no_cycle (at g d) (edge_of (iterate k (phi g) d)) (backward k (phi g) d)
        (subst (λ v. IsWalk g (at g v) (edge_of (iterate k (phi g) d) ∷ backward k (phi g) d) (at g d)) e w)

    -- each face has an end out and an end in
    pub has_out : (d : ℕ) → d < darts g → (e : ℕ) × SameOrbit (phi g) d e × (is_out e ≡ true)
    has_out d l = elim (some_or_none (λ k. is_out (iterate k (phi g) d)) (darts g)) [
      | inl r ↦ (iterate r.0 (phi g) d, (r.0, refl), r.2)
      | inr none ↦
          let p : (p : ℕ) × (0 < p) × (p ≤ darts g) × (iterate p (phi g) d ≡ d) = period (darts g) (phi g) (phi-permutes g orders at_below) d l in
          absurd (no_loop_down p.0 d p.1 l p.3 (λ j lj. none j (omega (arith, p.2))))
    ]

    pub has_in : (d : ℕ) → d < darts g → (e : ℕ) × SameOrbit (phi g) d e × (is_out e ≡ false)
    has_in d l = elim (some_or_none (λ k. not (is_out (iterate k (phi g) d))) (darts g)) [
      | inl r ↦ (iterate r.0 (phi g) d, (r.0, refl), not-true (is_out (iterate r.0 (phi g) d)) r.2)
      | inr none ↦
          let p : (p : ℕ) × (0 < p) × (p ≤ darts g) × (iterate p (phi g) d ≡ d) = period (darts g) (phi g) (phi-permutes g orders at_below) d l in
          absurd (no_loop_up p.0 d p.1 l p.3 (λ j lj. not-false (is_out (iterate j (phi g) d)) (none j (omega (arith, p.2)))))
    ]

module _ (g : Embedded) (s t outer : ℕ) (st : IsPlanarSt g s t outer) where
  pub at_st : (d : ℕ) → d < darts g → at g d < g.vertices
  at_st = at_below g st.orders st.ends_in

  pub perm_st : Permutes (darts g) (phi g)
  perm_st = phi-permutes g st.orders at_st

  -- each vertex but s has an end in, each but t an end out
  pub end_in : (v : ℕ) → v < g.vertices → v ≢ s → (d : ℕ) × (d < darts g) × (at g d ≡ v) × (is_out d ≡ false)
  end_in v l n = elim (some_or_none (λ e. eqb (head g e) v) (edges g)) [
    | inl r ↦ (2 * r.0 + 1, omega (arith, r.1), at-head g r.0 ∙ eqb-true (head g r.0) v r.2, is_out-head r.0)
    | inr none ↦ absurd (n (st.source.only v l (λ e le. eqb-false (head g e) v (none e le))))
  ]

  pub end_out : (v : ℕ) → v < g.vertices → v ≢ t → (d : ℕ) × (d < darts g) × (at g d ≡ v) × (is_out d ≡ true)
  end_out v l n = elim (some_or_none (λ e. eqb (tail g e) v) (edges g)) [
    | inl r ↦ (2 * r.0, omega (arith, r.1), at-tail g r.0 ∙ eqb-true (tail g r.0) v r.2, is_out-tail r.0)
    | inr none ↦ absurd (n (st.sink.only v l (λ e le. eqb-false (tail g e) v (none e le))))
  ]

  inner_s : (v : ℕ) → is_inner s t v ≡ true → v ≢ s
  inner_s v i e = eqb-false s v (not-true (eqb s v) (and_parts (not (eqb s v)) (not (eqb t v)) i).0) (sym e)

  inner_t : (v : ℕ) → is_inner s t v ≡ true → v ≢ t
  inner_t v i e = eqb-false t v (not-true (eqb t v) (and_parts (not (eqb s v)) (not (eqb t v)) i).1) (sym e)

  -- round an inner vertex the ends change from in to out, and from out to in
  has_change : (u : Bool) (c d v : ℕ) → c < darts g → d < darts g → at g c ≡ v → at g d ≡ v → is_out c ≡ u → is_out d ≡ not u
      → (x : ℕ) × (x < darts g) × (is_out (twin x) ≡ u) × (is_out (phi g x) ≡ not u) × (at g (phi g x) ≡ v)
  has_change u c d v lc ld ac ad oc od =
      let np : Permutes (darts g) (next g) = next-permutes g st.orders at_st in
      let r : (e : ℕ) × SameOrbit (next g) c e × (is_out e ≡ u) × (is_out (next g e) ≡ not u) =
      change_between (darts g) (next g) np is_out u c d (same_vertex g st.orders at_st c d lc ld (ac ∙ sym ad)) oc od in
      let le : r.0 < darts g = orbit-stays (darts g) (next g) np c r.0 lc r.1 in
      let av : at g r.0 ≡ v = ap (at g) (sym r.1.1) ∙ at-iterate g st.orders at_st r.1.0 c lc ∙ ac in (
        twin r.0,
        twin-below (edges g) r.0 le,
        ap is_out (twin-twin r.0) ∙ r.2,
        ap is_out (phi-twin g r.0) ∙ r.3,
        ap (at g) (phi-twin g r.0) ∙ at-next g st.orders at_st r.0 le ∙ av,
      )

  has_up : (v : ℕ) → v < g.vertices → is_inner s t v ≡ true → (d : ℕ) × (d < darts g) × (goes_up (phi g) is_out d ≡ true) × (at g (phi g d) ≡ v)
  has_up v l i =
      let a : (d : ℕ) × (d < darts g) × (at g d ≡ v) × (is_out d ≡ false) = end_in v l (inner_s v i) in
      let b : (d : ℕ) × (d < darts g) × (at g d ≡ v) × (is_out d ≡ true) = end_out v l (inner_t v i) in
      let r : (x : ℕ) × (x < darts g) × (is_out (twin x) ≡ false) × (is_out (phi g x) ≡ true) × (at g (phi g x) ≡ v) =
      has_change false a.0 b.0 v a.1 b.1 a.2 b.2 a.3 b.3 in
      (r.0, r.1, and_from (is_out r.0) (is_out (phi g r.0)) (not-false (is_out r.0) (sym (is_out-twin r.0) ∙ r.2)) r.3, r.4)

  has_down : (v : ℕ) → v < g.vertices → is_inner s t v ≡ true → (d : ℕ) × (d < darts g) × (goes_down (phi g) is_out d ≡ true) × (at g (phi g d) ≡ v)
  has_down v l i =
      let a : (d : ℕ) × (d < darts g) × (at g d ≡ v) × (is_out d ≡ false) = end_in v l (inner_s v i) in
      let b : (d : ℕ) × (d < darts g) × (at g d ≡ v) × (is_out d ≡ true) = end_out v l (inner_t v i) in
      let r : (x : ℕ) × (x < darts g) × (is_out (twin x) ≡ true) × (is_out (phi g x) ≡ false) × (at g (phi g x) ≡ v) =
      has_change true b.0 a.0 v b.1 a.1 b.2 a.2 b.3 a.3 in
      (r.0, r.1, and_from (not (is_out r.0)) (not (is_out (phi g r.0))) (sym (is_out-twin r.0) ∙ r.2) (ap not r.3), r.4)

  euler_st : 2 * g.vertices + 2 * count_below (darts g) (λ d. eqb (least_within (darts g) (phi g) d) d) ≡ darts g + 4
  unfolding faces face
  euler_st = omega (arith, st.euler)

  -- each face has exactly one turn up and one turn down
  pub turn_up_once : (c d : ℕ) → c < darts g → d < darts g → turns_up (phi g) is_out c ≡ true → turns_up (phi g) is_out d ≡ true → SameOrbit (phi g) c d → c ≡ d
  turn_up_once = corners.one_turn_up (darts g) g.vertices s t (phi g) (at g) is_out perm_st at_st st.source.there st.sink.there
      (has_out g st.orders st.ends_in st.no_cycle) (has_in g st.orders st.ends_in st.no_cycle) has_up has_down euler_st

  pub turn_down_once : (c d : ℕ) → c < darts g → d < darts g → turns_down (phi g) is_out c ≡ true → turns_down (phi g) is_out d ≡ true → SameOrbit (phi g) c d → c ≡ d
  turn_down_once = corners.one_turn_down (darts g) g.vertices s t (phi g) (at g) is_out perm_st at_st st.source.there st.sink.there
      (has_out g st.orders st.ends_in st.no_cycle) (has_in g st.orders st.ends_in st.no_cycle) has_up has_down euler_st

  pub go_up_once : (c d : ℕ) → c < darts g → d < darts g → goes_up (phi g) is_out c ≡ true → goes_up (phi g) is_out d ≡ true → at g (phi g c) ≡ at g (phi g d) → c ≡ d
  go_up_once = corners.one_goes_up (darts g) g.vertices s t (phi g) (at g) is_out perm_st at_st st.source.there st.sink.there
      (has_out g st.orders st.ends_in st.no_cycle) (has_in g st.orders st.ends_in st.no_cycle) has_up has_down euler_st

  pub go_down_once : (c d : ℕ) → c < darts g → d < darts g → goes_down (phi g) is_out c ≡ true → goes_down (phi g) is_out d ≡ true → at g (phi g c) ≡ at g (phi g d) → c ≡ d
  go_down_once = corners.one_goes_down (darts g) g.vertices s t (phi g) (at g) is_out perm_st at_st st.source.there st.sink.there
      (has_out g st.orders st.ends_in st.no_cycle) (has_in g st.orders st.ends_in st.no_cycle) has_up has_down euler_st

  pub poles_apart : s ≢ t
  poles_apart = corners.poles_differ (darts g) g.vertices s t (phi g) (at g) is_out perm_st at_st st.source.there st.sink.there
      (has_out g st.orders st.ends_in st.no_cycle) (has_in g st.orders st.ends_in st.no_cycle) has_up has_down euler_st

  -- s has only ends out, and t only ends in
  pub out_at_s : (d : ℕ) → d < darts g → at g d ≡ s → is_out d ≡ true
  out_at_s d l e = true_from_ne_false (is_out d) (λ i. st.source.none_in (edge_of d) (edge_of-below (edges g) d l) (sym (at-in g d i) ∙ e))

  pub in_at_t : (d : ℕ) → d < darts g → at g d ≡ t → is_out d ≡ false
  in_at_t d l e = false_from_ne_true (is_out d) (λ o. st.sink.none_out (edge_of d) (edge_of-below (edges g) d l) (sym (at-out g d o) ∙ e))

  -- From a turn up on, a face is a run up and a run down.
  pub face_runs_from : (c : ℕ) → c < darts g → is_out c ≡ false → is_out (phi g c) ≡ true → (k : ℕ) × (p : ℕ) × TwoRuns (phi g) is_out (phi g c) k p
  face_runs_from c lc ic oc =
      two_runs (darts g) (phi g) perm_st is_out c lc ic oc (λ c' s' i' o'.
      sym (turn_up_once c c' lc (orbit-stays (darts g) (phi g) perm_st c c' lc s')
      (and_from (not (is_out c)) (is_out (phi g c)) (ap not ic) oc)
      (and_from (not (is_out c')) (is_out (phi g c')) (ap not i') o') s'))

  pub face_runs : (d : ℕ) → d < darts g → (x : ℕ) × (k : ℕ) × (p : ℕ) × (x < darts g) × SameOrbit (phi g) d x × TwoRuns (phi g) is_out x k p
  face_runs d l =
      let i : (e : ℕ) × SameOrbit (phi g) d e × (is_out e ≡ false) = has_in g st.orders st.ends_in st.no_cycle d l in
      let o : (e : ℕ) × SameOrbit (phi g) d e × (is_out e ≡ true) = has_out g st.orders st.ends_in st.no_cycle d l in
      let io : SameOrbit (phi g) i.0 o.0 = orbit-trans (phi g) i.0 d o.0 (orbit-sym (darts g) (phi g) perm_st d i.0 l i.1) o.1 in
      let c : (c : ℕ) × SameOrbit (phi g) i.0 c × (is_out c ≡ false) × (is_out (phi g c) ≡ true) =
      change_between (darts g) (phi g) perm_st is_out false i.0 o.0 io i.2 o.2 in
      let dc : SameOrbit (phi g) d c.0 = orbit-trans (phi g) d i.0 c.0 i.1 c.1 in
      let lc : c.0 < darts g = orbit-stays (darts g) (phi g) perm_st d c.0 l dc in
      let r : (k : ℕ) × (p : ℕ) × TwoRuns (phi g) is_out (phi g c.0) k p = face_runs_from c.0 lc c.2 c.3 in
      (phi g c.0, r.0, r.1, perm_st.stays c.0 lc, orbit-trans (phi g) d c.0 (phi g c.0) dc (orbit-step (phi g) c.0), r.2)

  ups : (c : ℕ) → c < darts g → is_out c ≡ false → is_out (next g c) ≡ true → goes_up (phi g) is_out (twin c) ≡ true
  ups c lc i o = and_from (is_out (twin c)) (is_out (phi g (twin c))) (is_out-twin c ∙ ap not i) (ap is_out (phi-twin g c) ∙ o)

  same_change : (c d : ℕ) → c < darts g → d < darts g → is_out c ≡ false → is_out (next g c) ≡ true → is_out d ≡ false → is_out (next g d) ≡ true → at g c ≡ at g d → c ≡ d
  same_change c d lc ld ic oc id od e =
      twin-apart c d (go_up_once (twin c) (twin d) (twin-below (edges g) c lc) (twin-below (edges g) d ld) (ups c lc ic oc) (ups d ld id od)
      (ap (at g) (phi-twin g c) ∙ at-next g st.orders at_st c lc ∙ e ∙ sym (ap (at g) (phi-twin g d) ∙ at-next g st.orders at_st d ld)))

  -- From the first end out after an end in, there is a run of ends out and a run of ends in round the vertex.
  pub vertex_runs_from : (c : ℕ) → c < darts g → is_out c ≡ false → is_out (next g c) ≡ true → (k : ℕ) × (p : ℕ) × TwoRuns (next g) is_out (next g c) k p
  vertex_runs_from c lc ic oc =
      two_runs (darts g) (next g) (next-permutes g st.orders at_st) is_out c lc ic oc (λ c' s' i' o'.
      same_change c' c (orbit-stays (darts g) (next g) (next-permutes g st.orders at_st) c c' lc s') lc i' o' ic oc
      (ap (at g) (sym s'.1) ∙ at-iterate g st.orders at_st s'.0 c lc))

  pub vertex_runs : (v : ℕ) → v < g.vertices → v ≢ s → v ≢ t → (x : ℕ) × (k : ℕ) × (p : ℕ) × (x < darts g) × (at g x ≡ v) × TwoRuns (next g) is_out x k p
  vertex_runs v l ns nt =
      let np : Permutes (darts g) (next g) = next-permutes g st.orders at_st in
      let a : (d : ℕ) × (d < darts g) × (at g d ≡ v) × (is_out d ≡ false) = end_in v l ns in
      let b : (d : ℕ) × (d < darts g) × (at g d ≡ v) × (is_out d ≡ true) = end_out v l nt in
      let c : (c : ℕ) × SameOrbit (next g) a.0 c × (is_out c ≡ false) × (is_out (next g c) ≡ true) =
      change_between (darts g) (next g) np is_out false a.0 b.0 (same_vertex g st.orders at_st a.0 b.0 a.1 b.1 (a.2 ∙ sym b.2)) a.3 b.3 in
      let lc : c.0 < darts g = orbit-stays (darts g) (next g) np a.0 c.0 a.1 c.1 in
      let vc : at g c.0 ≡ v = ap (at g) (sym c.1.1) ∙ at-iterate g st.orders at_st c.1.0 a.0 a.1 ∙ a.2 in
      let r : (k : ℕ) × (p : ℕ) × TwoRuns (next g) is_out (next g c.0) k p = vertex_runs_from c.0 lc c.2 c.3 in
      (next g c.0, r.0, r.1, np.stays c.0 lc, at-next g st.orders at_st c.0 lc ∙ vc, r.2)

  -- The run up of the outer face begins at s.
  pub outer_low : (x k p : ℕ) → x < darts g → SameOrbit (phi g) outer x → TwoRuns (phi g) is_out x k p → at g x ≡ s
  outer_low x k p lx so r =
      let d : (d : ℕ) × (SameOrbit (phi g) outer d) × (at g d ≡ s) = st.outer_s in
      let ld : d.0 < darts g = orbit-stays (darts g) (phi g) perm_st outer d.0 st.outer_in d.1 in
      let c : (c : ℕ) × (c < darts g) × (phi g c ≡ d.0) × SameOrbit (phi g) d.0 c = before (darts g) (phi g) perm_st d.0 ld in
      let tw : is_out (twin c.0) ≡ true = out_at_s (twin c.0) (twin-below (edges g) c.0 c.1)
      (sym (at-phi g st.orders at_st c.0 c.1) ∙ ap (at g) c.2 ∙ d.2) in
      let up_c : turns_up (phi g) is_out c.0 ≡ true = and_from (not (is_out c.0)) (is_out (phi g c.0))
      (sym (is_out-twin c.0) ∙ tw) (ap is_out c.2 ∙ out_at_s d.0 ld d.2) in
      let b : ℕ = iterate (p - 1) (phi g) x in
      let at' : suc (p - 1) ≡ p = omega (arith, r.more) in
      let step : phi g b ≡ x = steps (phi g) x (suc (p - 1)) p at' ∙ r.back in
      let up_b : turns_up (phi g) is_out b ≡ true = and_from (not (is_out b)) (is_out (phi g b))
      (ap not (r.then (p - 1) (omega (arith, r.more)) (omega (arith, r.more)))) (ap is_out step ∙ r.first 0 r.some) in
      let lb : b < darts g = iterate-stays (darts g) (phi g) perm_st (p - 1) x lx in
      let oc : SameOrbit (phi g) outer c.0 = orbit-trans (phi g) outer d.0 c.0 d.1 c.3 in
      let ob : SameOrbit (phi g) outer b = orbit-trans (phi g) outer x b so (p - 1, refl) in
      let same : c.0 ≡ b = turn_up_once c.0 b c.1 lb up_c up_b (orbit-trans (phi g) c.0 outer b (orbit-sym (darts g) (phi g) perm_st outer c.0 st.outer_in oc) ob) in
      ap (at g) (sym step ∙ ap (phi g) (sym same) ∙ c.2) ∙ d.2

  -- And it ends at t.
  pub outer_high : (x k p : ℕ) → x < darts g → SameOrbit (phi g) outer x → TwoRuns (phi g) is_out x k p → at g (iterate k (phi g) x) ≡ t
  outer_high x k p lx so r =
      let d : (d : ℕ) × (SameOrbit (phi g) outer d) × (at g d ≡ t) = st.outer_t in
      let ld : d.0 < darts g = orbit-stays (darts g) (phi g) perm_st outer d.0 st.outer_in d.1 in
      let c : (c : ℕ) × (c < darts g) × (phi g c ≡ d.0) × SameOrbit (phi g) d.0 c = before (darts g) (phi g) perm_st d.0 ld in
      let tw : is_out (twin c.0) ≡ false = in_at_t (twin c.0) (twin-below (edges g) c.0 c.1)
      (sym (at-phi g st.orders at_st c.0 c.1) ∙ ap (at g) c.2 ∙ d.2) in
      let down_c : turns_down (phi g) is_out c.0 ≡ true = and_from (is_out c.0) (not (is_out (phi g c.0)))
      (not-false (is_out c.0) (sym (is_out-twin c.0) ∙ tw)) (ap not (ap is_out c.2 ∙ in_at_t d.0 ld d.2)) in
      let b : ℕ = iterate (k - 1) (phi g) x in
      let at' : suc (k - 1) ≡ k = omega (arith, r.some) in
      let step : phi g b ≡ iterate k (phi g) x = steps (phi g) x (suc (k - 1)) k at' in
      let down_b : turns_down (phi g) is_out b ≡ true = and_from (is_out b) (not (is_out (phi g b)))
      (r.first (k - 1) (omega (arith, r.some))) (ap not (ap is_out step ∙ r.then k (omega arith) r.more)) in
      let lb : b < darts g = iterate-stays (darts g) (phi g) perm_st (k - 1) x lx in
      let oc : SameOrbit (phi g) outer c.0 = orbit-trans (phi g) outer d.0 c.0 d.1 c.3 in
      let ob : SameOrbit (phi g) outer b = orbit-trans (phi g) outer x b so (k - 1, refl) in
      let same : c.0 ≡ b = turn_down_once c.0 b c.1 lb down_c down_b (orbit-trans (phi g) c.0 outer b (orbit-sym (darts g) (phi g) perm_st outer c.0 st.outer_in oc) ob) in
      ap (at g) (sym step ∙ ap (phi g) (sym same) ∙ c.2) ∙ d.2
