-- In each embedded graph without a cycle, with one source and one sink, V + F is at most E + 2: each face turns up and
-- turns down, each inner vertex has a corner from in to out and one from out to in, and there are 2 E corners.
use Rattle.std.proofs.Common.{◌≡◌, ◌≢◌, ℕ, ◌+◌, ◌*◌, ◌<◌, ◌≤◌, Bool, true, false, not, eqb, refl, sym, ap, ◌∙◌, inl, inr, arith}
use Rattle.std.proofs.lemmas.Bool.{eqb-true, eqb-false, and_from, and_parts, not-true, not-false}
use Rattle.st_map.specs.Counting.{count_below}
use Rattle.st_map.specs.Orbits.{Permutes, SameOrbit, least_within}
use Rattle.st_sides.specs.Corners.{turns_up, turns_down, goes_up, goes_down, is_inner}
use Rattle.st_ids.specs.Ends.{is_out, twin}
use Rattle.st_map.specs.Embedded.{Embedded, edges, darts, tail, head, at, next, phi, face, faces}
use Rattle.st_sides.specs.Laws.{IsOrderedSt, EulerBoundLaw}
use Rattle.st_map.proofs.Public.{cover, orbit-trans, orbit-sym, orbit-stays, root-same, root-below, change_between, some_or_none, at_below, is_out-tail, is_out-head, at-tail, at-head, twin-twin, is_out-twin, twin-below, at-next, next-permutes, phi-permutes, same_vertex, at-iterate}
use Rattle.st_sides.proofs.CornerLemmas.{all_corners, inner_many}
use Rattle.st_sides.proofs.FaceRuns.{has_out, has_in, phi-twin}

module _ (g : Embedded) (s t : ℕ) (st : IsOrderedSt g s t) where
  at_st : (d : ℕ) → d < darts g → at g d < g.vertices
  at_st = at_below g st.ends_in

  perm : Permutes (darts g) (phi g)
  perm = phi-permutes g st.orders at_st

  end_in : (v : ℕ) → v < g.vertices → v ≢ s → (d : ℕ) × (d < darts g) × (at g d ≡ v) × (is_out d ≡ false)
  end_in v l n = elim (some_or_none (λ e. eqb (head g e) v) (edges g)) [
    | inl r ↦ (2 * r.0 + 1, omega (arith, r.1), at-head g r.0 ∙ eqb-true (head g r.0) v r.2, is_out-head r.0)
    | inr none ↦ absurd (n (st.source.only v l (λ e le. eqb-false (head g e) v (none e le))))
  ]

  end_out : (v : ℕ) → v < g.vertices → v ≢ t → (d : ℕ) × (d < darts g) × (at g d ≡ v) × (is_out d ≡ true)
  end_out v l n = elim (some_or_none (λ e. eqb (tail g e) v) (edges g)) [
    | inl r ↦ (2 * r.0, omega (arith, r.1), at-tail g r.0 ∙ eqb-true (tail g r.0) v r.2, is_out-tail r.0)
    | inr none ↦ absurd (n (st.sink.only v l (λ e le. eqb-false (tail g e) v (none e le))))
  ]

  inner_s : (v : ℕ) → is_inner s t v ≡ true → v ≢ s
  inner_s v i e = eqb-false s v (not-true (eqb s v) (and_parts (not (eqb s v)) (not (eqb t v)) i).0) (sym e)

  inner_t : (v : ℕ) → is_inner s t v ≡ true → v ≢ t
  inner_t v i e = eqb-false t v (not-true (eqb t v) (and_parts (not (eqb s v)) (not (eqb t v)) i).1) (sym e)

  has_change : (u : Bool) (c d v : ℕ) → c < darts g → d < darts g → at g c ≡ v → at g d ≡ v → is_out c ≡ u → is_out d ≡ not u
      → (x : ℕ) × (x < darts g) × (is_out (twin x) ≡ u) × (is_out (phi g x) ≡ not u) × (at g (phi g x) ≡ v)
  has_change u c d v lc ld ac ad oc od =
      let np : Permutes (darts g) (next g) = next-permutes g st.orders at_st in
      let r : (e : ℕ) × SameOrbit (next g) c e × (is_out e ≡ u) × (is_out (next g e) ≡ not u) =
      change_between (darts g) (next g) np is_out u c d (same_vertex g st.orders at_st c d lc ld (ac ∙ sym ad)) oc od in
      let le : r.0 < darts g = orbit-stays (darts g) (next g) np c r.0 lc r.1 in
      let av : at g r.0 ≡ v = ap (at g) (sym r.1.1) ∙ at-iterate g st.orders at_st r.1.0 c lc ∙ ac in (
        twin r.0,
        twin-below (edges g) r.0 le,
        ap is_out (twin-twin r.0) ∙ r.2,
        ap is_out (phi-twin g r.0) ∙ r.3,
        ap (at g) (phi-twin g r.0) ∙ at-next g st.orders at_st r.0 le ∙ av,
      )

  has_up : (v : ℕ) → v < g.vertices → is_inner s t v ≡ true → (d : ℕ) × (d < darts g) × (goes_up (phi g) is_out d ≡ true) × (at g (phi g d) ≡ v)
  has_up v l i =
      let a : (d : ℕ) × (d < darts g) × (at g d ≡ v) × (is_out d ≡ false) = end_in v l (inner_s v i) in
      let b : (d : ℕ) × (d < darts g) × (at g d ≡ v) × (is_out d ≡ true) = end_out v l (inner_t v i) in
      let r : (x : ℕ) × (x < darts g) × (is_out (twin x) ≡ false) × (is_out (phi g x) ≡ true) × (at g (phi g x) ≡ v) =
      has_change false a.0 b.0 v a.1 b.1 a.2 b.2 a.3 b.3 in
      (r.0, r.1, and_from (is_out r.0) (is_out (phi g r.0)) (not-false (is_out r.0) (sym (is_out-twin r.0) ∙ r.2)) r.3, r.4)

  has_down : (v : ℕ) → v < g.vertices → is_inner s t v ≡ true → (d : ℕ) × (d < darts g) × (goes_down (phi g) is_out d ≡ true) × (at g (phi g d) ≡ v)
  has_down v l i =
      let a : (d : ℕ) × (d < darts g) × (at g d ≡ v) × (is_out d ≡ false) = end_in v l (inner_s v i) in
      let b : (d : ℕ) × (d < darts g) × (at g d ≡ v) × (is_out d ≡ true) = end_out v l (inner_t v i) in
      let r : (x : ℕ) × (x < darts g) × (is_out (twin x) ≡ true) × (is_out (phi g x) ≡ false) × (at g (phi g x) ≡ v) =
      has_change true b.0 a.0 v b.1 a.1 b.2 a.2 b.3 a.3 in
      (r.0, r.1, and_from (not (is_out r.0)) (not (is_out (phi g r.0))) (sym (is_out-twin r.0) ∙ r.2) (ap not r.3), r.4)

  root : ℕ → ℕ
  root d = least_within (darts g) (phi g) d

  is_root : ℕ → Bool
  is_root d = eqb (least_within (darts g) (phi g) d) d

  root_lt : (d : ℕ) → d < darts g → root d < darts g
  unfolding root
  root_lt d l = root-below (darts g) (phi g) perm d l

  turn_up : (y : ℕ) → y < darts g → is_root y ≡ true → (x : ℕ) × (x < darts g) × (turns_up (phi g) is_out x ≡ true) × (root x ≡ y)
  unfolding root is_root
  turn_up y l e =
      let i : (e : ℕ) × SameOrbit (phi g) y e × (is_out e ≡ false) = has_in g st.orders st.ends_in st.no_cycle y l in
      let o : (e : ℕ) × SameOrbit (phi g) y e × (is_out e ≡ true) = has_out g st.orders st.ends_in st.no_cycle y l in
      let io : SameOrbit (phi g) i.0 o.0 = orbit-trans (phi g) i.0 y o.0 (orbit-sym (darts g) (phi g) perm y i.0 l i.1) o.1 in
      let c : (c : ℕ) × SameOrbit (phi g) i.0 c × (is_out c ≡ false) × (is_out (phi g c) ≡ true) = change_between (darts g) (phi g) perm is_out false i.0 o.0 io i.2 o.2 in
      let yc : SameOrbit (phi g) y c.0 = orbit-trans (phi g) y i.0 c.0 i.1 c.1 in
      (c.0, orbit-stays (darts g) (phi g) perm y c.0 l yc, and_from (not (is_out c.0)) (is_out (phi g c.0)) (ap not c.2) c.3, sym (root-same (darts g) (phi g) perm y c.0 l yc) ∙ eqb-true (least_within (darts g) (phi g) y) y e)

  turn_down : (y : ℕ) → y < darts g → is_root y ≡ true → (x : ℕ) × (x < darts g) × (turns_down (phi g) is_out x ≡ true) × (root x ≡ y)
  unfolding root is_root
  turn_down y l e =
      let i : (e : ℕ) × SameOrbit (phi g) y e × (is_out e ≡ true) = has_out g st.orders st.ends_in st.no_cycle y l in
      let o : (e : ℕ) × SameOrbit (phi g) y e × (is_out e ≡ false) = has_in g st.orders st.ends_in st.no_cycle y l in
      let io : SameOrbit (phi g) i.0 o.0 = orbit-trans (phi g) i.0 y o.0 (orbit-sym (darts g) (phi g) perm y i.0 l i.1) o.1 in
      let c : (c : ℕ) × SameOrbit (phi g) i.0 c × (is_out c ≡ true) × (is_out (phi g c) ≡ false) = change_between (darts g) (phi g) perm is_out true i.0 o.0 io i.2 o.2 in
      let yc : SameOrbit (phi g) y c.0 = orbit-trans (phi g) y i.0 c.0 i.1 c.1 in
      (c.0, orbit-stays (darts g) (phi g) perm y c.0 l yc, and_from (is_out c.0) (not (is_out (phi g c.0))) c.2 (ap not c.3), sym (root-same (darts g) (phi g) perm y c.0 l yc) ∙ eqb-true (least_within (darts g) (phi g) y) y e)

  place_below : (d : ℕ) → d < darts g → at g (phi g d) < g.vertices
  place_below d l = at_st (phi g d) (perm.stays d l)

  faces_are : faces g ≡ count_below (darts g) is_root
  unfolding faces face is_root
  faces_are = refl

  bound : g.vertices + faces g ≤ edges g + 2
  bound =
      let a : count_below (darts g) is_root ≤ count_below (darts g) (turns_up (phi g) is_out) = cover (darts g) (darts g) (turns_up (phi g) is_out) root is_root root_lt turn_up in
      let b : count_below (darts g) is_root ≤ count_below (darts g) (turns_down (phi g) is_out) = cover (darts g) (darts g) (turns_down (phi g) is_out) root is_root root_lt turn_down in
      let c : count_below g.vertices (is_inner s t) ≤ count_below (darts g) (goes_up (phi g) is_out) = cover g.vertices (darts g) (goes_up (phi g) is_out) (λ d. at g (phi g d)) (is_inner s t) place_below has_up in
      let d : count_below g.vertices (is_inner s t) ≤ count_below (darts g) (goes_down (phi g) is_out) = cover g.vertices (darts g) (goes_down (phi g) is_out) (λ d. at g (phi g d)) (is_inner s t) place_below has_down in
      let i : g.vertices ≤ count_below g.vertices (is_inner s t) + 2 = inner_many g.vertices s t st.source.there st.sink.there in
      let f : faces g ≡ count_below (darts g) is_root = faces_are in
      omega (arith, all_corners (darts g) (phi g) is_out)

pub euler_bound_law : EulerBoundLaw
euler_bound_law = bound
