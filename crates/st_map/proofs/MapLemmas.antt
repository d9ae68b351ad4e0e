-- What the readers of a map answer.
use Rattle.std.proofs.Common.{◌≡◌, ℕ, zero, suc, ◌+◌, ◌*◌, ◌<◌, inl, inr, List, [], length, get_or, slice_get, Some, refl, sym, ap, ◌∙◌, arith}
use Rattle.std.proofs.lemmas.List.FromFn.{get_or-map-range_with_len}
use Rattle.st_map.specs.Orbits.{Permutes, SameOrbit}
use Rattle.st_map.specs.Embedded.{at, order, darts, next}
use Rattle.st_map.specs.Orders.{IsEdgeAt}
use Rattle.st_map.specs.Tables.{IsMap, Tables, ring, ring_at, rotation_of}
use Rattle.st_map.proofs.OrbitLemmas.{before}
use Rattle.st_map.proofs.EndLemmas.{even_or_odd, at-tail, at-head, at_below}
use Rattle.st_map.proofs.RotationLemmas.{next-permutes, next-below as below, at-next as at_same}
use Rattle.st_map.proofs.TableLemmas.{length-ring}

first_of_ring : (cw : List ℕ) (k d : ℕ) → 0 < k → slice_get (ring cw k d) 0 ≡ Some d
first_of_ring cw zero d l = absurd (omega arith)
first_of_ring cw (suc k) d l = refl

first_read : (cw : List ℕ) (k d : ℕ) → 0 < k → get_or (ring cw k d) 0 0 ≡ d
first_read cw zero d l = absurd (omega arith)
first_read cw (suc k) d l = refl

module _ (t : Tables) (m : IsMap t) where
  vertex_below : (d : ℕ) → d < 2 * length t.ends → at (rotation_of t) d < t.vertices
  vertex_below = at_below (rotation_of t) m.rotation.ends

  pub order_is : (v : ℕ) → v < t.vertices → order (rotation_of t) v ≡ ring_at t.first t.degree t.cw v
  order_is v l = get_or-map-range_with_len (ring_at t.first t.degree t.cw) 0 t.vertices v v [] l (omega arith)

  pub degree_is : (v : ℕ) → v < t.vertices → get_or t.degree v 0 ≡ length (order (rotation_of t) v)
  degree_is v l = sym (ap (λ (z : List ℕ). length z) (order_is v l) ∙ length-ring t.cw (get_or t.degree v 0) (get_or t.first v 0))

  pub first_is : (v : ℕ) → v < t.vertices → 0 < get_or t.degree v 0 → slice_get (order (rotation_of t) v) 0 ≡ Some (get_or t.first v 0)
  first_is v l some = ap (λ (z : List ℕ). slice_get z 0) (order_is v l) ∙ first_of_ring t.cw (get_or t.degree v 0) (get_or t.first v 0) some

  pub first_within : (v : ℕ) → v < t.vertices → 0 < get_or t.degree v 0
      → (get_or t.first v 0 < 2 * length t.ends) × (at (rotation_of t) (get_or t.first v 0) ≡ v)
  first_within v l some =
      let q : get_or (order (rotation_of t) v) 0 0 ≡ get_or t.first v 0 =
      ap (λ (z : List ℕ). get_or z 0 0) (order_is v l) ∙ first_read t.cw (get_or t.degree v 0) (get_or t.first v 0) some in
      let r : (get_or (order (rotation_of t) v) 0 0 < darts (rotation_of t)) × (at (rotation_of t) (get_or (order (rotation_of t) v) 0 0) ≡ v) =
      m.rotation.orders.own v 0 l (omega (arith, degree_is v l)) in
      (omega (arith, q, r.0), ap (at (rotation_of t)) (sym q) ∙ r.1)

  listed : (v d : ℕ) → d < 2 * length t.ends → at (rotation_of t) d ≡ v → 0 < get_or t.degree v 0
  listed v d l q =
      let p : (i : ℕ) × (i < length (order (rotation_of t) (at (rotation_of t) d))) × (get_or (order (rotation_of t) (at (rotation_of t) d)) i 0 ≡ d) =
      m.rotation.orders.listed d l in
      let s : length (order (rotation_of t) (at (rotation_of t) d)) ≡ length (order (rotation_of t) v) =
      ap (λ z. length (order (rotation_of t) z)) q in
      omega (arith, p.1, degree_is v (omega (arith, q, vertex_below d l)))

  pub no_edge : (v : ℕ) → get_or t.degree v 0 ≡ 0 → (e : ℕ) → IsEdgeAt t.ends v e → ⊥
  no_edge v z e a = elim a.1 [
    | inl b ↦ (let le : e < length t.ends = a.0 in omega (arith, listed v (2 * e) (omega arith) (at-tail (rotation_of t) e ∙ b)))
    | inr h ↦ (let le : e < length t.ends = a.0 in omega (arith, listed v (2 * e + 1) (omega arith) (at-head (rotation_of t) e ∙ h)))
  ]

  pub some_edge : (v : ℕ) → v < t.vertices → 0 < get_or t.degree v 0 → (e : ℕ) × IsEdgeAt t.ends v e
  some_edge v l some =
      let r : (get_or t.first v 0 < 2 * length t.ends) × (at (rotation_of t) (get_or t.first v 0) ≡ v) = first_within v l some in
      elim (even_or_odd (get_or t.first v 0)) [
        | inl p ↦ (p.0, (omega (arith, p.1, r.0), inl (sym (at-tail (rotation_of t) p.0) ∙ ap (at (rotation_of t)) (sym p.1) ∙ r.1)))
        | inr p ↦ (p.0, (omega (arith, p.1, r.0), inr (sym (at-head (rotation_of t) p.0) ∙ ap (at (rotation_of t)) (sym p.1) ∙ r.1)))
      ]

  pub next_below : (d : ℕ) → d < 2 * length t.ends → next (rotation_of t) d < 2 * length t.ends
  next_below = below (rotation_of t) m.rotation.orders vertex_below

  pub at_next : (d : ℕ) → d < 2 * length t.ends → at (rotation_of t) (next (rotation_of t) d) ≡ at (rotation_of t) d
  at_next = at_same (rotation_of t) m.rotation.orders vertex_below

  -- the entry of the counter-clockwise table
  pub back_is : (d : ℕ) → d < 2 * length t.ends
      → (get_or t.ccw d 0 < 2 * length t.ends) × (next (rotation_of t) (get_or t.ccw d 0) ≡ d)
      × (at (rotation_of t) (get_or t.ccw d 0) ≡ at (rotation_of t) d)
  back_is d l =
      let perm : Permutes (2 * length t.ends) (next (rotation_of t)) = next-permutes (rotation_of t) m.rotation.orders vertex_below in
      let r : (c : ℕ) × (c < 2 * length t.ends) × (next (rotation_of t) c ≡ d) × SameOrbit (next (rotation_of t)) d c =
      before (2 * length t.ends) (next (rotation_of t)) perm d l in
      let entry : get_or t.cw r.0 0 ≡ d = m.clockwise.each r.0 r.1 ∙ r.2 in
      let q : get_or t.ccw d 0 ≡ r.0 = ap (λ z. get_or t.ccw z 0) (sym entry) ∙ m.counter.each r.0 (omega (arith, r.1, m.clockwise.size)) in (
        omega (arith, q, r.1),
        ap (next (rotation_of t)) q ∙ r.2,
        ap (at (rotation_of t)) q ∙ sym (at_next r.0 r.1) ∙ ap (at (rotation_of t)) r.2,
      )
