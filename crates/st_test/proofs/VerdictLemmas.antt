-- Faces by number touch what faces touch, and the source of a graph with two vertices has an edge.
use Rattle.std.proofs.Common.{◌≡◌, ℕ, zero, suc, ◌<◌, ◌≤◌, inl, inr, Bool, true, eqb, [], length, refl, sym, ap, arith}
use Rattle.std.proofs.lemmas.Bool.{cases_order, eq-eqb, eqb-true, both_ways}
use Rattle.st_ids.specs.Graph.{Graph, HasEnds, arcs_of, tail_of, head_of}
use Rattle.st_ids.specs.Walks.{stay, step}
use Rattle.st_ids.proofs.Public.{IsWithin, down}
use Rattle.st_map.specs.Counting.{bit, count_below}
use Rattle.st_map.specs.Orbits.{SameOrbit}
use Rattle.st_map.specs.Embedded.{Embedded, Touches, at, darts, face, faces, phi}
use Rattle.st_map.specs.Laws.{FacesAre}
use Rattle.st_map.specs.Orders.{IsEdgeAt}
use Rattle.st_map.proofs.Public.{count-le, orbit-stays, some_or_none}
use Rattle.st_test.specs.FaceNumbers.{is_least, orbit_number}
use Rattle.st_test.specs.Planar.{AcyclicIsLoopless}
use Rattle.st_test.specs.Poles.{ArePoles}

-- ---- faces by number
pub faces_small : (g : Embedded) → faces g ≤ darts g
unfolding faces
faces_small g = count-le (darts g) (is_least g)

count-more : (a b : ℕ) (p : ℕ → Bool) → a ≤ b → count_below a p ≤ count_below b p
count-more a zero p l = let e : a ≡ zero = omega arith in let q : count_below a p ≡ count_below zero p = ap (λ z. count_below z p) e in omega arith
count-more a (suc b) p l = elim (cases_order a (suc b)) [
  | inl e ↦ let q : count_below a p ≡ count_below (suc b) p = ap (λ z. count_below z p) e in omega arith
  | inr o ↦ elim o [
    | inl m ↦ omega (arith, count-more a b p (omega arith))
    | inr m ↦ absurd (omega arith)
  ]
]

-- one that passes is counted beyond it
count-over : (a b : ℕ) (p : ℕ → Bool) → a < b → p a ≡ true → count_below a p < count_below b p
count-over a b p l e = let one : bit (p a) ≡ 1 = ap bit e in omega (arith, count-more (suc a) b p l)

module _ (g : Embedded) (are : FacesAre g) where
  least_face : (d : ℕ) → d < darts g → is_least g (face g d) ≡ true
  least_face d l =
      let below : face g d < darts g = orbit-stays (darts g) (phi g) are.permutes d (face g d) l (are.reached d l) in
      eq-eqb (face g (face g d)) (face g d) (sym ((are.one d (face g d) l below).0 (are.reached d l)))

  -- faces with one number are one face
  pub same_number : (c d : ℕ) → c < darts g → d < darts g → orbit_number g c ≡ orbit_number g d → face g c ≡ face g d
  unfolding orbit_number
  same_number c d lc ld q = elim (cases_order (face g c) (face g d)) [
    | inl e ↦ e
    | inr o ↦ elim o [
      | inl a ↦ absurd (omega (arith, count-over (face g c) (face g d) (is_least g) a (least_face c lc)))
      | inr a ↦ absurd (omega (arith, count-over (face g d) (face g c) (is_least g) a (least_face d ld)))
    ]
  ]

  pub one_number : (c d : ℕ) → face g c ≡ face g d → orbit_number g c ≡ orbit_number g d
  unfolding orbit_number
  one_number c d q = ap (λ z. count_below z (is_least g)) q

  pub touches_from : (d c v : ℕ) → d < darts g → c < darts g → orbit_number g c ≡ orbit_number g d → at g c ≡ v → Touches g d v
  touches_from d c v ld lc q a = (c, (are.one d c ld lc).1 (sym (same_number c d lc ld q)), a)

  pub touched_by : (d v : ℕ) → d < darts g → Touches g d v → (c : ℕ) × (c < darts g) × (orbit_number g c ≡ orbit_number g d) × (at g c ≡ v)
  touched_by d v ld t =
      let so : SameOrbit (phi g) d t.0 = t.1 in
      let l : t.0 < darts g = orbit-stays (darts g) (phi g) are.permutes d t.0 ld so in
      (t.0, l, sym (one_number d t.0 ((are.one d t.0 ld l).0 so)), t.2)

-- ---- the source has an edge
-- where no edge leaves s, each vertex is s: going back from it along edges ends at a vertex without an edge in
all_source : (g : Graph) (s t : ℕ) → HasEnds g → ArePoles g s t → ((e : ℕ) → e < length g.ends → tail_of g.ends e ≡ s → ⊥) → (v : ℕ) → v < g.vertices → v ≡ s
all_source g s t within poles none =
    let w : IsWithin (arcs_of g) g.vertices = record { from_in = λ e l. (within e l).0; to_in = λ e l. (within e l).1 } in
    down (arcs_of g) g.vertices poles.no_cycle w (λ v. v ≡ s) (λ v l back. elim (some_or_none (λ e. eqb (head_of g.ends e) v) (length g.ends)) [
      | inl r ↦ absurd (none r.0 r.1 (back r.0 r.1 (eqb-true (head_of g.ends r.0) v r.2)))
      | inr n ↦ poles.source.only v l (λ e le q. both_ways (eqb (head_of g.ends e) v) (n e le) (eq-eqb (head_of g.ends e) v q))
    ])

pub source_edge : (g : Graph) (s t : ℕ) → HasEnds g → ArePoles g s t → (e : ℕ) × IsEdgeAt g.ends s e
source_edge g s t within poles = elim (some_or_none (λ e. eqb (tail_of g.ends e) s) (length g.ends)) [
  | inl r ↦ (r.0, (r.1, inl (eqb-true (tail_of g.ends r.0) s r.2)))
  | inr n ↦
      let none : (e : ℕ) → e < length g.ends → tail_of g.ends e ≡ s → ⊥ =
      λ e l q. both_ways (eqb (tail_of g.ends e) s) (n e l) (eq-eqb (tail_of g.ends e) s q) in
      let two : 2 ≤ g.vertices = poles.two in
      let a : 0 ≡ s = all_source g s t within poles none 0 (omega arith) in
      let b : 1 ≡ s = all_source g s t within poles none 1 (omega arith) in
      absurd (omega arith)
]

-- ---- an edge from a vertex to itself is a cycle
pub no_loop : AcyclicIsLoopless
no_loop g acyclic e l q = acyclic (tail_of g.ends e) e [] (step l refl (stay (sym q)))
