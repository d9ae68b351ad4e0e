-- A file has one polyline picture for each spot, and it is right.
use Rattle.std.proofs.Common.{◌≡◌, ◌≢◌, ℕ, zero, suc, max, ◌-◌, ◌<◌, ◌≤◌, ◌⊎◌, inl, inr, length, sym, ap, ◌∙◌, subst, arith}
use Rattle.std.proofs.lemmas.Bool.{cases_eq}
use Rattle.std.proofs.Math.Nat.{le-max_left}
use Rattle.st_ids.specs.declared.names.Names.{Names}
use Rattle.st_ids.specs.Graph.{tail_of, head_of}
use Rattle.st_map.specs.Embedded.{Embedded, edges, tail, head}
use Rattle.st_shape.specs.Rules.{Drawing}
use Rattle.st_sides.specs.Sides.{SidesValue, IsSides, edge_count, edge_tail, edge_head, left_of, right_of}
use Rattle.st_sides.specs.SidesOf.{IsSidesOf}
use Rattle.st_sides.proofs.Public.{left_within, right_within}
use Rattle.st_number.specs.Parallel.{IsParallel, HasParallel}
use Rattle.st_number.proofs.Public.{numbers_law}
use Rattle.draw_poly.specs.Numbers.{AreLong}
use Rattle.draw_poly.specs.Polyline.{IsPolylines}
use Rattle.draw_poly.proofs.Public.{one_placed}
use Rattle.st_words.specs.declared.words.Spot.{Spot}
use Rattle.stdraw_core.specs.Drawing.{ArePolylineRows, spot_place, IsPlacedPolyline}
use Rattle.stdraw_core.proofs.DrawingLemmas.{same_numbers}

-- ---- whether an edge has a parallel
is_parallel : (g : Embedded) (e d : ℕ) → IsParallel g e d ⊎ (IsParallel g e d → ⊥)
is_parallel g e d = elim (cases_eq d e) [
  | inl q ↦ inr (λ h. h.other q)
  | inr n ↦ elim (cases_eq (tail g d) (tail g e)) [
    | inr m ↦ inr (λ h. m h.tails)
    | inl t ↦ elim (cases_eq (head g d) (head g e)) [
      | inr m ↦ inr (λ h. m h.heads)
      | inl q ↦ inl (record { other = n; tails = t; heads = q })
    ]
  ]
]

-- among the first n edges
parallel_below : (g : Embedded) (e n : ℕ) → ((d : ℕ) × (d < n) × IsParallel g e d) ⊎ ((d : ℕ) → d < n → IsParallel g e d → ⊥)
parallel_below g e zero = inr (λ d l h. omega arith)
parallel_below g e (suc n) = elim (parallel_below g e n) [
  | inl q ↦ inl (q.0, omega (arith, q.1), q.2)
  | inr none ↦ elim (is_parallel g e n) [
    | inl h ↦ inl (n, omega arith, h)
    | inr not ↦ inr (λ d l h. elim (cases_eq d n) [ inl q ↦ not (subst (λ z. IsParallel g e z) q h) | inr m ↦ none d (omega (arith, m)) h ])
  ]
]

has_parallel : (g : Embedded) (e : ℕ) → HasParallel g e ⊎ (HasParallel g e → ⊥)
has_parallel g e = elim (parallel_below g e (edges g)) [ inl q ↦ inl q | inr none ↦ inr (λ h. none h.0 h.1 h.2) ]

-- ---- rows
one_rows : (g : Embedded) (l w w' : ℕ → ℕ) → ArePolylineRows g l w → ArePolylineRows g l w' → (e : ℕ) → e < edges g → w e ≡ w' e
one_rows g r w w' h k e l = elim (has_parallel g e) [
  | inl p ↦ h.double e l p ∙ sym (k.double e l p)
  | inr n ↦ h.single e l n ∙ sym (k.single e l n)
]

module _ (g : Embedded) (s t outer : ℕ) (x : SidesValue) (of : IsSidesOf g s t outer x) (S : IsSides x) where
  -- an edge of the sides is one of the graph
  there : (e : ℕ) → e < edge_count x → e < edges g
  unfolding edge_count
  there e l = let q : length x.ends ≡ length g.ends = ap length of.ends in omega arith

  parallel : (e d : ℕ) → d < edge_count x → e ≢ d → edge_tail x e ≡ edge_tail x d → edge_head x e ≡ edge_head x d → HasParallel g e
  unfolding edge_tail edge_head
  parallel e d l n ts hs = (
    d,
    there d l,
    record {
      other = λ q. n (sym q);
      tails = ap (λ z. tail_of z d) (sym of.ends) ∙ sym ts ∙ ap (λ z. tail_of z e) of.ends;
      heads = ap (λ z. head_of z d) (sym of.ends) ∙ sym hs ∙ ap (λ z. head_of z e) of.ends;
    },
  )

  pub long : (r w : ℕ → ℕ) → ((e : ℕ) → e < edge_count x → 1 ≤ r e) → ArePolylineRows g r w → AreLong x w
  long r w some h = record {
    from_one = λ e l. elim (has_parallel g e) [
      | inl p ↦ let d : w e ≡ max 2 (r e) = h.double e (there e l) p in let two : 2 ≤ max 2 (r e) = le-max_left 2 (r e) in omega arith
      | inr n ↦ let d : w e ≡ r e = h.single e (there e l) n in let one : 1 ≤ r e = some e l in omega arith
    ];
    from_two = λ e d l m n ts hs. let q : w e ≡ max 2 (r e) = h.double e (there e l) (parallel e d m n ts hs) in let two : 2 ≤ max 2 (r e) = le-max_left 2 (r e) in omega arith;
  }

  under : (w w' : ℕ → ℕ) → ((e : ℕ) → e < edge_count x → w e ≡ w' e) → (p : ℕ → ℕ) (N : Names) (d : Drawing) → (h : IsPolylines x w p N d) → IsPolylines x w' p N d
  under w w' same p N d h = record {
    y = h.y;
    c = h.c;
    numbers = same_numbers x w w' h.y h.c same h.numbers;
    from = h.from;
    to = h.to;
    is = h.is;
  }

  pub one_polyline : (spot : Spot) (r : ℕ → ℕ) (N : Names) (d d' : Drawing) → IsPlacedPolyline spot g r x N d → IsPlacedPolyline spot g r x N d' → d ≡ d'
  one_polyline spot r N d d' A B =
      let same : (e : ℕ) → e < edge_count x → B.weight e ≡ A.weight e = λ e l. one_rows g r B.weight A.weight B.rows A.rows e (there e l) in
      let column : (f : ℕ) → f ≤ x.t_star → A.picture.c f ≡ B.picture.c f = λ f l. (numbers_law x S).same_columns A.picture.c B.picture.c A.picture.numbers.column B.picture.numbers.column f l in
      one_placed x S A.weight A.column B.column
      (λ v l. A.placed v l
      ∙ ap (λ z. spot_place spot z (A.picture.c (right_of x v) - 1)) (column (left_of x v) (left_within x S v l))
      ∙ ap (λ z. spot_place spot (B.picture.c (left_of x v)) (z - 1)) (column (right_of x v) (right_within x S v l))
      ∙ sym (B.placed v l))
      N d d' A.picture (under B.weight A.weight same B.column N d' B.picture)
