-- Lines with bends between dots: the picture is clean and shows the orders, wherever the dots stand on their bars.
--   Division, divide    a height over q: its row, and how far above it
--   Bends, bends        the points of a line: with no bend, one or two
--   Part, part          a segment of a line goes up one row, or along the column of the line
--   OnRow, spot         where a point of a line is, by its row
--   Stands, ordered     objects that two lines are at in a row, and their order
--   neat                such a picture is neat
--   dot_inside, line_fits     its items lie in the frame
--   polylines_drawn     it is drawn right
use Rattle.std.proofs.Common.{ℕ, zero, suc, cond, eqb, List, [], ◌∷◌, ◌≡◌, ◌≢◌, ◌<◌, ◌≤◌, ◌+◌, ◌-◌, ◌*◌, ◌⊎◌, inl, inr, refl, sym, ap, ◌∙◌, subst, arith, mul-le-mul_left, length, slice_get, Some, pos, ◌<ℤ◌}
use Rattle.std.specs.List.{AllByRecursion}
use Rattle.std.proofs.Math.Nat.{eq_of_mul-eq-mul_left}
use Rattle.std.proofs.lemmas.Bool.{cases_eq, cases_lt, eq-eqb, ne_eqb}
use Rattle.st_ids.specs.declared.names.Names.{Names}
use Rattle.st_ids.specs.Lists.{Precedes}
use Rattle.st_ids.specs.Walks.{Reaches}
use Rattle.st_ids.proofs.Public.{no_loop, reach_refl, reach_trans, reach_arc}
use Rattle.st_shape.specs.declared.picture.Form.TheVariants.{Polyline}
use Rattle.st_shape.specs.declared.point.Point.{Point}
use Rattle.st_shape.specs.declared.point.Segment.{Segment}
use Rattle.st_shape.specs.Clean.{IsSegmentOf, RisesIn}
use Rattle.st_shape.specs.Inside.{IsInside}
use Rattle.st_shape.specs.Meeting.{Ratio, LiesOn, Share, Meet}
use Rattle.st_shape.specs.Rules.{Drawing, FitsFrame}
use Rattle.st_sides.specs.Objects.{Object, vertex, edge, IsObject, bottom, top, left, right, before, after, leftward, rightward}
use Rattle.st_sides.specs.Sides.{SidesValue, edge_count, edge_tail, edge_head, face_left, face_right, left_of, right_of, outs, ins, primal, dual, IsSides}
use Rattle.st_sides.proofs.Public.{order_out_beside, order_in_beside, dual_acyclic, compared, same_object}
use Rattle.st_picture.specs.Drawn.{IsDrawn, IsFitting}
use Rattle.st_picture.specs.Items.{grid_point, line}
use Rattle.st_picture.specs.Naming.{AreNames, edge_name, vertex_name}
use Rattle.st_picture.specs.Order.{point_minus, cross_of_directions, leaving, arriving, IsShown, IsLeftOut, IsLeftIn}
use Rattle.st_picture.proofs.Public.{on_level, reach_grows, reach_same, segment, pos_same, pos_less, inside, Lies, lies, is_at, at_bounds, at_same, IsEndAt, EndsAt, JoinAt, IsNeat, neat_clean, vertex_is, line_is, fits, of_two, of_three, of_four, span_out, span_in, low_height, low_column, right_column, out_first, out_second, in_first, in_second}
use Rattle.draw_poly.specs.Polyline.{dot, dot_place, bent, polylines}
use Rattle.draw_poly.specs.Tracks.{track, AreTracks, IsCommonVertex}
use Rattle.draw_poly.proofs.DirectionLemmas.{one_row_out, one_row_in}
use Rattle.draw_poly.proofs.TrackLemmas.{tracks_law}

-- ---- a height over q: its row j, and i of i + k above it
pub record Division (n q : ℕ) : Type 0 where
  pub j : ℕ
  pub i : ℕ
  pub k : ℕ
  pub is : n ≡ q * j + i
  pub parts : i + k ≡ q
  pub rest : 1 ≤ k

divide : (q n : ℕ) → 1 ≤ q → Division n q
divide q zero l = record { j = 0; i = 0; k = q; is = omega arith; parts = omega arith; rest = l }
divide q (suc n) l =
    let D = divide q n l in
    let e = D.is in
    let f = D.parts in
    let r = D.rest in
    elim (cases_lt 1 D.k) [
      | inl m ↦ record { j = D.j; i = D.i + 1; k = D.k - 1; is = omega arith; parts = omega arith; rest = omega arith }
      | inr m ↦ record { j = D.j + 1; i = 0; k = q; is = omega arith; parts = omega arith; rest = l }
    ]

not_above : (q r j i i' : ℕ) → i < q → q * r + i' ≡ q * j + i → r ≤ j
not_above q r j i i' l e = elim (cases_lt j r) [
  | inr h ↦ h
  | inl h ↦ (let m : q * suc j ≤ q * r = mul-le-mul_left q h in absurd (omega arith))
]

same_row : (q r j i i' : ℕ) → i < q → i' < q → q * r + i' ≡ q * j + i → r ≡ j
same_row q r j i i' l m e = let a = not_above q r j i i' l e in let b = not_above q j r i' i m (sym e) in omega arith

same_point : (x x' y y' : ℕ) → x ≡ x' → y ≡ y' → grid_point x y ≡ grid_point x' y'
same_point x x' y y' e f = ap (λ z. grid_point z y) e ∙ ap (λ z. grid_point x' z) f

same_ends : (a a' b b' : Point) → a ≡ a' → b ≡ b' → segment a b ≡ segment a' b'
same_ends a a' b b' e f = ap (λ z. segment z b) e ∙ ap (λ z. segment a' z) f

module _ (g : SidesValue) (S : IsSides g) (y c p : ℕ → ℕ) (D : AreTracks g y c p) where
  abbrev points : ℕ → List Point
  points = bent g y c p

  abbrev T : ℕ → ℕ → ℕ
  T e j = track g y c p e j

  abbrev foot : ℕ → Point
  foot e = grid_point (p (edge_tail g e)) (y (edge_tail g e))

  abbrev peak : ℕ → Point
  peak e = grid_point (p (edge_head g e)) (y (edge_head g e))

  -- ---- rows
  track_tail : (e : ℕ) → T e (y (edge_tail g e)) ≡ p (edge_tail g e)
  track_tail e = ap (λ z. cond z (p (edge_tail g e)) (cond (eqb (y (edge_tail g e)) (y (edge_head g e))) (p (edge_head g e)) (c (face_left g e)))) (eq-eqb (y (edge_tail g e)) (y (edge_tail g e)) refl)

  off_tail : (e j : ℕ) → j ≢ y (edge_tail g e) → T e j ≡ cond (eqb j (y (edge_head g e))) (p (edge_head g e)) (c (face_left g e))
  off_tail e j n = ap (λ z. cond z (p (edge_tail g e)) (cond (eqb j (y (edge_head g e))) (p (edge_head g e)) (c (face_left g e)))) (ne_eqb j (y (edge_tail g e)) n)

  track_head : (e : ℕ) → e < edge_count g → T e (y (edge_head g e)) ≡ p (edge_head g e)
  track_head e a =
      let u : y (edge_tail g e) < y (edge_head g e) = D.up e a in
      off_tail e (y (edge_head g e)) (λ q. omega arith) ∙ ap (λ z. cond z (p (edge_head g e)) (c (face_left g e))) (eq-eqb (y (edge_head g e)) (y (edge_head g e)) refl)

  track_mid : (e j : ℕ) → y (edge_tail g e) < j → j < y (edge_head g e) → T e j ≡ c (face_left g e)
  track_mid e j l h = off_tail e j (λ q. omega arith) ∙ ap (λ z. cond z (p (edge_head g e)) (c (face_left g e))) (ne_eqb j (y (edge_head g e)) (λ q. omega arith))

  tail_point : (e : ℕ) → foot e ≡ grid_point (T e (y (edge_tail g e))) (y (edge_tail g e))
  tail_point e = ap (λ z. grid_point z (y (edge_tail g e))) (sym (track_tail e))

  head_point : (e r : ℕ) → e < edge_count g → y (edge_head g e) ≡ r → peak e ≡ grid_point (T e r) r
  head_point e r a q = same_point (p (edge_head g e)) (T e r) (y (edge_head g e)) r (sym (track_head e a) ∙ ap (λ z. T e z) q) q

  mid_point : (e r : ℕ) → y (edge_tail g e) < r → r < y (edge_head g e) → grid_point (c (face_left g e)) r ≡ grid_point (T e r) r
  mid_point e r l h = ap (λ z. grid_point z r) (sym (track_mid e r l h))

  -- ---- the points of a line
  data Bends (e : ℕ) : Type 0 where
    none : y (edge_head g e) ≡ y (edge_tail g e) + 1 → points e ≡ foot e ∷ peak e ∷ [] → Bends e
    one : y (edge_head g e) ≡ y (edge_tail g e) + 2 → points e ≡ foot e ∷ grid_point (c (face_left g e)) (y (edge_tail g e) + 1) ∷ peak e ∷ [] → Bends e
    two : y (edge_tail g e) + 3 ≤ y (edge_head g e) → points e ≡ foot e ∷ grid_point (c (face_left g e)) (y (edge_tail g e) + 1) ∷ grid_point (c (face_left g e)) (y (edge_head g e) - 1) ∷ peak e ∷ [] → Bends e

  bends : (e : ℕ) → e < edge_count g → Bends e
  bends e a =
      let u : y (edge_tail g e) < y (edge_head g e) = D.up e a in
      elim (cases_eq (y (edge_head g e)) (y (edge_tail g e) + 1)) [
        | inl q ↦ none q (ap (λ z. cond z straight (cond (eqb (y (edge_tail g e) + 1) (y (edge_head g e) - 1)) by_one by_two)) (eq-eqb (y (edge_head g e)) (y (edge_tail g e) + 1) q))
        | inr n ↦
            let first : points e ≡ cond (eqb (y (edge_tail g e) + 1) (y (edge_head g e) - 1)) by_one by_two = ap (λ z. cond z straight (cond (eqb (y (edge_tail g e) + 1) (y (edge_head g e) - 1)) by_one by_two)) (ne_eqb (y (edge_head g e)) (y (edge_tail g e) + 1) n) in
            elim (cases_eq (y (edge_tail g e) + 1) (y (edge_head g e) - 1)) [
              | inl q ↦ one (omega arith) (first ∙ ap (λ z. cond z by_one by_two) (eq-eqb (y (edge_tail g e) + 1) (y (edge_head g e) - 1) q))
              | inr m ↦ two (omega arith) (first ∙ ap (λ z. cond z by_one by_two) (ne_eqb (y (edge_tail g e) + 1) (y (edge_head g e) - 1) m))
            ]
      ]
    where
      straight : List Point
      straight = foot e ∷ peak e ∷ []

      by_one : List Point
      by_one = foot e ∷ grid_point (c (face_left g e)) (y (edge_tail g e) + 1) ∷ peak e ∷ []

      by_two : List Point
      by_two = foot e ∷ grid_point (c (face_left g e)) (y (edge_tail g e) + 1) ∷ grid_point (c (face_left g e)) (y (edge_head g e) - 1) ∷ peak e ∷ []

  first_is : (e : ℕ) → e < edge_count g → slice_get (points e) 0 ≡ Some (foot e)
  first_is e a = elim (bends e a) [
    | none l q ↦ ap (λ z. slice_get z 0) q
    | one l q ↦ ap (λ z. slice_get z 0) q
    | two l q ↦ ap (λ z. slice_get z 0) q
  ]

  last_is : (e : ℕ) → e < edge_count g → slice_get (points e) (length (points e) - 1) ≡ Some (peak e)
  last_is e a = elim (bends e a) [
    | none l q ↦ ap (λ z. slice_get z (length z - 1)) q
    | one l q ↦ ap (λ z. slice_get z (length z - 1)) q
    | two l q ↦ ap (λ z. slice_get z (length z - 1)) q
  ]

  -- a segment goes up one row, or along the column of the line
  data Part (e : ℕ) (s : Segment) : Type 0 where
    slant : (r : ℕ) → y (edge_tail g e) ≤ r → r + 1 ≤ y (edge_head g e) → s ≡ segment (grid_point (T e r) r) (grid_point (T e (r + 1)) (r + 1)) → Part e s
    upright : y (edge_tail g e) + 3 ≤ y (edge_head g e) → s ≡ segment (grid_point (c (face_left g e)) (y (edge_tail g e) + 1)) (grid_point (c (face_left g e)) (y (edge_head g e) - 1)) → Part e s

  part : (e : ℕ) (s : Segment) → e < edge_count g → IsSegmentOf (points e) s → Part e s
  part e s a Q = elim (bends e a) [
    | none l q ↦
        slant (y (edge_tail g e)) (omega arith) (omega arith) (of_two (foot e) (peak e) s (subst (λ z. IsSegmentOf z s) q Q)
        ∙ same_ends (foot e) (grid_point (T e (y (edge_tail g e))) (y (edge_tail g e))) (peak e) (grid_point (T e (y (edge_tail g e) + 1)) (y (edge_tail g e) + 1)) (tail_point e) (head_point e (y (edge_tail g e) + 1) a l))
    | one l q ↦ elim (of_three (foot e) (grid_point (c (face_left g e)) (y (edge_tail g e) + 1)) (peak e) s (subst (λ z. IsSegmentOf z s) q Q)) [
      | inl h ↦ first h (omega arith)
      | inr h ↦
          let k : y (edge_tail g e) + 1 < y (edge_head g e) = omega arith in
          slant (y (edge_tail g e) + 1) (omega arith) (omega arith) (h ∙ same_ends (grid_point (c (face_left g e)) (y (edge_tail g e) + 1)) (grid_point (T e (y (edge_tail g e) + 1)) (y (edge_tail g e) + 1)) (peak e) (grid_point (T e (y (edge_tail g e) + 1 + 1)) (y (edge_tail g e) + 1 + 1)) (mid_point e (y (edge_tail g e) + 1) (omega arith) k) (head_point e (y (edge_tail g e) + 1 + 1) a (omega arith)))
    ]
    | two l q ↦ elim (of_four (foot e) (grid_point (c (face_left g e)) (y (edge_tail g e) + 1)) (grid_point (c (face_left g e)) (y (edge_head g e) - 1)) (peak e) s (subst (λ z. IsSegmentOf z s) q Q)) [
      | inl h ↦ first h (omega arith)
      | inr h ↦ elim h [
        | inl h ↦ upright l h
        | inr h ↦
            let r = y (edge_head g e) - 1 in
            slant r (omega arith) (omega arith) (h ∙ same_ends (grid_point (c (face_left g e)) r) (grid_point (T e r) r) (peak e) (grid_point (T e (r + 1)) (r + 1)) (mid_point e r (omega arith) (omega arith)) (head_point e (r + 1) a (omega arith)))
      ]
    ]
  ]
    where
      first : s ≡ segment (foot e) (grid_point (c (face_left g e)) (y (edge_tail g e) + 1)) → y (edge_tail g e) + 1 < y (edge_head g e) → Part e s
      first h k = slant (y (edge_tail g e)) (omega arith) (omega arith) (h ∙ same_ends (foot e) (grid_point (T e (y (edge_tail g e))) (y (edge_tail g e))) (grid_point (c (face_left g e)) (y (edge_tail g e) + 1)) (grid_point (T e (y (edge_tail g e) + 1)) (y (edge_tail g e) + 1)) (tail_point e) (mid_point e (y (edge_tail g e) + 1) (omega arith) k))

  -- ---- a point of a line, by its row
  record OnRow (e q x j i k : ℕ) : Type 0 where
    pub low : y (edge_tail g e) ≤ j
    pub high : j ≤ y (edge_head g e)
    pub place : ((i ≡ 0) × (x ≡ q * T e j)) ⊎ ((1 ≤ i) × (j + 1 ≤ y (edge_head g e)) × (x ≡ k * T e j + i * T e (j + 1)))

  slanted : (e r : ℕ) (P : Ratio) → y (edge_tail g e) ≤ r → r + 1 ≤ y (edge_head g e) → (L : Lies (T e r) r (T e (r + 1)) (r + 1) P) → (V : Division L.y P.q) → 1 ≤ P.q → OnRow e P.q L.x V.j V.i V.k
  slanted e r P lo hi L V l =
      let parts : L.i + L.k ≡ P.q = L.at_y.parts in
      let ys = L.at_y.is in
      let xs : L.x ≡ L.k * T e r + L.i * T e (r + 1) = L.at_x.is in
      let b = V.is in
      let vp = V.parts in
      let vr = V.rest in
      let rows : L.y ≡ P.q * r + L.i = omega (arith, ap (λ t. t * r) parts, ys) in
      elim (cases_eq L.k 0) [
        | inl z ↦
            let n : L.i ≡ P.q = omega arith in
            let j : r + 1 ≡ V.j = same_row P.q (r + 1) V.j V.i 0 (omega arith) (omega arith) (omega arith) in
            let m : P.q * (r + 1) ≡ P.q * V.j = ap (λ t. P.q * t) j in
            let i : V.i ≡ 0 = omega arith in
            let x1 : L.k * T e r ≡ 0 = null L.k (T e r) z in
            let x2 : L.i * T e (r + 1) ≡ P.q * T e (r + 1) = ap (λ t. t * T e (r + 1)) n in
            let x3 : P.q * T e (r + 1) ≡ P.q * T e V.j = ap (λ t. P.q * T e t) j in
            record { low = omega arith; high = omega arith; place = inl (i, by_sum L.x (L.k * T e r) (L.i * T e (r + 1)) (P.q * T e V.j) xs x1 (x2 ∙ x3)) }
        | inr z ↦
            let j : r ≡ V.j = same_row P.q r V.j V.i L.i (omega arith) (omega arith) (omega arith) in
            let m : P.q * r ≡ P.q * V.j = ap (λ t. P.q * t) j in
            let i : L.i ≡ V.i = omega arith in
            let k : L.k ≡ V.k = omega arith in
            let xv : L.x ≡ V.k * T e V.j + V.i * T e (V.j + 1) = xs ∙ ap (λ t. t * T e r + L.i * T e (r + 1)) k ∙ ap (λ t. V.k * T e r + t * T e (r + 1)) i ∙ ap (λ t. V.k * T e t + V.i * T e (t + 1)) j in
            record {
              low = omega arith;
              high = omega arith;
              place = elim (cases_eq V.i 0) [
                | inl o ↦
                    let kq : V.k ≡ P.q = omega arith in
                    inl (o, by_sum L.x (V.i * T e (V.j + 1)) (V.k * T e V.j) (P.q * T e V.j) (xv ∙ swap (V.k * T e V.j) (V.i * T e (V.j + 1))) (null V.i (T e (V.j + 1)) o) (ap (λ t. t * T e V.j) kq))
                | inr o ↦ inr (omega arith, omega arith, xv)
              ];
            }
      ]
    where
      by_sum : (x a b d : ℕ) → x ≡ a + b → a ≡ 0 → b ≡ d → x ≡ d
      by_sum x a b d h k m = omega arith

      null : (a t : ℕ) → a ≡ 0 → a * t ≡ 0
      null a t h = omega (arith, ap (λ z. z * t) h)

      swap : (a b : ℕ) → a + b ≡ b + a
      swap a b = omega arith

  along : (e : ℕ) (P : Ratio) → y (edge_tail g e) + 3 ≤ y (edge_head g e) → (L : Lies (c (face_left g e)) (y (edge_tail g e) + 1) (c (face_left g e)) (y (edge_head g e) - 1) P) → (V : Division L.y P.q) → 1 ≤ P.q → OnRow e P.q L.x V.j V.i V.k
  along e P h L V l =
      let b = at_bounds P.q (y (edge_tail g e) + 1) (y (edge_head g e) - 1) L.y L.i L.k (y (edge_tail g e) + 1) (y (edge_head g e) - 1) L.at_y (omega arith) (omega arith) (omega arith) (omega arith) in
      let lo : P.q * (y (edge_tail g e) + 1) ≤ L.y = b.0 in
      let hi : L.y ≤ P.q * (y (edge_head g e) - 1) = b.1 in
      let v = V.is in
      let vp = V.parts in
      let vr = V.rest in
      let j0 : y (edge_tail g e) + 1 ≤ V.j = above P.q (y (edge_tail g e) + 1) V.j V.i (omega arith) (omega arith) in
      let j1 : V.j ≤ y (edge_head g e) - 1 = under P.q V.j (y (edge_head g e) - 1) l (omega arith) in
      let x : L.x ≡ P.q * c (face_left g e) = at_same P.q (c (face_left g e)) L.x L.i L.k L.at_x in
      let t : T e V.j ≡ c (face_left g e) = track_mid e V.j (omega arith) (omega arith) in
      record {
        low = omega arith;
        high = omega arith;
        place = elim (cases_eq V.i 0) [
          | inl o ↦ inl (o, x ∙ ap (λ z. P.q * z) (sym t))
          | inr o ↦
              let j2 : V.j < y (edge_head g e) - 1 = less P.q V.j (y (edge_head g e) - 1) V.i (omega arith) (omega arith) in
              let u : T e (V.j + 1) ≡ c (face_left g e) = track_mid e (V.j + 1) (omega arith) (omega arith) in
              let s : P.q * c (face_left g e) ≡ V.k * c (face_left g e) + V.i * c (face_left g e) = omega (arith, ap (λ z. z * c (face_left g e)) vp) in
              inr (omega arith, omega arith, x ∙ s ∙ ap (λ z. V.k * z + V.i * c (face_left g e)) (sym t) ∙ ap (λ z. V.k * T e V.j + V.i * z) (sym u))
        ];
      }
    where
      above : (q a j i : ℕ) → i < q → q * a ≤ q * j + i → a ≤ j
      above q a j i k m = elim (cases_lt j a) [ inr h ↦ h | inl h ↦ (let n : q * suc j ≤ q * a = mul-le-mul_left q h in absurd (omega arith)) ]

      under : (q j b : ℕ) → 1 ≤ q → q * j ≤ q * b → j ≤ b
      under q j b k m = elim (cases_lt b j) [ inr h ↦ h | inl h ↦ (let n : q * suc b ≤ q * j = mul-le-mul_left q h in absurd (omega arith)) ]

      less : (q j b i : ℕ) → 1 ≤ i → q * j + i ≤ q * b → j < b
      less q j b i k m = elim (cases_lt j b) [ inl h ↦ h | inr h ↦ (let n : q * b ≤ q * j = mul-le-mul_left q h in absurd (omega arith)) ]

  record Spot (e : ℕ) (P : Ratio) : Type 0 where
    pub x : ℕ
    pub y' : ℕ
    pub x_is : P.x ≡ pos x
    pub y_is : P.y ≡ pos y'
    pub row : (V : Division y' P.q) → OnRow e P.q x V.j V.i V.k

  spot : (e : ℕ) (s : Segment) (P : Ratio) → e < edge_count g → 1 ≤ P.q → IsSegmentOf (points e) s → LiesOn s P → Spot e P
  spot e s P a l Q H = elim (part e s a Q) [
    | slant r lo hi q ↦
        let L = lies (T e r) r (T e (r + 1)) (r + 1) P (subst (λ z. LiesOn z P) q H) in
        record { x = L.x; y' = L.y; x_is = L.x_is; y_is = L.y_is; row = λ V. slanted e r P lo hi L V l }
    | upright h q ↦
        let L = lies (c (face_left g e)) (y (edge_tail g e) + 1) (c (face_left g e)) (y (edge_head g e) - 1) P (subst (λ z. LiesOn z P) q H) in
        record { x = L.x; y' = L.y; x_is = L.x_is; y_is = L.y_is; row = λ V. along e P h L V l }
  ]

  -- ---- objects in a row
  abbrev spot_of : Object → ℕ
  spot_of (vertex v) = p v
  spot_of (edge e) = c (face_left g e)

  record Stands (e j : ℕ) : Type 0 where
    pub object : Object
    pub is_object : IsObject g object
    pub is : T e j ≡ spot_of object
    pub from : c (left g object) ≤ spot_of object
    pub to : spot_of object < c (right g object)
    pub low : y (bottom g object) ≤ j
    pub high : j ≤ y (top g object)
    pub kind : ((v : ℕ) × (object ≡ vertex v)) ⊎ ((y (bottom g object) < j) × (j < y (top g object)))
    pub span_left : Reaches (dual g) (left g object) (face_left g e)
    pub span_right : Reaches (dual g) (face_right g e) (right g object)

  stands : (e j : ℕ) → e < edge_count g → y (edge_tail g e) ≤ j → j ≤ y (edge_head g e) → Stands e j
  stands e j a lo hi = elim (cases_eq j (y (edge_tail g e))) [
    | inl q ↦ record {
      object = vertex (edge_tail g e);
      is_object = S.tail_in e a;
      is = ap (λ z. T e z) q ∙ track_tail e;
      from = D.from (edge_tail g e) (S.tail_in e a);
      to = D.to (edge_tail g e) (S.tail_in e a);
      low = omega arith;
      high = omega arith;
      kind = inl (edge_tail g e, refl);
      span_left = (span_out g S e a).0;
      span_right = (span_out g S e a).1;
    }
    | inr n ↦ elim (cases_eq j (y (edge_head g e))) [
      | inl q ↦ record {
        object = vertex (edge_head g e);
        is_object = S.head_in e a;
        is = ap (λ z. T e z) q ∙ track_head e a;
        from = D.from (edge_head g e) (S.head_in e a);
        to = D.to (edge_head g e) (S.head_in e a);
        low = omega arith;
        high = omega arith;
        kind = inl (edge_head g e, refl);
        span_left = (span_in g S e a).0;
        span_right = (span_in g S e a).1;
      }
      | inr m ↦
          let r : c (face_left g e) < c (face_right g e) = D.rightward e a in
          record {
            object = edge e;
            is_object = a;
            is = track_mid e j (omega arith) (omega arith);
            from = omega arith;
            to = omega arith;
            low = lo;
            high = hi;
            kind = inr (omega arith, omega arith);
            span_left = reach_refl refl;
            span_right = reach_refl refl;
          }
    ]
  ]

  -- objects in one row, one before the other, are one
  one_object : (e f j : ℕ) (A : Stands e j) (B : Stands f j) → Reaches (primal g) (top g A.object) (bottom g B.object) → A.object ≡ B.object
  one_object e f j A B h =
      let a1 : j ≤ y (top g A.object) = A.high in
      let b1 : y (bottom g B.object) ≤ j = B.low in
      let q : top g A.object ≡ bottom g B.object = reach_same (primal g) y D.up (top g A.object) (bottom g B.object) h (omega arith) in
      let yq : y (top g A.object) ≡ y (bottom g B.object) = ap y q in
      elim A.kind [
        | inl k ↦ elim B.kind [
          | inl m ↦ k.1 ∙ ap vertex (sym (ap (top g) k.1) ∙ q ∙ ap (bottom g) m.1) ∙ sym m.1
          | inr m ↦ (let w = m.0 in absurd (omega arith))
        ]
        | inr k ↦ (let w = k.1 in absurd (omega arith))
      ]

  ordered : (e f j : ℕ) → e < edge_count g → f < edge_count g → Reaches (dual g) (face_right g e) (face_left g f) → Stands e j → Stands f j → T e j ≢ T f j → T e j < T f j
  ordered e f j a b h A B n = elim (same_object A.object B.object) [
    | inl q ↦ absurd (n (A.is ∙ ap spot_of q ∙ sym B.is))
    | inr d ↦ elim (compared g S A.object B.object A.is_object B.is_object d) [
      | before k ↦ absurd (d (one_object e f j A B k))
      | after k ↦ absurd (d (sym (one_object f e j B A k)))
      | leftward k ↦
          let m : c (right g A.object) ≤ c (left g B.object) = reach_grows (dual g) c D.rightward (right g A.object) (left g B.object) k in
          let s : spot_of A.object < c (right g A.object) = A.to in
          let t : c (left g B.object) ≤ spot_of B.object = B.from in
          let u : T e j ≡ spot_of A.object = A.is in
          let v : T f j ≡ spot_of B.object = B.is in
          omega arith
      | rightward k ↦ absurd (no_loop (dual_acyclic g S) e a (reach_trans h (reach_trans (reach_arc f b) (reach_trans B.span_right (reach_trans k A.span_left)))))
    ]
  ]

  two_dots : (u v : ℕ) → u < g.vertices → v < g.vertices → u ≢ v → y u ≡ y v → p u ≡ p v → ⊥
  two_dots u v i j n row place = elim (compared g S (vertex u) (vertex v) i j (λ z. n (cc z))) [
    | before r ↦ n (reach_same (primal g) y D.up u v r (omega arith))
    | after r ↦ n (sym (reach_same (primal g) y D.up v u r (omega arith)))
    | leftward r ↦ (let m : c (right_of g u) ≤ c (left_of g v) = reach_grows (dual g) c D.rightward (right_of g u) (left_of g v) r in let s = D.to u i in let t = D.from v j in omega arith)
    | rightward r ↦ (let m : c (right_of g v) ≤ c (left_of g u) = reach_grows (dual g) c D.rightward (right_of g v) (left_of g u) r in let s = D.to v j in let t = D.from u i in omega arith)
  ]

  -- ---- neat
  abbrev figure : ℕ → Segment
  figure v = segment (grid_point (p v) (y v)) (grid_point (p v) (y v))

  rises : (e : ℕ) (s : Segment) → e < edge_count g → IsSegmentOf (points e) s → RisesIn Polyline s
  rises e s a Q = elim (part e s a Q) [
    | slant r lo hi q ↦ subst (RisesIn Polyline) (sym q) (pos_less r (r + 1) (omega arith))
    | upright h q ↦ subst (RisesIn Polyline) (sym q) (pos_less (y (edge_tail g e) + 1) (y (edge_head g e) - 1) (omega arith))
  ]

  apart : (u v : ℕ) → u < g.vertices → v < g.vertices → u ≢ v → Meet (figure u) (figure v) → ⊥
  apart u v i j n M =
      let P = M.0 in
      let Q = M.1 in
      let L = lies (p u) (y u) (p u) (y u) P Q.first in
      let R = lies (p v) (y v) (p v) (y v) P Q.second in
      let x : P.q * p u ≡ P.q * p v = sym (at_same P.q (p u) L.x L.i L.k L.at_x) ∙ pos_same (sym L.x_is ∙ R.x_is) ∙ at_same P.q (p v) R.x R.i R.k R.at_x in
      let h : P.q * y u ≡ P.q * y v = sym (at_same P.q (y u) L.y L.i L.k L.at_y) ∙ pos_same (sym L.y_is ∙ R.y_is) ∙ at_same P.q (y v) R.y R.i R.k R.at_y in
      two_dots u v i j n (eq_of_mul-eq-mul_left P.q Q.divides (y u) (y v) h) (eq_of_mul-eq-mul_left P.q Q.divides (p u) (p v) x)

  passes : (v e : ℕ) (s : Segment) (P : Ratio) → v < g.vertices → e < edge_count g → IsSegmentOf (points e) s → Share s (figure v) P → EndsAt g points e v P
  passes v e s P i a Q H =
      let W = spot e s P a H.divides Q H.first in
      let R = lies (p v) (y v) (p v) (y v) P H.second in
      let x : W.x ≡ P.q * p v = pos_same (sym W.x_is ∙ R.x_is) ∙ at_same P.q (p v) R.x R.i R.k R.at_x in
      let h : W.y' ≡ P.q * y v = pos_same (sym W.y_is ∙ R.y_is) ∙ at_same P.q (y v) R.y R.i R.k R.at_y in
      let d = H.divides in
      let V : Division W.y' P.q = record { j = y v; i = 0; k = P.q; is = omega arith; parts = omega arith; rest = d } in
      let O = W.row V in
      elim O.place [
        | inr o ↦ (let z = o.0 in absurd (omega arith))
        | inl o ↦
            let t : T e (y v) ≡ p v = eq_of_mul-eq-mul_left P.q d (T e (y v)) (p v) (sym o.1 ∙ x) in
            elim ((tracks_law g S y c p D).dots e v a i O.low O.high t) [
              | inl q ↦ record { v = foot e; end = inl (first_is e a, sym q); is = is_at P W.x W.y' (p (edge_tail g e)) (y (edge_tail g e)) W.x_is W.y_is (x ∙ ap (λ z. P.q * p z) q) (h ∙ ap (λ z. P.q * y z) q) }
              | inr q ↦ record { v = peak e; end = inr (last_is e a, sym q); is = is_at P W.x W.y' (p (edge_head g e)) (y (edge_head g e)) W.x_is W.y_is (x ∙ ap (λ z. P.q * p z) q) (h ∙ ap (λ z. P.q * y z) q) }
            ]
      ]

  some_point : (x z : Point) → Some x ≡ Some z → x ≡ z
  some_point x z e = cc e

  ends : (e m : ℕ) (v : Point) → e < edge_count g → m < g.vertices → IsEndAt g points e m v → Meet (segment v v) (figure m)
  ends e m v a i (inl (q, t)) =
      subst (λ z. Meet (segment z z) (figure m)) (some_point (foot e) v (sym (first_is e a) ∙ q))
      (subst (λ z. Meet (segment (foot e) (foot e)) (figure z)) t (on_level (p (edge_tail g e)) (p (edge_tail g e)) (p (edge_tail g e)) (y (edge_tail g e)) (omega arith) (omega arith)))
  ends e m v a i (inr (q, t)) =
      subst (λ z. Meet (segment z z) (figure m)) (some_point (peak e) v (sym (last_is e a) ∙ q))
      (subst (λ z. Meet (segment (peak e) (peak e)) (figure z)) t (on_level (p (edge_head g e)) (p (edge_head g e)) (p (edge_head g e)) (y (edge_head g e)) (omega arith) (omega arith)))

  -- a vertex at the end of a line
  end_at : (e m : ℕ) → e < edge_count g → (m ≡ edge_tail g e) ⊎ (m ≡ edge_head g e) → IsEndAt g points e m (grid_point (p m) (y m)) × (T e (y m) ≡ p m)
  end_at e m a (inl q) = (inl (first_is e a ∙ ap (λ z. Some (grid_point (p z) (y z))) (sym q), sym q), ap (λ z. T e (y z)) q ∙ track_tail e ∙ ap p (sym q))
  end_at e m a (inr q) = (inr (last_is e a ∙ ap (λ z. Some (grid_point (p z) (y z))) (sym q), sym q), ap (λ z. T e (y z)) q ∙ track_head e a ∙ ap p (sym q))

  at_row : (e q x j m : ℕ) → x ≡ q * T e j → y m ≡ j → T e (y m) ≡ p m → x ≡ q * p m
  at_row e q x j m h k r = h ∙ ap (λ z. q * T e z) (sym k) ∙ ap (λ z. q * z) r

  -- a shared point in a row at which both lines have a vertex
  joined : (e f : ℕ) (P : Ratio) (x h j i : ℕ) → e < edge_count g → f < edge_count g → P.x ≡ pos x → P.y ≡ pos h → x ≡ P.q * T e j → h ≡ P.q * j + i → i ≡ 0 → IsCommonVertex g y e f j → JoinAt g points e f P
  joined e f P x h j i a b X H xs hs z C =
      let E = end_at e C.at a C.of_first in
      let F = end_at f C.at b C.of_second in
      let row : P.q * y C.at ≡ P.q * j = ap (λ z. P.q * z) C.row in
      record { m = C.at; v = grid_point (p C.at) (y C.at); first = E.0; second = F.0; is = is_at P x h (p C.at) (y C.at) X H (at_row e P.q x j C.at xs C.row E.1) (omega arith) }

  lines : (e f : ℕ) (s t : Segment) (P : Ratio) → e < edge_count g → f < edge_count g → e ≢ f → IsSegmentOf (points e) s → IsSegmentOf (points f) t → Share s t P → JoinAt g points e f P
  lines e f s t P a b n Q R H =
      let W = spot e s P a H.divides Q H.first in
      let Z = spot f t P b H.divides R H.second in
      let x : W.x ≡ Z.x = pos_same (sym W.x_is ∙ Z.x_is) in
      let h : W.y' ≡ Z.y' = pos_same (sym W.y_is ∙ Z.y_is) in
      let V = divide P.q W.y' H.divides in
      let O = W.row V in
      let U : Division Z.y' P.q = record { j = V.j; i = V.i; k = V.k; is = sym h ∙ V.is; parts = V.parts; rest = V.rest } in
      let K = Z.row U in
      elim O.place [
        | inl o ↦ elim K.place [
          | inr k ↦ (let z = k.0 in let w = o.0 in absurd (omega arith))
          | inl k ↦
              let T' : T e V.j ≡ T f V.j = eq_of_mul-eq-mul_left P.q H.divides (T e V.j) (T f V.j) (sym o.1 ∙ x ∙ k.1) in
              joined e f P W.x W.y' V.j V.i a b W.x_is W.y_is o.1 V.is o.0 ((tracks_law g S y c p D).rows e f V.j a b n O.low O.high K.low K.high T')
        ]
        | inr o ↦ elim K.place [
          | inl k ↦ (let z = k.0 in let w = o.0 in absurd (omega arith))
          | inr k ↦ absurd ((tracks_law g S y c p D).between e f V.j V.i V.k a b n O.low (let z = o.1 in omega arith) K.low (let z = k.1 in omega arith) o.0 V.rest (sym o.2 ∙ x ∙ k.2))
        ]
      ]

  neat : IsNeat g Polyline figure points
  neat = record { rises = rises; apart = apart; passes = passes; ends = ends; lines = lines }

  -- ---- the order at a dot
  leaving_is : (e v : ℕ) → e < edge_count g → edge_tail g e ≡ v → leaving (points e) ≡ point_minus (grid_point (T e (y v + 1)) (y v + 1)) (grid_point (p v) (y v))
  leaving_is e v a q = subst (λ z. leaving (points e) ≡ point_minus (grid_point (T e (y z + 1)) (y z + 1)) (grid_point (p z) (y z))) q (elim (bends e a) [
    | none l r ↦ ap leaving r ∙ ap (λ z. point_minus z (foot e)) (head_point e (y (edge_tail g e) + 1) a l)
    | one l r ↦ ap leaving r ∙ ap (λ z. point_minus z (foot e)) (mid_point e (y (edge_tail g e) + 1) (omega arith) (omega arith))
    | two l r ↦ ap leaving r ∙ ap (λ z. point_minus z (foot e)) (mid_point e (y (edge_tail g e) + 1) (omega arith) (omega arith))
  ])

  arriving_is : (e v r : ℕ) → e < edge_count g → edge_head g e ≡ v → y v ≡ r + 1 → arriving (points e) ≡ point_minus (grid_point (p v) (r + 1)) (grid_point (T e r) r)
  arriving_is e v r a q l' =
      let l0 : y (edge_head g e) ≡ y v = ap y q in
      let l : y (edge_head g e) ≡ r + 1 = l0 ∙ l' in
      let at_peak : peak e ≡ grid_point (p v) (r + 1) = same_point (p (edge_head g e)) (p v) (y (edge_head g e)) (r + 1) (ap p q) l in
      elim (bends e a) [
        | none l1 s ↦
            let t : y (edge_tail g e) ≡ r = omega arith in
            ap arriving s ∙ ap (λ z. point_minus z (foot e)) at_peak ∙ ap (λ z. point_minus (grid_point (p v) (r + 1)) z) (tail_point e ∙ ap (λ z. grid_point (T e z) z) t)
        | one l1 s ↦
            let t : y (edge_tail g e) + 1 ≡ r = omega arith in
            ap arriving s ∙ ap (λ z. point_minus z (grid_point (c (face_left g e)) (y (edge_tail g e) + 1))) at_peak ∙ ap (λ z. point_minus (grid_point (p v) (r + 1)) z) (mid_point e (y (edge_tail g e) + 1) (omega arith) (omega arith) ∙ ap (λ z. grid_point (T e z) z) t)
        | two l1 s ↦
            let t : y (edge_head g e) - 1 ≡ r = omega arith in
            ap arriving s ∙ ap (λ z. point_minus z (grid_point (c (face_left g e)) (y (edge_head g e) - 1))) at_peak ∙ ap (λ z. point_minus (grid_point (p v) (r + 1)) z) (mid_point e (y (edge_head g e) - 1) (omega arith) (omega arith) ∙ ap (λ z. grid_point (T e z) z) t)
      ]

  different : (e f : ℕ) → e < edge_count g → Reaches (dual g) (face_right g e) (face_left g f) → e ≢ f
  different e f a h q = no_loop (dual_acyclic g S) e a (reach_trans h (reach_refl (ap (face_left g) (sym q))))

  out_order : (v e f : ℕ) → v < g.vertices → Precedes e f (outs g v) → T e (y v + 1) < T f (y v + 1)
  out_order v e f i P =
      let A = out_first g S v e f i P in
      let B = out_second g S v e f i P in
      let h = (order_out_beside g S v e f i P).across in
      let ue : y (edge_tail g e) < y (edge_head g e) = D.up e A.0 in
      let uf : y (edge_tail g f) < y (edge_head g f) = D.up f B.0 in
      let te : y (edge_tail g e) ≡ y v = ap y A.1 in
      let tf : y (edge_tail g f) ≡ y v = ap y B.1 in
      let pe : T e (y v) ≡ p v = ap (λ z. T e z) (sym te) ∙ track_tail e ∙ ap p A.1 in
      let pf : T f (y v) ≡ p v = ap (λ z. T f z) (sym tf) ∙ track_tail f ∙ ap p B.1 in
      ordered e f (y v + 1) A.0 B.0 h (stands e (y v + 1) A.0 (omega arith) (omega arith)) (stands f (y v + 1) B.0 (omega arith) (omega arith))
      (λ q. (tracks_law g S y c p D).between e f (y v) 1 1 A.0 B.0 (different e f A.0 h) (omega arith) (omega arith) (omega arith) (omega arith) (omega arith) (omega arith)
      (ap (λ z. 1 * z + 1 * T e (y v + 1)) (pe ∙ sym pf) ∙ ap (λ z. 1 * T f (y v) + 1 * z) q))

  in_order : (v e f r : ℕ) → v < g.vertices → Precedes e f (ins g v) → y v ≡ r + 1 → T e r < T f r
  in_order v e f r i P l =
      let A = in_first g S v e f i P in
      let B = in_second g S v e f i P in
      let h = (order_in_beside g S v e f i P).across in
      let ue : y (edge_tail g e) < y (edge_head g e) = D.up e A.0 in
      let uf : y (edge_tail g f) < y (edge_head g f) = D.up f B.0 in
      let te : y (edge_head g e) ≡ y v = ap y A.1 in
      let tf : y (edge_head g f) ≡ y v = ap y B.1 in
      let pe : T e (r + 1) ≡ p v = ap (λ z. T e z) (sym l ∙ sym te) ∙ track_head e A.0 ∙ ap p A.1 in
      let pf : T f (r + 1) ≡ p v = ap (λ z. T f z) (sym l ∙ sym tf) ∙ track_head f B.0 ∙ ap p B.1 in
      ordered e f r A.0 B.0 h (stands e r A.0 (omega arith) (omega arith)) (stands f r B.0 (omega arith) (omega arith))
      (λ q. (tracks_law g S y c p D).between e f r 1 1 A.0 B.0 (different e f A.0 h) (omega arith) (omega arith) (omega arith) (omega arith) (omega arith) (omega arith)
      (ap (λ z. 1 * T e r + 1 * z) (pe ∙ sym pf) ∙ ap (λ z. 1 * z + 1 * T f (r + 1)) q))

  module _ (N : Names) (A : AreNames g N) where
    abbrev picture : Drawing
    picture = polylines g N y c p

    abbrev corner : Point
    corner = grid_point (c g.t_star - 1) (y g.sink)

    abbrev place : ℕ → Point
    place = dot_place p y

    dot_is : (v : ℕ) → v < g.vertices → slice_get picture.items v ≡ Some (dot N p y v)
    dot_is v i = vertex_is g N Polyline corner (dot N p y) points place v i

    bent_is : (e : ℕ) → e < edge_count g → slice_get picture.items (g.vertices + e) ≡ Some (line g N points e)
    bent_is e a = line_is g N Polyline corner (dot N p y) points place e a

    shows_out : (v e f : ℕ) → v < g.vertices → Precedes e f (outs g v) → IsShown IsLeftOut picture.items v (g.vertices + e) (g.vertices + f)
    shows_out v e f i P =
        let E = out_first g S v e f i P in
        let F = out_second g S v e f i P in
        record {
          figure = dot N p y v;
          ps = points e;
          qs = points f;
          figure_is = dot_is v i;
          first = record { name = edge_name N e; tail = vertex_name N (edge_tail g e); head = vertex_name N (edge_head g e); is = bent_is e E.0 };
          second = record { name = edge_name N f; tail = vertex_name N (edge_tail g f); head = vertex_name N (edge_head g f); is = bent_is f F.0 };
          is_left = subst (λ z. cross_of_directions (leaving (points e)) z <ℤ pos 0) (sym (leaving_is f v F.0 F.1))
              (subst (λ z. cross_of_directions z (point_minus (grid_point (T f (y v + 1)) (y v + 1)) (grid_point (p v) (y v))) <ℤ pos 0) (sym (leaving_is e v E.0 E.1))
              (one_row_out (T e (y v + 1)) (T f (y v + 1)) (p v) (y v) (out_order v e f i P)));
        }

    shows_in : (v e f : ℕ) → v < g.vertices → Precedes e f (ins g v) → IsShown IsLeftIn picture.items v (g.vertices + e) (g.vertices + f)
    shows_in v e f i P =
        let E = in_first g S v e f i P in
        let F = in_second g S v e f i P in
        let u : y (edge_tail g e) < y (edge_head g e) = D.up e E.0 in
        let t : y (edge_head g e) ≡ y v = ap y E.1 in
        let r = y v - 1 in
        let l : y v ≡ r + 1 = omega arith in
        record {
          figure = dot N p y v;
          ps = points e;
          qs = points f;
          figure_is = dot_is v i;
          first = record { name = edge_name N e; tail = vertex_name N (edge_tail g e); head = vertex_name N (edge_head g e); is = bent_is e E.0 };
          second = record { name = edge_name N f; tail = vertex_name N (edge_tail g f); head = vertex_name N (edge_head g f); is = bent_is f F.0 };
          is_left = subst (λ z. pos 0 <ℤ cross_of_directions (arriving (points e)) z) (sym (arriving_is f v r F.0 F.1 l))
              (subst (λ z. pos 0 <ℤ cross_of_directions z (point_minus (grid_point (p v) (r + 1)) (grid_point (T f r) r))) (sym (arriving_is e v r E.0 E.1 l))
              (one_row_in (T e r) (T f r) (p v) r (in_order v e f r i P l)));
        }

    pub dot_inside : (v : ℕ) → v < g.vertices → IsInside corner (place v)
    dot_inside v i =
        let t = D.to v i in
        let r : c (right_of g v) ≤ c g.t_star = right_column g S c D.rightward v i in
        inside (c g.t_star - 1) (y g.sink) (p v) (y v) (omega arith) (low_height g S y D.up v i)

    bend_inside : (e r : ℕ) → e < edge_count g → r ≤ y (edge_head g e) → IsInside corner (grid_point (c (face_left g e)) r)
    bend_inside e r a l =
        let m : c (face_left g e) < c (face_right g e) = D.rightward e a in
        let t : c (face_right g e) ≤ c g.t_star = low_column g S c D.rightward (face_right g e) (S.right_within e a) in
        let h : y (edge_head g e) ≤ y g.sink = low_height g S y D.up (edge_head g e) (S.head_in e a) in
        inside (c g.t_star - 1) (y g.sink) (c (face_left g e)) r (omega arith) (omega arith)

    pub line_fits : (e : ℕ) → e < edge_count g → FitsFrame corner (line g N points e)
    line_fits e a =
        let u : y (edge_tail g e) < y (edge_head g e) = D.up e a in
        let t = dot_inside (edge_tail g e) (S.tail_in e a) in
        let h = dot_inside (edge_head g e) (S.head_in e a) in
        elim (bends e a) [
          | none l q ↦ subst (λ z. (2 ≤ length z) × (length z ≤ 4) × AllByRecursion (IsInside corner) z) (sym q) (omega arith, omega arith, (t, (h, tt)))
          | one l q ↦ subst (λ z. (2 ≤ length z) × (length z ≤ 4) × AllByRecursion (IsInside corner) z) (sym q) (omega arith, omega arith, (t, (bend_inside e (y (edge_tail g e) + 1) a (omega arith), (h, tt))))
          | two l q ↦ subst (λ z. (2 ≤ length z) × (length z ≤ 4) × AllByRecursion (IsInside corner) z) (sym q) (omega arith, omega arith, (t, (bend_inside e (y (edge_tail g e) + 1) a (omega arith), (bend_inside e (y (edge_head g e) - 1) a (omega arith), (h, tt)))))
        ]

    fitting : IsFitting picture
    fitting = fits g N Polyline corner (dot N p y) points place dot_inside line_fits (λ v text i q. (dot_inside v i, (A.texts v text i q).0, (A.texts v text i q).1, (A.texts v text i q).2))

    pub polylines_drawn : IsDrawn g picture
    polylines_drawn = record {
      right = neat_clean g S N A Polyline corner (dot N p y) points place figure (λ v i. refl) neat;
      order = λ v i. record { out = λ e f P. shows_out v e f i P; into = λ e f P. shows_in v e f i P };
      fitting = fitting;
    }
