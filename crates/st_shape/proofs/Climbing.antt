-- Points of segments and lines that climb: each end of a line is a point of one segment alone.
use Rattle.std.proofs.Common.{◌≡◌, ℕ, zero, suc, ◌+◌, ◌-◌, ◌*◌, ◌<◌, ◌≤◌, List, length, get_or, slice_get, Some, ℤ, pos, ◌+ℤ◌, ◌-ℤ◌, ◌*ℤ◌, ◌≤ℤ◌, nat_abs, ap, ap₂, sym, subst, ◌∙◌, inl, inr, arith, add-one, mul-le-mul_left, All}
use Rattle.std.proofs.lemmas.Bool.{cases_lt}
use Rattle.std.proofs.lemmas.List.Elements.{All-get_or}
use Rattle.std.proofs.lemmas.Option.{slice_get-get_or, slice_get_within, get_or_from_slice_get}
use Rattle.std.proofs.Math.Nat.{eq_of_mul-eq-mul_left}
use Rattle.st_shape.specs.declared.point.Point.{Point}
use Rattle.st_shape.specs.declared.point.Segment.{Segment}
use Rattle.st_shape.specs.Clean.{IsSegmentOf}
use Rattle.st_shape.specs.Meeting.{IsAt, IsOnGrid, LiesOn, Ratio, Share}
use Rattle.st_shape.proofs.MeetingLemmas.{coordinate_is, mean_is}
use Rattle.st_shape.specs.Steps.{AreOnGrid, Climbs, IsClimbingLine, place}

-- ---- which end comes first does not matter

turned_is : (x z w : ℤ) (q i j : ℕ) → pos 0 ≤ℤ z → pos 0 ≤ℤ w → q ≡ j + i →
    x ≡ pos q *ℤ z +ℤ pos i *ℤ (w -ℤ z) → x ≡ pos q *ℤ w +ℤ pos j *ℤ (z -ℤ w)
turned_is x z w q i j hz hw e f =
    let a = coordinate_is z hz in
    let b = coordinate_is w hw in
    f ∙ mean_is z w (nat_abs z) (nat_abs w) q i j a b e ∙ ap pos (sums i j (nat_abs z) (nat_abs w))
    ∙ sym (mean_is w z (nat_abs w) (nat_abs z) q j i b a (omega (arith, e)))
  where
    sums : (i j a b : ℕ) → j * a + i * b ≡ i * b + j * a
    sums i j a b = omega arith

pub Share-turned : (a b : Point) (t : Segment) (p : Ratio) → IsOnGrid a → IsOnGrid b →
    Share (record { a = b; b = a }) t p → Share (record { a = a; b = b }) t p
Share-turned a b t p ga gb h =
    record {
      divides = h.divides;
      first = record {
        i = p.q - h.first.i;
        within = omega arith;
        x_is = turned_is p.x b.x a.x p.q h.first.i (p.q - h.first.i) gb.x_low ga.x_low (omega (arith, h.first.within)) h.first.x_is;
        y_is = turned_is p.y b.y a.y p.q h.first.i (p.q - h.first.i) gb.y_low ga.y_low (omega (arith, h.first.within)) h.first.y_is;
      };
      second = h.second;
    }

-- ---- a fraction is one point

same_coordinate : (z w x : ℤ) (q : ℕ) → pos 0 ≤ℤ z → pos 0 ≤ℤ w → 0 < q → x ≡ pos q *ℤ z → x ≡ pos q *ℤ w → z ≡ w
same_coordinate z w x q hz hw positive e f =
    let a = coordinate_is z hz in
    let b = coordinate_is w hw in
    a ∙ ap pos (same_natural q (nat_abs z) (nat_abs w) positive
    (ap nat_abs (sym (e ∙ ap (λ u. pos q *ℤ u) a) ∙ (f ∙ ap (λ u. pos q *ℤ u) b)))) ∙ sym b
  where
    same_natural : (q a b : ℕ) → 0 < q → q * a ≡ q * b → a ≡ b
    same_natural q a b positive e = eq_of_mul-eq-mul_left q positive a b e

pub one_point : (p : Ratio) (v w : Point) → IsOnGrid v → IsOnGrid w → 0 < p.q → IsAt p v → IsAt p w → v ≡ w
one_point p v w gv gw positive e f =
    ap₂ (λ a b. let u : Point = record { x = a; y = b } in u)
    (same_coordinate v.x w.x p.x p.q gv.x_low gw.x_low positive e.x_is f.x_is)
    (same_coordinate v.y w.y p.y p.q gv.y_low gw.y_low positive e.y_is f.y_is)

-- ---- places along a segment

coordinate_at : (x a b v : ℤ) (q i m : ℕ) → pos 0 ≤ℤ a → pos 0 ≤ℤ b → pos 0 ≤ℤ v → q ≡ m + i →
    x ≡ pos q *ℤ a +ℤ pos i *ℤ (b -ℤ a) → x ≡ pos q *ℤ v → m * nat_abs a + i * nat_abs b ≡ q * nat_abs v
coordinate_at x a b v q i m ha hb hv e f g =
    ap nat_abs (
    sym (mean_is a b (nat_abs a) (nat_abs b) q i m (coordinate_is a ha) (coordinate_is b hb) e)
    ∙ sym f ∙ g ∙ ap (λ z. pos q *ℤ z) (coordinate_is v hv))

mean_place : (m i q xa ya xb yb xv yv : ℕ) → m * xa + i * xb ≡ q * xv → m * ya + i * yb ≡ q * yv →
    m * (50000001 * ya + xa) + i * (50000001 * yb + xb) ≡ q * (50000001 * yv + xv)
mean_place m i q xa ya xb yb xv yv e f = omega (arith, e, ap (λ t. 50000001 * t) f)

-- the place of a grid point on a segment is a mean of the places of its ends
at_mean : (s : Segment) (p : Ratio) (v : Point) → IsOnGrid s.a → IsOnGrid s.b → IsOnGrid v → (on : LiesOn s p) → IsAt p v →
    (p.q - on.i) * place s.a + on.i * place s.b ≡ p.q * place v
at_mean s p v ga gb gv on at =
    let m = p.q - on.i in
    let e : p.q ≡ m + on.i = omega (arith, on.within) in
    mean_place m on.i p.q (nat_abs s.a.x) (nat_abs s.a.y) (nat_abs s.b.x) (nat_abs s.b.y) (nat_abs v.x) (nat_abs v.y)
    (coordinate_at p.x s.a.x s.b.x v.x p.q on.i m ga.x_low gb.x_low gv.x_low e on.x_is at.x_is)
    (coordinate_at p.y s.a.y s.b.y v.y p.q on.i m ga.y_low gb.y_low gv.y_low e on.y_is at.y_is)

mean_above : (q m i a b v : ℕ) → q ≡ m + i → 1 ≤ q → v < a → v < b → m * a + i * b ≡ q * v → ⊥
mean_above q m i a b v e positive h k f = omega (arith, mul-le-mul_left m h, mul-le-mul_left i k, ap (λ t. t * v) e, f)

mean_below : (q m i a b v : ℕ) → q ≡ m + i → 1 ≤ q → a < v → b < v → m * a + i * b ≡ q * v → ⊥
mean_below q m i a b v e positive h k f = omega (arith, mul-le-mul_left m h, mul-le-mul_left i k, ap (λ t. t * v) e, f)

mean_first : (q m i a b : ℕ) → q ≡ m + i → 1 ≤ i → a < b → m * a + i * b ≡ q * a → ⊥
mean_first q m i a b e positive h f = omega (arith, mul-le-mul_left i h, ap (λ t. t * a) e, f)

mean_second : (q m i a b : ℕ) → q ≡ m + i → 1 ≤ m → a < b → m * a + i * b ≡ q * b → ⊥
mean_second q m i a b e positive h f = omega (arith, mul-le-mul_left m h, ap (λ t. t * b) e, f)

module _ (s : Segment) (p : Ratio) (v : Point) (ga : IsOnGrid s.a) (gb : IsOnGrid s.b) (gv : IsOnGrid v) (divides : 1 ≤ p.q) (on : LiesOn s p) where
  not_before : place v < place s.a → place v < place s.b → ¬ IsAt p v
  not_before h k at =
      mean_above p.q (p.q - on.i) on.i (place s.a) (place s.b) (place v) (omega (arith, on.within)) divides h k (at_mean s p v ga gb gv on at)

  not_after : place s.a < place v → place s.b < place v → ¬ IsAt p v
  not_after h k at =
      mean_below p.q (p.q - on.i) on.i (place s.a) (place s.b) (place v) (omega (arith, on.within)) divides h k (at_mean s p v ga gb gv on at)

-- a point between the ends is none of them
pub inner_not_a : (s : Segment) (p : Ratio) → AreOnGrid s → Climbs s → (on : LiesOn s p) → 1 ≤ on.i → ¬ IsAt p s.a
inner_not_a s p g c on positive at =
    mean_first p.q (p.q - on.i) on.i (place s.a) (place s.b) (omega (arith, on.within)) positive c.later (at_mean s p s.a g.a g.b g.a on at)

pub inner_not_b : (s : Segment) (p : Ratio) → AreOnGrid s → Climbs s → (on : LiesOn s p) → on.i < p.q → ¬ IsAt p s.b
inner_not_b s p g c on earlier at =
    mean_second p.q (p.q - on.i) on.i (place s.a) (place s.b) (omega (arith, on.within)) (omega (arith, earlier)) c.later (at_mean s p s.b g.a g.b g.b on at)

-- ---- lines

pub same_point : (v w : Point) → Some v ≡ Some w → v ≡ w
same_point v w e = cc

pub on_grid_at : (points : List Point) → All (λ p. IsOnGrid p) points → (i : ℕ) (v : Point) → slice_get points i ≡ Some v → IsOnGrid v
on_grid_at points all i v e =
    subst (λ (p : Point). IsOnGrid p) (get_or_from_slice_get points i v v e)
    (All-get_or (λ p. IsOnGrid p) points i v (slice_get_within points i v e) all)

module _ (points : List Point) (line : IsClimbingLine points) where
  -- a later point of a line has a later place
  later : (i j : ℕ) (v w : Point) → i < j → slice_get points i ≡ Some v → slice_get points j ≡ Some w → place v < place w
  later i zero v w h e f = absurd (omega arith)
  later i (suc j) v w h e f =
      let u = get_or points j w in
      let inside : j < length points = let z = slice_get_within points (suc j) w f in omega arith in
      let at_u = slice_get-get_or points j w inside in
      let s : Segment = record { a = u; b = w } in
      let step : place u < place w = (line.climbs s (record { k = j; a_is = at_u; b_is = rw add-one f })).later in
      elim (cases_lt i j) [
        | inl less ↦ let z = later i j v u less e at_u in trans_lt (place v) (place u) (place w) z step
        | inr more ↦
            let same : i ≡ j = omega arith in
            let eq = same_point v u (sym e ∙ ap (slice_get points) same ∙ at_u) in
            subst (λ (p : Point). place p < place w) (sym eq) step
      ]
    where
      trans_lt : (a b c : ℕ) → a < b → b < c → a < c
      trans_lt a b c h k = omega arith

  pub segment_on_grid : (s : Segment) → IsSegmentOf points s → AreOnGrid s
  segment_on_grid s h = record { a = on_grid_at points line.grid h.k s.a h.a_is; b = on_grid_at points line.grid (h.k + 1) s.b h.b_is }

  module _ (s : Segment) (h : IsSegmentOf points s) (p : Ratio) (divides : 1 ≤ p.q) (on : LiesOn s p) (v : Point) (at : IsAt p v) where
    -- where the line passes its first point, it begins
    pub at_first : slice_get points 0 ≡ Some v → (h.k ≡ 0) × (s.a ≡ v)
    at_first e =
        let g = segment_on_grid s h in
        elim (cases_lt 0 h.k) [
          | inl after ↦
              absurd (not_before s p v g.a g.b (on_grid_at points line.grid 0 v e) divides on
              (later 0 h.k v s.a after e h.a_is) (later 0 (h.k + 1) v s.b (omega arith) e h.b_is) at)
          | inr here ↦
              let z : h.k ≡ 0 = omega arith in
              (z, same_point s.a v (sym h.a_is ∙ ap (slice_get points) z ∙ e))
        ]

    -- where it passes its last point, it ends
    pub at_last : slice_get points (length points - 1) ≡ Some v → (h.k + 1 ≡ length points - 1) × (s.b ≡ v)
    at_last e =
        let g = segment_on_grid s h in
        let last = length points - 1 in
        elim (cases_lt (h.k + 1) last) [
          | inl before ↦
              absurd (not_after s p v g.a g.b (on_grid_at points line.grid last v e) divides on
              (later h.k last s.a v (omega arith) h.a_is e) (later (h.k + 1) last s.b v before h.b_is e) at)
          | inr here ↦
              let w = slice_get_within points (h.k + 1) s.b h.b_is in
              let z : h.k + 1 ≡ length points - 1 = omega arith in
              (z, same_point s.b v (sym h.b_is ∙ ap (slice_get points) z ∙ e))
        ]

abbrev pub segment_at : (points : List Point) (k : ℕ) (d e : Point) → k + 1 < length points →
    IsSegmentOf points (record { a = get_or points k d; b = get_or points (k + 1) e })
segment_at points k d e h =
    record { k = k; a_is = slice_get-get_or points k d (omega arith); b_is = slice_get-get_or points (k + 1) e h }

-- a segment of the line is what the code reads at its place
pub segment_read : (points : List Point) (s : Segment) (h : IsSegmentOf points s) (k : ℕ) (d e : Point) → h.k ≡ k →
    s ≡ record { a = get_or points k d; b = get_or points (k + 1) e }
segment_read points s h k d e same =
    ap₂ (λ a b. let u : Segment = record { a = a; b = b } in u)
    (sym (get_or_from_slice_get points k s.a d (ap (slice_get points) (sym same) ∙ h.a_is)))
    (sym (get_or_from_slice_get points (k + 1) s.b e (ap (λ n. slice_get points (n + 1)) (sym same) ∙ h.b_is)))

pub segment_within : (points : List Point) (s : Segment) (h : IsSegmentOf points s) → h.k < length points - 1
segment_within points s h = let w = slice_get_within points (h.k + 1) s.b h.b_is in omega arith
