-- Boxes tile a frame exactly where no two have a cell in common and their areas sum to the frame's.
use Rattle.std.proofs.Common.{◌≡◌, ℕ, zero, suc, ◌+◌, ◌-◌, ◌*◌, ◌<◌, ◌≤◌, ◌⊎◌, inl, inr, List, [], ◌∷◌, length, slice_get, Some, ℤ, pos, ◌-ℤ◌, ◌<ℤ◌, ◌≤ℤ◌, nat_abs, ap, ap₂, sym, subst, ◌∙◌, refl, arith, sum_by}
use Rattle.std.specs.List.{AllByRecursion}
use Rattle.std.proofs.lemmas.Bool.{cases_lt}
use Rattle.std.proofs.lemmas.Int.{ints}
use Rattle.std.proofs.lemmas.List.Sums.{sum_by-cons}
use Rattle.std.proofs.lemmas.Option.{slice_get_within}
use Rattle.st_shape.specs.declared.point.Point.{Point}
use Rattle.st_shape.specs.declared.item.Item.{Item}
use Rattle.st_shape.specs.declared.item.Item.TheVariants.{Dot, Bar, Line, Rect, Face, Label}
use Rattle.st_shape.specs.Boxes.{area_of, frame_area, HasCell, HasCellAt, IsTiled, ShareCellAt}
use Rattle.st_shape.specs.Least.{NoPair}
use Rattle.st_shape.specs.Rules.{FitsFrame, IsFrame}
use Rattle.st_shape.proofs.Counting.{box, hit, hit-in, hit-out, total, total-ext, total2, total2-box, total2-full, total2-none, total2-ones, total2-plus}

-- ---- one box

abbrev cell : Item → ℕ → ℕ → ℕ
cell (Dot name p) i j = 0
cell (Bar name y from to) i j = 0
cell (Line name tail head points) i j = 0
cell (Rect name tail head low high) i j = box (nat_abs low.x) (nat_abs high.x) (nat_abs low.y) (nat_abs high.y) i j
cell (Face number x from to) i j = 0
cell (Label name p text) i j = 0

from_le : (z : ℤ) (i : ℕ) → pos 0 ≤ℤ z → z ≤ℤ pos i → nat_abs z ≤ i
from_le z i g h = omega (arith, ints)

to_le : (z : ℤ) (i : ℕ) → pos 0 ≤ℤ z → nat_abs z ≤ i → z ≤ℤ pos i
to_le z i g h = omega (arith, ints)

from_lt : (z : ℤ) (i : ℕ) → pos 0 ≤ℤ z → pos i <ℤ z → i < nat_abs z
from_lt z i g h = omega (arith, ints)

to_lt : (z : ℤ) (i : ℕ) → pos 0 ≤ℤ z → i < nat_abs z → pos i <ℤ z
to_lt z i g h = omega (arith, ints)

-- the box has the cell, and counts it once, or it has it not
cell-cases : (frame : Point) (e : Item) (i j : ℕ) → FitsFrame frame e → ((cell e i j ≡ 1) × HasCell e i j) ⊎ ((cell e i j ≡ 0) × (HasCell e i j → ⊥))
cell-cases frame (Dot name p) i j g = inr (refl, λ h. h)
cell-cases frame (Bar name y from to) i j g = inr (refl, λ h. h)
cell-cases frame (Line name tail head points) i j g = inr (refl, λ h. h)
cell-cases frame (Rect name tail head low high) i j g =
    let a = nat_abs low.x in
    let b = nat_abs high.x in
    let c = nat_abs low.y in
    let d = nat_abs high.y in
    elim (decide a b i) [
      | inl u ↦ elim (decide c d j) [
        | inl w ↦ inl (
          ap₂ (λ s t. s * t) (hit-in a b i u.0 u.1) (hit-in c d j w.0 w.1),
          record {
            left = to_le low.x i g.0.left u.0;
            right = to_lt high.x i g.1.left u.1;
            below = to_le low.y j g.0.low w.0;
            above = to_lt high.y j g.1.low w.1;
          },
        )
        | inr w ↦ inr (
          ap₂ (λ s t. s * t) (refl {a = hit a b i}) (hit-out c d j w) ∙ times_none (hit a b i),
          λ h. w (from_le low.y j g.0.low h.below) (from_lt high.y j g.1.low h.above),
        )
      ]
      | inr u ↦ inr (
        ap (λ t. t * hit c d j) (hit-out a b i u) ∙ none_times (hit c d j),
        λ h. u (from_le low.x i g.0.left h.left) (from_lt high.x i g.1.left h.right),
      )
    ]
  where
    times_none : (n : ℕ) → n * 0 ≡ 0
    times_none n = omega arith

    none_times : (n : ℕ) → 0 * n ≡ 0
    none_times n = omega arith

    decide : (a b i : ℕ) → ((a ≤ i) × (i < b)) ⊎ (a ≤ i → i < b → ⊥)
    decide a b i =
        elim (cases_lt i b) [
          | inl less ↦ elim (cases_lt i a) [ inl before ↦ inr (λ h k. omega arith) | inr after ↦ inl (after, less) ]
          | inr more ↦ inr (λ h k. omega arith)
        ]
cell-cases frame (Face number x from to) i j g = inr (refl, λ h. h)
cell-cases frame (Label name p text) i j g = inr (refl, λ h. h)

width_is : (a b : ℤ) → pos 0 ≤ℤ a → a <ℤ b → nat_abs b - nat_abs a ≡ nat_abs (b -ℤ a)
width_is a b h k = omega (arith, ints)

nat_lt_from : (a b : ℤ) → pos 0 ≤ℤ a → a <ℤ b → nat_abs a ≤ nat_abs b
nat_lt_from a b h k = omega (arith, ints)

nat_le_from : (a b : ℤ) → pos 0 ≤ℤ a → a ≤ℤ b → nat_abs a ≤ nat_abs b
nat_le_from a b h k = omega (arith, ints)

total2-cell : (frame : Point) (e : Item) → FitsFrame frame e → total2 (cell e) (nat_abs frame.x) (nat_abs frame.y) ≡ area_of e
total2-cell frame (Dot name p) g = total2-none (nat_abs frame.x) (nat_abs frame.y)
total2-cell frame (Bar name y from to) g = total2-none (nat_abs frame.x) (nat_abs frame.y)
total2-cell frame (Line name tail head points) g = total2-none (nat_abs frame.x) (nat_abs frame.y)
total2-cell frame (Rect name tail head low high) g =
    total2-box (nat_abs low.x) (nat_abs high.x) (nat_abs low.y) (nat_abs high.y) (nat_abs frame.x) (nat_abs frame.y)
    (nat_lt_from low.x high.x g.0.left g.2) (nat_le_from high.x frame.x g.1.left g.1.right)
    (nat_lt_from low.y high.y g.0.low g.3) (nat_le_from high.y frame.y g.1.low g.1.high)
    ∙ ap₂ (λ s t. s * t) (width_is low.x high.x g.0.left g.2) (width_is low.y high.y g.0.low g.3)
total2-cell frame (Face number x from to) g = total2-none (nat_abs frame.x) (nat_abs frame.y)
total2-cell frame (Label name p text) g = total2-none (nat_abs frame.x) (nat_abs frame.y)

-- ---- all boxes

-- how many boxes have the cell
abbrev cover : List Item → ℕ → ℕ → ℕ
cover [] i j = 0
cover (e ∷ items) i j = cell e i j + cover items i j

total2-cover : (frame : Point) (items : List Item) → AllByRecursion (FitsFrame frame) items →
    total2 (cover items) (nat_abs frame.x) (nat_abs frame.y) ≡ sum_by area_of items
total2-cover frame [] g = total2-none (nat_abs frame.x) (nat_abs frame.y)
total2-cover frame (e ∷ items) g =
    total-ext (λ i. total (cover (e ∷ items) i) (nat_abs frame.y)) (λ i. total (λ j. cell e i j + cover items i j) (nat_abs frame.y)) (nat_abs frame.x)
    (λ i l. total-ext (cover (e ∷ items) i) (λ j. cell e i j + cover items i j) (nat_abs frame.y) (λ j m. refl))
    ∙ total2-plus (cell e) (cover items) (nat_abs frame.x) (nat_abs frame.y)
    ∙ ap₂ (λ s t. s + t) (total2-cell frame e g.0) (total2-cover frame items g.1)
    ∙ sym (sum_by-cons area_of e items)

next : (e : Item) (items : List Item) (i j k : ℕ) → HasCellAt items i j k → HasCellAt (e ∷ items) i j (suc k)
next e items i j k h = record { e = h.e; e_is = h.e_is; cell = h.cell }

back : (e : Item) (items : List Item) (i j k : ℕ) → HasCellAt (e ∷ items) i j (suc k) → HasCellAt items i j k
back e items i j k h = record { e = h.e; e_is = h.e_is; cell = h.cell }

first_is : (e f : Item) → Some e ≡ Some f → e ≡ f
first_is e f h = cc

cover-some : (frame : Point) (items : List Item) → AllByRecursion (FitsFrame frame) items → (i j k : ℕ) → HasCellAt items i j k → 1 ≤ cover items i j
cover-some frame [] g i j k h = let e = h.e_is in cc
cover-some frame (e ∷ items) g i j zero h =
    elim (cell-cases frame e i j g.0) [
      | inl u ↦ let one = u.0 in omega (arith, one)
      | inr u ↦ absurd (u.1 (subst (λ f. HasCell f i j) (sym (first_is e h.e h.e_is)) h.cell))
    ]
cover-some frame (e ∷ items) g i j (suc k) h = more (cell e i j) (cover items i j) (cover-some frame items g.1 i j k (back e items i j k h))
  where
    more : (a b : ℕ) → 1 ≤ b → 1 ≤ a + b
    more a b h = omega arith

cover-found : (frame : Point) (items : List Item) → AllByRecursion (FitsFrame frame) items → (i j : ℕ) → 1 ≤ cover items i j → (k : ℕ) × HasCellAt items i j k
cover-found frame [] g i j h = absurd (omega arith)
cover-found frame (e ∷ items) g i j h =
    elim (cell-cases frame e i j g.0) [
      | inl u ↦ (0, record { e = e; e_is = refl; cell = u.1 })
      | inr u ↦
          let found = cover-found frame items g.1 i j (rest (cell e i j) (cover items i j) u.0 h) in
          (suc found.0, next e items i j found.0 found.1)
    ]
  where
    rest : (a b : ℕ) → a ≡ 0 → 1 ≤ a + b → 1 ≤ b
    rest a b e h = omega arith

cover-none : (frame : Point) (items : List Item) → AllByRecursion (FitsFrame frame) items → (i j : ℕ) →
    ((k : ℕ) → HasCellAt items i j k → ⊥) → cover items i j ≡ 0
cover-none frame items g i j n =
    elim (cases_lt 0 (cover items i j)) [
      | inl some ↦ let found = cover-found frame items g i j some in absurd (n found.0 found.1)
      | inr none ↦ zero_is (cover items i j) none
    ]
  where
    zero_is : (a : ℕ) → a ≤ 0 → a ≡ 0
    zero_is a h = omega arith

cover-most : (frame : Point) (items : List Item) → AllByRecursion (FitsFrame frame) items → (i j : ℕ) →
    ((k m : ℕ) → k < m → HasCellAt items i j k → HasCellAt items i j m → ⊥) → cover items i j ≤ 1
cover-most frame [] g i j n = omega arith
cover-most frame (e ∷ items) g i j n =
    elim (cell-cases frame e i j g.0) [
      | inl u ↦
          let none = cover-none frame items g.1 i j (λ k h. n 0 (suc k) (omega arith) (record { e = e; e_is = refl; cell = u.1 }) (next e items i j k h)) in
          alone (cell e i j) (cover items i j) u.0 none
      | inr u ↦
          let most = cover-most frame items g.1 i j (λ k m less h h'. n (suc k) (suc m) (omega arith) (next e items i j k h) (next e items i j m h')) in
          rest (cell e i j) (cover items i j) u.0 most
    ]
  where
    alone : (a b : ℕ) → a ≡ 1 → b ≡ 0 → a + b ≤ 1
    alone a b h k = omega arith

    rest : (a b : ℕ) → a ≡ 0 → b ≤ 1 → a + b ≤ 1
    rest a b h k = omega arith

-- ---- the two directions

module _ (frame : Point) (items : List Item) (ff : IsFrame frame) (g : AllByRecursion (FitsFrame frame) items) where
  apart : NoPair (length items) (ShareCellAt items) → (i j k m : ℕ) → k < m → HasCellAt items i j k → HasCellAt items i j m → ⊥
  apart n i j k m less h h' =
      n k m less (slice_get_within items m h'.e h'.e_is)
      (record { e = h.e; f = h'.e; e_is = h.e_is; f_is = h'.e_is; share = record { i = i; j = j; first = h.cell; second = h'.cell } })

  pub Tiled-from : NoPair (length items) (ShareCellAt items) → sum_by area_of items ≡ frame_area frame → IsTiled frame items
  Tiled-from n sum =
      record {
        each = λ i j l m.
            let one =
            total2-full (cover items) (nat_abs frame.x) (nat_abs frame.y) (λ i j l m. cover-most frame items g i j (apart n i j))
            (total2-cover frame items g ∙ sum) i j (from_lt frame.x i ff.left l) (from_lt frame.y j ff.low m) in
            let found = cover-found frame items g i j (at_least (cover items i j) one) in
            record {
              k = found.0;
              box = found.1;
              only = λ m h.
                  elim (cases_lt m found.0) [
                    | inl before ↦ absurd (apart n i j m found.0 before h found.1)
                    | inr after ↦ elim (cases_lt found.0 m) [
                      | inl behind ↦ absurd (apart n i j found.0 m behind found.1 h)
                      | inr here ↦ same m found.0 after here
                    ]
                  ];
            };
      }
    where
      at_least : (a : ℕ) → a ≡ 1 → 1 ≤ a
      at_least a e = omega arith

      same : (a b : ℕ) → b ≤ a → a ≤ b → a ≡ b
      same a b h k = omega arith

  pub Sum-tiled : IsTiled frame items → sum_by area_of items ≡ frame_area frame
  Sum-tiled t =
      sym (total2-cover frame items g)
      ∙ total2-ones (cover items) (nat_abs frame.x) (nat_abs frame.y) (λ i j l m.
      let one = t.each i j (to_lt frame.x i ff.left l) (to_lt frame.y j ff.low m) in
      exact (cover items i j) (cover-some frame items g i j one.k one.box)
      (cover-most frame items g i j (λ k m less h h'. differ k m one.k less (one.only k h) (one.only m h'))))
    where
      exact : (a : ℕ) → 1 ≤ a → a ≤ 1 → a ≡ 1
      exact a h k = omega arith

      differ : (k m n : ℕ) → k < m → k ≡ n → m ≡ n → ⊥
      differ k m n less e f = omega arith

pub fits_at : (frame : Point) (items : List Item) → AllByRecursion (FitsFrame frame) items → (k : ℕ) (e : Item) → slice_get items k ≡ Some e → FitsFrame frame e
fits_at frame [] g k e h = cc
fits_at frame (f ∷ items) g zero e h = subst (FitsFrame frame) (first_is f e h) g.0
fits_at frame (f ∷ items) g (suc k) e h = fits_at frame items g.1 k e h

lt_frame : (a b c : ℤ) → a <ℤ b → b ≤ℤ c → a <ℤ c
lt_frame a b c h k = omega (arith, ints)

-- a cell of a box is one of the frame
cell_within : (frame : Point) (e : Item) (i j : ℕ) → FitsFrame frame e → HasCell e i j → (pos i <ℤ frame.x) × (pos j <ℤ frame.y)
cell_within frame (Dot name p) i j g h = absurd h
cell_within frame (Bar name y from to) i j g h = absurd h
cell_within frame (Line name tail head points) i j g h = absurd h
cell_within frame (Rect name tail head low high) i j g h =
    (lt_frame (pos i) high.x frame.x h.right g.1.right, lt_frame (pos j) high.y frame.y h.above g.1.high)
cell_within frame (Face number x from to) i j g h = absurd h
cell_within frame (Label name p text) i j g h = absurd h

pub NoPair-tiled : (frame : Point) (items : List Item) → AllByRecursion (FitsFrame frame) items → IsTiled frame items →
    NoPair (length items) (ShareCellAt items)
NoPair-tiled frame items g t k m less within h =
    let w = cell_within frame h.e h.share.i h.share.j (fits_at frame items g k h.e h.e_is) h.share.first in
    let one = t.each h.share.i h.share.j w.0 w.1 in
    let a = one.only k (record { e = h.e; e_is = h.e_is; cell = h.share.first }) in
    let b = one.only m (record { e = h.f; e_is = h.f_is; cell = h.share.second }) in
    omega (arith, less, a, b)
