-- What the tests of boxes say.
use Rattle.std.proofs.Common.{◌≡◌, ℕ, ◌≤◌, ◌↔◌, List, get_or, slice_get, Some, All, ℤ, pos, ◌-ℤ◌, ◌<ℤ◌, ◌≤ℤ◌, nat_abs, ap, sym, subst, ◌∙◌, refl, arith, ap₂, true, false, IsTrue, to_z, of_z, w64}
use lib.Signed.{le_z, lt_z}
use Rattle.std.specs.Int.{int_min, int_max}
use Rattle.std.specs.List.{AllByRecursion}
use Rattle.std.proofs.lemmas.Int.{ints, clamps, to_z-of_z}
use Rattle.std.proofs.lemmas.Option.{get_or_from_slice_get, slice_get-get_or}
use Rattle.st_shape.specs.declared.point.Point.{Point}
use Rattle.st_shape.specs.declared.item.Item.{Item}
use Rattle.st_shape.specs.declared.item.Item.TheVariants.{Dot, Bar, Line, Rect, Face, Label}
use Rattle.st_shape.specs.Boxes.{HasCell, IsCellOf, ShareCell, ShareCellAt}
use Rattle.st_shape.specs.Meeting.{IsOnGrid}
use Rattle.st_shape.specs.Rules.{FitsFrame, IsFrame}
use Rattle.st_shape.specs.Inside.{IsInside}
use Rattle.st_shape.proofs.Fitting.{coordinate_fits}
use Rattle.st_shape.proofs.Tiling.{fits_at}
use Rattle.st_shape.specs.Steps.{IsBox, IsBoxOnGrid, ShareCells}

-- ---- the test of two boxes

least_cell : (a b c d : ℤ) → pos 0 ≤ℤ a → pos 0 ≤ℤ c → int_max a c <ℤ int_min b d → (i : ℕ) → i ≡ nat_abs (int_max a c) →
    (a ≤ℤ pos i) × (pos i <ℤ b) × (c ≤ℤ pos i) × (pos i <ℤ d)
least_cell a b c d ha hc h i e =
    (omega (arith, ints, clamps), omega (arith, ints, clamps), omega (arith, ints, clamps), omega (arith, ints, clamps))

some_cell : (a b c d : ℤ) (i : ℕ) → a ≤ℤ pos i → pos i <ℤ b → c ≤ℤ pos i → pos i <ℤ d → int_max a c <ℤ int_min b d
some_cell a b c d i h k l m = omega (arith, ints, clamps)

module _ (low high low' high' : Point) (g : IsOnGrid low) (g' : IsOnGrid low') where
  pub ShareCells-from : int_max low.x low'.x <ℤ int_min high.x high'.x → int_max low.y low'.y <ℤ int_min high.y high'.y → ShareCells low high low' high'
  ShareCells-from h k =
      let x = least_cell low.x high.x low'.x high'.x g.x_low g'.x_low h (nat_abs (int_max low.x low'.x)) refl in
      let y = least_cell low.y high.y low'.y high'.y g.y_low g'.y_low k (nat_abs (int_max low.y low'.y)) refl in
      record {
        i = nat_abs (int_max low.x low'.x);
        j = nat_abs (int_max low.y low'.y);
        first = record { left = x.0; right = x.1; below = y.0; above = y.1 };
        second = record { left = x.2; right = x.3; below = y.2; above = y.3 };
      }

  pub ShareCells-x : ShareCells low high low' high' → int_max low.x low'.x <ℤ int_min high.x high'.x
  ShareCells-x s = some_cell low.x high.x low'.x high'.x s.i s.first.left s.first.right s.second.left s.second.right

  pub ShareCells-y : ShareCells low high low' high' → int_max low.y low'.y <ℤ int_min high.y high'.y
  ShareCells-y s = some_cell low.y high.y low'.y high'.y s.j s.first.below s.first.above s.second.below s.second.above

-- ---- what the code computes of two boxes

greatest_is : (a c m : ℤ) → pos 0 ≤ℤ a → a ≤ℤ pos 50000000 → pos 0 ≤ℤ c → c ≤ℤ pos 50000000 →
    m ≡ int_max (to_z w64 (of_z w64 a)) (to_z w64 (of_z w64 c)) → to_z w64 (of_z w64 m) ≡ int_max a c
greatest_is a c m al ah cl ch e =
    let f = e ∙ ap₂ int_max (to_z-of_z w64 a (coordinate_fits a al ah)) (to_z-of_z w64 c (coordinate_fits c cl ch)) in
    let low : pos 0 ≤ℤ m = omega (arith, ints, clamps, f) in
    let high : m ≤ℤ pos 50000000 = omega (arith, ints, clamps, f) in
    to_z-of_z w64 m (coordinate_fits m low high) ∙ f

least_is : (b d n : ℤ) → pos 0 ≤ℤ b → b ≤ℤ pos 50000000 → pos 0 ≤ℤ d → d ≤ℤ pos 50000000 →
    n ≡ int_min (to_z w64 (of_z w64 b)) (to_z w64 (of_z w64 d)) → to_z w64 (of_z w64 n) ≡ int_min b d
least_is b d n bl bh dl dh e =
    let f = e ∙ ap₂ int_min (to_z-of_z w64 b (coordinate_fits b bl bh)) (to_z-of_z w64 d (coordinate_fits d dl dh)) in
    let low : pos 0 ≤ℤ n = omega (arith, ints, clamps, f) in
    let high : n ≤ℤ pos 50000000 = omega (arith, ints, clamps, f) in
    to_z-of_z w64 n (coordinate_fits n low high) ∙ f

not_past : (k l z w : ℤ) → k ≡ z → l ≡ w → le_z l k ≡ true → z <ℤ w → ⊥
not_past k l z w e f h m = omega (arith, ints)

past : (k l z w : ℤ) → k ≡ z → l ≡ w → le_z l k ≡ false → z <ℤ w
past k l z w e f h = omega (arith, ints)

less_read : (k l z w : ℤ) → k ≡ z → l ≡ w → IsTrue (lt_z k l) → z <ℤ w
less_read k l z w e f h = omega (arith, ints)

less_write : (k l z w : ℤ) → k ≡ z → l ≡ w → z <ℤ w → IsTrue (lt_z k l)
less_write k l z w e f h = sym (omega (arith, ints, e, f, h))

module _ (a b a' b' m n : ℤ) (al : pos 0 ≤ℤ a) (ah : a ≤ℤ pos 50000000) (bl : pos 0 ≤ℤ b) (bh : b ≤ℤ pos 50000000)
    (al' : pos 0 ≤ℤ a') (ah' : a' ≤ℤ pos 50000000) (bl' : pos 0 ≤ℤ b') (bh' : b' ≤ℤ pos 50000000)
    (em : m ≡ int_max (to_z w64 (of_z w64 a)) (to_z w64 (of_z w64 a'))) (en : n ≡ int_min (to_z w64 (of_z w64 b)) (to_z w64 (of_z w64 b'))) where
  pub test_fails : le_z (to_z w64 (of_z w64 n)) (to_z w64 (of_z w64 m)) ≡ true → int_max a a' <ℤ int_min b b' → ⊥
  test_fails h k = not_past _ _ _ _ (greatest_is a a' m al ah al' ah' em) (least_is b b' n bl bh bl' bh' en) h k

  pub test_passes : le_z (to_z w64 (of_z w64 n)) (to_z w64 (of_z w64 m)) ≡ false → int_max a a' <ℤ int_min b b'
  test_passes h = past _ _ _ _ (greatest_is a a' m al ah al' ah' em) (least_is b b' n bl bh bl' bh' en) h

  pub less_passes : IsTrue (lt_z (to_z w64 (of_z w64 m)) (to_z w64 (of_z w64 n))) → int_max a a' <ℤ int_min b b'
  less_passes h = less_read _ _ _ _ (greatest_is a a' m al ah al' ah' em) (least_is b b' n bl bh bl' bh' en) h

  pub less_holds : int_max a a' <ℤ int_min b b' → IsTrue (lt_z (to_z w64 (of_z w64 m)) (to_z w64 (of_z w64 n)))
  less_holds h = less_write _ _ _ _ (greatest_is a a' m al ah al' ah' em) (least_is b b' n bl bh bl' bh' en) h

-- ---- items

cell_from : (e : Item) (low high : Point) (i j : ℕ) → IsBox e low high → HasCell e i j → IsCellOf low high i j
cell_from (Dot name p) low high i j b h = absurd b
cell_from (Bar name y from to) low high i j b h = absurd b
cell_from (Line name tail head points) low high i j b h = absurd b
cell_from (Rect name tail head own own') low high i j b h = subst (λ p. IsCellOf p high i j) b.0 (subst (λ p. IsCellOf own p i j) b.1 h)
cell_from (Face number x from to) low high i j b h = absurd b
cell_from (Label name p text) low high i j b h = absurd b

cell_to : (e : Item) (low high : Point) (i j : ℕ) → IsBox e low high → IsCellOf low high i j → HasCell e i j
cell_to (Dot name p) low high i j b h = absurd b
cell_to (Bar name y from to) low high i j b h = absurd b
cell_to (Line name tail head points) low high i j b h = absurd b
cell_to (Rect name tail head own own') low high i j b h = subst (λ p. IsCellOf p own' i j) (sym b.0) (subst (λ p. IsCellOf low p i j) (sym b.1) h)
cell_to (Face number x from to) low high i j b h = absurd b
cell_to (Label name p text) low high i j b h = absurd b

pub ShareCell-box : (e f : Item) (low high low' high' : Point) → IsBox e low high → IsBox f low' high' →
    ShareCells low high low' high' ↔ ShareCell e f
ShareCell-box e f low high low' high' b b' = (
  λ s. record { i = s.i; j = s.j; first = cell_to e low high s.i s.j b s.first; second = cell_to f low' high' s.i s.j b' s.second },
  λ s. record { i = s.i; j = s.j; first = cell_from e low high s.i s.j b s.first; second = cell_from f low' high' s.i s.j b' s.second },
)

-- ---- reads

read_same : (items : List Item) (i k : ℕ) (e x : Item) → x ≡ get_or items i x → k ≡ i → slice_get items k ≡ Some e → e ≡ x
read_same items i k e x r z h = sym (get_or_from_slice_get items i e x (ap (slice_get items) (sym z) ∙ h)) ∙ sym r

pub ShareCell-read : (items : List Item) (i j k m : ℕ) (x y : Item) → x ≡ get_or items i x → y ≡ get_or items j y → k ≡ i → m ≡ j →
    ShareCellAt items k m → ShareCell x y
ShareCell-read items i j k m x y r q z w h =
    subst (λ e. ShareCell e y) (read_same items i k h.e x r z h.e_is)
    (subst (λ f. ShareCell h.e f) (read_same items j m h.f y q w h.f_is) h.share)

-- ---- areas

pub side_most : (a b : ℤ) (n : ℕ) → pos 0 ≤ℤ a → a ≤ℤ pos 50000000 → pos 0 ≤ℤ b → b ≤ℤ pos 50000000 →
    n ≡ nat_abs (to_z w64 (of_z w64 b) -ℤ to_z w64 (of_z w64 a)) → n ≤ 50000000
side_most a b n h k l m e = rw e (omega (arith, ints))

-- ---- what fits a frame lies on the grid

le_trans : (a b c : ℤ) → a ≤ℤ b → b ≤ℤ c → a ≤ℤ c
le_trans a b c h k = omega (arith, ints)

pub grid_from : (frame p : Point) → IsFrame frame → IsInside frame p → IsOnGrid p
grid_from frame p f h =
    record {
      x_low = h.left;
      x_high = le_trans p.x frame.x (pos 50000000) h.right f.right;
      y_low = h.low;
      y_high = le_trans p.y frame.y (pos 50000000) h.high f.high;
    }

box_on_grid : (frame : Point) (e : Item) → IsFrame frame → FitsFrame frame e → IsBoxOnGrid e
box_on_grid frame (Dot name p) f g = tt
box_on_grid frame (Bar name y from to) f g = tt
box_on_grid frame (Line name tail head points) f g = tt
box_on_grid frame (Rect name tail head low high) f g = (grid_from frame low f g.0, grid_from frame high f g.1)
box_on_grid frame (Face number x from to) f g = tt
box_on_grid frame (Label name p text) f g = tt

pub All-boxes : (frame : Point) (items : List Item) → IsFrame frame → AllByRecursion (FitsFrame frame) items → All (λ e. IsBoxOnGrid e) items
All-boxes frame items f g = λ k d h.
    box_on_grid frame (get_or items k d) f (fits_at frame items g k (get_or items k d) (slice_get-get_or items k d h))
