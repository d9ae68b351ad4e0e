-- The items that a search reads, and what is known where no item is faulty by itself.
use Rattle.std.proofs.Common.{◌≡◌, ℕ, zero, suc, [], ◌∷◌, ◌+◌, ◌*◌, ◌<◌, ◌≤◌, List, length, get_or, slice_get, Some, All, ℤ, pos, ◌+ℤ◌, ◌≤ℤ◌, ◌<ℤ◌, nat_abs, inl, inr, ap, sym, subst, ◌∙◌, arith}
use Rattle.std.specs.List.{AllByRecursion}
use Rattle.std.proofs.lemmas.Bool.{cases_lt}
use Rattle.std.proofs.lemmas.Int.{ints}
use Rattle.std.proofs.lemmas.Option.{get_or_from_slice_get, slice_get-get_or}
use Rattle.st_shape.specs.declared.point.Point.{Point}
use Rattle.st_shape.specs.declared.point.Segment.{Segment}
use Rattle.st_shape.specs.declared.item.Item.{Item}
use Rattle.st_shape.specs.declared.item.Item.TheVariants.{Dot, Bar, Line, Rect, Face, Label}
use Rattle.st_shape.specs.declared.picture.Form.{Form}
use Rattle.st_shape.specs.declared.picture.Form.TheVariants.{Visibility, Tessellation, Constrained, Polyline, Dominance}
use Rattle.st_shape.specs.Clean.{FaultyAlone, FaultyAloneAt, FaultyPair, FaultyShapes, RisesIn, shape_of}
use Rattle.st_shape.specs.Meeting.{IsOnGrid}
use Rattle.st_shape.specs.Least.{NoItem}
use Rattle.st_shape.specs.Rules.{Drawing, FitsFrame, IsFrame, IsItem, IsPicture}
use Rattle.st_shape.specs.Inside.{IsInside, point}
use Rattle.st_shape.proofs.BoxLemmas.{grid_from}
use Rattle.st_shape.proofs.Tiling.{fits_at}
use Rattle.st_shape.proofs.Climbing.{on_grid_at}
use Rattle.st_shape.specs.Steps.{AreOnGrid, IsItemOnGrid, IsOrdinary, place}

-- ---- reads

read_same : (items : List Item) (i k : ℕ) (e x : Item) → x ≡ get_or items i x → k ≡ i → slice_get items k ≡ Some e → e ≡ x
read_same items i k e x r z h = sym (get_or_from_slice_get items i e x (ap (slice_get items) (sym z) ∙ h)) ∙ sym r

pub FaultyAlone-read : (form : Form) (items : List Item) (i k : ℕ) (x : Item) → x ≡ get_or items i x → k ≡ i →
    FaultyAloneAt form items k → FaultyAlone form items x
FaultyAlone-read form items i k x r z h = subst (FaultyAlone form items) (read_same items i k h.e x r z h.e_is) h.faulty

pub FaultyPair-read : (items : List Item) (i j k m : ℕ) (x y : Item) → x ≡ get_or items i x → y ≡ get_or items j y → k ≡ i → m ≡ j →
    FaultyPair items k m → FaultyShapes (shape_of x) (shape_of y)
FaultyPair-read items i j k m x y r q z w h =
    subst (λ e. FaultyShapes (shape_of e) (shape_of y)) (read_same items i k h.e x r z h.e_is)
    (subst (λ f. FaultyShapes (shape_of h.e) (shape_of f)) (read_same items j m h.f y q w h.f_is) h.faulty)

-- ---- lines that rise

climbs_up : (ax ay bx bk : ℤ) → pos 0 ≤ℤ ax → ax ≤ℤ pos 50000000 → pos 0 ≤ℤ ay → pos 0 ≤ℤ bx → bx ≤ℤ pos 50000000 → pos 0 ≤ℤ bk →
    ay <ℤ bk → 50000001 * nat_abs ay + nat_abs ax < 50000001 * nat_abs bk + nat_abs bx
climbs_up ax ay bx bk a b c d e f h = omega (arith, ints)

climbs_on : (ax ay bx bk : ℤ) → pos 0 ≤ℤ ax → pos 0 ≤ℤ ay → pos 0 ≤ℤ bx → pos 0 ≤ℤ bk →
    ax ≤ℤ bx → ay ≤ℤ bk → (ax +ℤ ay) <ℤ (bx +ℤ bk) → 50000001 * nat_abs ay + nat_abs ax < 50000001 * nat_abs bk + nat_abs bx
climbs_on ax ay bx bk a b c d h k l = omega (arith, ints)

up : (s : Segment) → AreOnGrid s → s.a.y <ℤ s.b.y → place s.a < place s.b
up s g h = climbs_up s.a.x s.a.y s.b.x s.b.y g.a.x_low g.a.x_high g.a.y_low g.b.x_low g.b.x_high g.b.y_low h

Climbs-rising : (form : Form) (s : Segment) → AreOnGrid s → RisesIn form s → place s.a < place s.b
Climbs-rising Visibility s g h = up s g h
Climbs-rising Tessellation s g h = up s g h
Climbs-rising Constrained s g h = up s g h
Climbs-rising Polyline s g h = up s g h
Climbs-rising Dominance s g h = climbs_on s.a.x s.a.y s.b.x s.b.y g.a.x_low g.a.y_low g.b.x_low g.b.y_low h.x h.y h.sum

-- an item that is not faulty by itself is ordinary
Ordinary-from : (form : Form) (items : List Item) (e : Item) → IsItemOnGrid e → ¬ FaultyAlone form items e → IsOrdinary e
Ordinary-from form items (Dot name p) g n = g
Ordinary-from form items (Bar name y from to) g n = g
Ordinary-from form items (Line name tail head points) g n =
    record {
      least = g.0;
      grid = g.1;
      climbs = λ s h.
          record {
            later = elim (cases_lt (place s.a) (place s.b)) [
              | inl less ↦ less
              | inr more ↦
                  absurd (n (inl (λ rising.
                  below (place s.a) (place s.b)
                  (Climbs-rising form s (record { a = on_grid_at points g.1 h.k s.a h.a_is; b = on_grid_at points g.1 (h.k + 1) s.b h.b_is }) (rising s h)) more)))
            ];
          };
    }
  where
    below : (a b : ℕ) → a < b → b ≤ a → ⊥
    below a b h k = omega arith
Ordinary-from form items (Rect name tail head low high) g n = tt
Ordinary-from form items (Face number x from to) g n = tt
Ordinary-from form items (Label name p text) g n = tt

pub All-ordinary : (form : Form) (items : List Item) → All (λ e. IsItemOnGrid e) items → NoItem (length items) (FaultyAloneAt form items) →
    All (λ e. IsOrdinary e) items
All-ordinary form items g n = λ k d h.
    Ordinary-from form items (get_or items k d) (g k d h) (λ f. n k h (record { e = get_or items k d; e_is = slice_get-get_or items k d h; faulty = f }))

-- ---- what fits a frame lies on the grid

All-on_grid : (frame : Point) (points : List Point) → IsFrame frame → AllByRecursion (IsInside frame) points → (k : ℕ) (d : Point) → k < length points → IsOnGrid (get_or points k d)
All-on_grid frame [] f g k d h = absurd (omega arith)
All-on_grid frame (p ∷ points) f g zero d h = grid_from frame p f g.0
All-on_grid frame (p ∷ points) f g (suc k) d h = All-on_grid frame points f g.1 k d (omega arith)

item_on_grid : (frame : Point) (e : Item) → IsFrame frame → FitsFrame frame e → IsItemOnGrid e
item_on_grid frame (Dot name p) f g = grid_from frame p f g
item_on_grid frame (Bar name y from to) f g = (grid_from frame (point from y) f g.0, grid_from frame (point to y) f g.1)
item_on_grid frame (Line name tail head points) f g = (g.0, λ k d h. All-on_grid frame points f g.2 k d h)
item_on_grid frame (Rect name tail head low high) f g = tt
item_on_grid frame (Face number x from to) f g = tt
item_on_grid frame (Label name p text) f g = tt

All-items : (frame : Point) (items : List Item) → IsFrame frame → AllByRecursion (FitsFrame frame) items → All (λ e. IsItemOnGrid e) items
All-items frame items f g = λ k d h.
    item_on_grid frame (get_or items k d) f (fits_at frame items g k (get_or items k d) (slice_get-get_or items k d h))

-- ---- pictures

all_fit : (frame : Point) (items : List Item) → AllByRecursion (IsItem frame) items → AllByRecursion (FitsFrame frame) items
all_fit frame [] g = tt
all_fit frame (e ∷ items) g = (g.0.1, all_fit frame items g.1)

pub picture_on_grid : (d : Drawing) (items : List Item) → items ≡ d.items → IsPicture d → All (λ e. IsItemOnGrid e) items
picture_on_grid d items e p = subst (λ xs. All (λ e. IsItemOnGrid e) xs) (sym e) (All-items d.frame d.items p.frame (all_fit d.frame d.items p.items))

pub picture_fits : (d : Drawing) (frame : Point) (items : List Item) → frame ≡ d.frame → items ≡ d.items → IsPicture d →
    AllByRecursion (λ e. FitsFrame frame e) items
picture_fits d frame items f e p =
    subst (λ xs. AllByRecursion (λ e. FitsFrame frame e) xs) (sym e) (subst (λ c. AllByRecursion (λ e. FitsFrame c e) d.items) (sym f) (all_fit d.frame d.items p.items))
