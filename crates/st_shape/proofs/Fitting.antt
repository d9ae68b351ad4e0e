-- That differences of coordinates and their products fit 64 bits, so that what the code computes is the number itself.
use Rattle.std.proofs.Common.{sym, ◌↔◌, IsTrue, ◌≡◌, ◌*◌, ◌≤◌, ℤ, pos, negsuc, ◌+ℤ◌, ◌-ℤ◌, ◌*ℤ◌, ◌≤ℤ◌, FitsSigned, unsigned_abs, w64, lit<, arith, to_z, of_z, mul-le-mul}
use Rattle.std.specs.Int.{int_min, int_max}
use lib.Signed.{le_z}
use Rattle.st_shape.specs.declared.point.Segment.{Segment}
use Rattle.st_shape.specs.Meeting.{IsOnGrid}
use Rattle.std.proofs.lemmas.Int.{ints, clamps, to_z-of_z, fits_signed_mul, unsigned_abs-mul}
use Rattle.st_shape.specs.Steps.{IsOverlap, IsParted}

Bounded-from : (z : ℤ) → negsuc 49999999 ≤ℤ z → z ≤ℤ pos 50000000 → unsigned_abs z ≤ 50000000
Bounded-from z low high = omega (arith, ints)

fits : (z : ℤ) → negsuc 49999999 ≤ℤ z → z ≤ℤ pos 50000000 → FitsSigned w64 z
fits z low high = omega (arith, ints)

low_from : (z : ℤ) → unsigned_abs z ≤ 2500000000000000 → negsuc 2499999999999999 ≤ℤ z
low_from z h = omega (arith, ints)

high_from : (z : ℤ) → unsigned_abs z ≤ 2500000000000000 → z ≤ℤ pos 2500000000000000
high_from z h = omega (arith, ints)

module _ (a b : ℤ) (al : negsuc 49999999 ≤ℤ a) (ah : a ≤ℤ pos 50000000) (bl : negsuc 49999999 ≤ℤ b) (bh : b ≤ℤ pos 50000000) where
  size_of_product : unsigned_abs (a *ℤ b) ≤ 50000000 * 50000000
  size_of_product = omega (arith, unsigned_abs-mul a b, mul-le-mul (Bounded-from a al ah) (Bounded-from b bl bh))

  pub product_is : to_z w64 (of_z w64 (to_z w64 (of_z w64 a) *ℤ to_z w64 (of_z w64 b))) ≡ a *ℤ b
  product_is =
      rw (to_z-of_z w64 a (fits a al ah), to_z-of_z w64 b (fits b bl bh))
      (to_z-of_z w64 (a *ℤ b) (fits_signed_mul w64 a b 50000000 50000000 (Bounded-from a al ah) (Bounded-from b bl bh) (lit< tt)))

  pub product_low : negsuc 2499999999999999 ≤ℤ (a *ℤ b)
  product_low = low_from (a *ℤ b) size_of_product

  pub product_high : (a *ℤ b) ≤ℤ pos 2500000000000000
  product_high = high_from (a *ℤ b) size_of_product

module _ (a b : ℤ) (al : pos 0 ≤ℤ a) (ah : a ≤ℤ pos 50000000) (bl : pos 0 ≤ℤ b) (bh : b ≤ℤ pos 50000000) where
  pub difference_is : to_z w64 (of_z w64 (to_z w64 (of_z w64 a) -ℤ to_z w64 (of_z w64 b))) ≡ a -ℤ b
  difference_is = omega (arith, ints)

  pub difference_low : negsuc 49999999 ≤ℤ (a -ℤ b)
  difference_low = omega (arith, ints)

  pub difference_high : (a -ℤ b) ≤ℤ pos 50000000
  difference_high = omega (arith, ints)

module _ (a b : ℤ) (al : negsuc 2499999999999999 ≤ℤ a) (ah : a ≤ℤ pos 2500000000000000) (bl : negsuc 2499999999999999 ≤ℤ b) (bh : b ≤ℤ pos 2500000000000000) where
  pub product_difference_is : to_z w64 (of_z w64 (to_z w64 (of_z w64 a) -ℤ to_z w64 (of_z w64 b))) ≡ a -ℤ b
  product_difference_is = omega (arith, ints)

  pub product_difference_fits : FitsSigned w64 (to_z w64 (of_z w64 a) -ℤ to_z w64 (of_z w64 b))
  product_difference_fits = omega (arith, ints)

module _ (a b : ℤ) (al : negsuc 2499999999999999 ≤ℤ a) (ah : a ≤ℤ pos 2500000000000000) (bl : negsuc 2499999999999999 ≤ℤ b) (bh : b ≤ℤ pos 2500000000000000) where
  pub product_sum_is : to_z w64 (of_z w64 (to_z w64 (of_z w64 a) +ℤ to_z w64 (of_z w64 b))) ≡ a +ℤ b
  product_sum_is = omega (arith, ints)

  pub product_sum_fits : FitsSigned w64 (to_z w64 (of_z w64 a) +ℤ to_z w64 (of_z w64 b))
  product_sum_fits = omega (arith, ints)

-- what the code tests of two numbers x and y that are z and w
pub parted_test : (x y z w least greatest : ℤ) → x ≡ z → y ≡ w → FitsSigned w64 x → FitsSigned w64 y →
    least ≡ int_min (to_z w64 (of_z w64 x)) (to_z w64 (of_z w64 y)) →
    greatest ≡ int_max (to_z w64 (of_z w64 x)) (to_z w64 (of_z w64 y)) →
    IsTrue (le_z (to_z w64 (of_z w64 least)) (pos 0)) →
    IsTrue (le_z (pos 0) (to_z w64 (of_z w64 greatest))) ↔ IsParted z w
parted_test x y z w least greatest e f p q l g t =
    (λ u. record { low = omega (arith, ints, clamps); high = omega (arith, ints, clamps) }, λ h. sym (omega (arith, ints, clamps, h.high)))

pub coordinate_fits : (z : ℤ) → pos 0 ≤ℤ z → z ≤ℤ pos 50000000 → FitsSigned w64 z
coordinate_fits z low high = omega (arith, ints)

-- a signed argument of a call stands in the callee's clause as its bits, read again
read_overlap : (a b c d : ℤ) → FitsSigned w64 a → FitsSigned w64 b → FitsSigned w64 c → FitsSigned w64 d →
    IsOverlap (to_z w64 (of_z w64 a)) (to_z w64 (of_z w64 b)) (to_z w64 (of_z w64 c)) (to_z w64 (of_z w64 d)) ↔ IsOverlap a b c d
read_overlap a b c d p q r s = (λ h. simp to_z-of_z at h, λ h. simp to_z-of_z h)

module _ (s t : Segment) (sa : IsOnGrid s.a) (sb : IsOnGrid s.b) (ta : IsOnGrid t.a) (tb : IsOnGrid t.b) where
  pub read_overlap_x :
      IsOverlap (to_z w64 (of_z w64 s.a.x)) (to_z w64 (of_z w64 s.b.x)) (to_z w64 (of_z w64 t.a.x)) (to_z w64 (of_z w64 t.b.x)) ↔ IsOverlap s.a.x s.b.x t.a.x t.b.x
  read_overlap_x =
      read_overlap _ _ _ _ (coordinate_fits _ sa.x_low sa.x_high) (coordinate_fits _ sb.x_low sb.x_high)
      (coordinate_fits _ ta.x_low ta.x_high) (coordinate_fits _ tb.x_low tb.x_high)

  pub read_overlap_y :
      IsOverlap (to_z w64 (of_z w64 s.a.y)) (to_z w64 (of_z w64 s.b.y)) (to_z w64 (of_z w64 t.a.y)) (to_z w64 (of_z w64 t.b.y)) ↔ IsOverlap s.a.y s.b.y t.a.y t.b.y
  read_overlap_y =
      read_overlap _ _ _ _ (coordinate_fits _ sa.y_low sa.y_high) (coordinate_fits _ sb.y_low sb.y_high)
      (coordinate_fits _ ta.y_low ta.y_high) (coordinate_fits _ tb.y_low tb.y_high)
