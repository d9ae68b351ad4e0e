-- Points with natural coordinates: shared points in natural numbers.
--   IsMean q a b P i k    P over q lies i of q parts on the way from a to b, and k from b
--   Lies                  a point of the plane lies on a segment, in natural numbers; lies and lies_on lead there and back
--   at_bounds, at_same    such a place lies between bounds of a and b, and is a where both are
use Rattle.std.proofs.Common.{ℕ, ◌≡◌, ◌<◌, ◌≤◌, ◌+◌, ◌-◌, ◌*◌, refl, sym, ap, ◌∙◌, arith, mul-le-mul_left, ℤ, pos, ◌+ℤ◌, ◌-ℤ◌, ◌*ℤ◌, ◌≤ℤ◌, ◌<ℤ◌, nat_abs}
use Rattle.std.proofs.lemmas.Int.{ints}
use borrow.Author.Differences.{up, down, product_is}
use Rattle.st_shape.specs.declared.point.Point.{Point}
use Rattle.st_shape.specs.declared.point.Segment.{Segment}
use Rattle.st_shape.specs.Inside.{IsInside}
use Rattle.st_shape.specs.Meeting.{Ratio, LiesOn, IsAt}
use Rattle.st_picture.specs.Items.{grid_point}

-- the segment from a to b
abbrev pub segment : Point → Point → Segment
segment a b = record { a = a; b = b }

-- P over q lies i of q parts on the way from a to b
pub record IsMean (q a b P i k : ℕ) : Type 0 where
  pub parts : i + k ≡ q
  pub is : P ≡ k * a + i * b

pub pos_same : {k l : ℕ} → pos k ≡ pos l → k ≡ l
pos_same {k} {l} e = ap nat_abs e

pub pos_less : (k l : ℕ) → k < l → pos k <ℤ pos l
pos_less k l h = omega (arith, ints)

pub pos_most : (k l : ℕ) → k ≤ l → pos k ≤ℤ pos l
pos_most k l h = omega (arith, ints)

pub inside : (a b x y : ℕ) → x ≤ a → y ≤ b → IsInside (grid_point a b) (grid_point x y)
inside a b x y h k = record { left = pos_most 0 x (omega arith); right = pos_most x a h; low = pos_most 0 y (omega arith); high = pos_most y b k }

-- (u₁ - d₁) * (u₂ - d₂), where the factors are b - a and d - c
factors : (u₁ d₁ u₂ d₂ a b c d : ℕ) → u₁ + a ≡ d₁ + b → u₂ + c ≡ d₂ + d →
    u₁ * u₂ + d₁ * d₂ + (b * c + a * d) ≡ u₁ * d₂ + d₁ * u₂ + (b * d + a * c)
factors u₁ d₁ u₂ d₂ a b c d e f =
    omega (arith, ap (λ t. t * u₂) e, ap (λ t. t * d₂) e, ap (λ t. t * a) f, ap (λ t. t * b) f)

pub product_of_differences : (z w : ℤ) (a b c d : ℕ) → up z + a ≡ down z + b → up w + c ≡ down w + d →
    up (z *ℤ w) + (b * c + a * d) ≡ down (z *ℤ w) + (b * d + a * c)
product_of_differences z w a b c d e f =
    omega (arith, product_is z w, factors (up z) (down z) (up w) (down w) a b c d e f)

pub difference_is : (z w : ℤ) (m n : ℕ) → z ≡ pos m → w ≡ pos n → up (z -ℤ w) + n ≡ down (z -ℤ w) + m
difference_is z w m n e f = omega (arith, ints)

sum_is : (u v : ℤ) (n : ℕ) → up u + up v ≡ down u + down v + n → u +ℤ v ≡ pos n
sum_is u v n h = omega (arith, ints)

-- q*a + i*(b - a) is m*a + i*b, where q is m + i
pub mean_is : (a b q i m : ℕ) → q ≡ m + i → pos q *ℤ pos a +ℤ pos i *ℤ (pos b -ℤ pos a) ≡ pos (m * a + i * b)
mean_is a b q i m g =
    let first = product_of_differences (pos q) (pos a) 0 q 0 a (omega arith) (omega (arith, ints)) in
    let second = product_of_differences (pos i) (pos b -ℤ pos a) 0 i a b (omega arith) (difference_is (pos b) (pos a) b a refl refl) in
    sum_is (pos q *ℤ pos a) (pos i *ℤ (pos b -ℤ pos a)) (m * a + i * b) (omega (arith, first, second, ap (λ t. t * a) g))

pub product_pos : (q a : ℕ) → pos q *ℤ pos a ≡ pos (q * a)
product_pos q a =
    let first = product_of_differences (pos q) (pos a) 0 q 0 a (omega arith) (omega (arith, ints)) in
    back (pos q *ℤ pos a) (q * a) (omega (arith, first))
  where
    back : (z : ℤ) (n : ℕ) → up z ≡ down z + n → z ≡ pos n
    back z n h = omega (arith, ints)

-- the point lies on the segment, in natural numbers
pub record Lies (ax ay bx by : ℕ) (p : Ratio) : Type 0 where
  pub x : ℕ
  pub y : ℕ
  pub i : ℕ
  pub k : ℕ
  pub x_is : p.x ≡ pos x
  pub y_is : p.y ≡ pos y
  pub at_x : IsMean p.q ax bx x i k
  pub at_y : IsMean p.q ay by y i k

pub lies : (ax ay bx by : ℕ) (p : Ratio) → LiesOn (segment (grid_point ax ay) (grid_point bx by)) p → Lies ax ay bx by p
lies ax ay bx by p L =
    let w : L.i ≤ p.q = L.within in
    let k = p.q - L.i in
    record {
      x = k * ax + L.i * bx;
      y = k * ay + L.i * by;
      i = L.i;
      k = k;
      x_is = L.x_is ∙ mean_is ax bx p.q L.i k (omega arith);
      y_is = L.y_is ∙ mean_is ay by p.q L.i k (omega arith);
      at_x = record { parts = omega arith; is = refl };
      at_y = record { parts = omega arith; is = refl };
    }

pub lies_on : (ax ay bx by : ℕ) (p : Ratio) → Lies ax ay bx by p → LiesOn (segment (grid_point ax ay) (grid_point bx by)) p
lies_on ax ay bx by p L =
    let e = L.at_x.parts in
    record {
      i = L.i;
      within = omega arith;
      x_is = L.x_is ∙ ap pos L.at_x.is ∙ sym (mean_is ax bx p.q L.i L.k (omega arith));
      y_is = L.y_is ∙ ap pos L.at_y.is ∙ sym (mean_is ay by p.q L.i L.k (omega arith));
    }

pub is_at : (p : Ratio) (x y a b : ℕ) → p.x ≡ pos x → p.y ≡ pos y → x ≡ p.q * a → y ≡ p.q * b → IsAt p (grid_point a b)
is_at p x y a b e f h k = record { x_is = e ∙ ap pos h ∙ sym (product_pos p.q a); y_is = f ∙ ap pos k ∙ sym (product_pos p.q b) }

-- a part of a stretch lies in its bounds
pub at_bounds : (q a b P i k lo hi : ℕ) → IsMean q a b P i k → lo ≤ a → lo ≤ b → a ≤ hi → b ≤ hi → (q * lo ≤ P) × (P ≤ q * hi)
at_bounds q a b P i k lo hi A l m n o =
    let e = A.parts in
    let f = A.is in
    let a1 = bound k lo a l in
    let a2 = bound i lo b m in
    let b1 = bound k a hi n in
    let b2 = bound i b hi o in
    let s : q * lo ≡ k * lo + i * lo = omega (arith, ap (λ t. t * lo) e) in
    let t : q * hi ≡ k * hi + i * hi = omega (arith, ap (λ t. t * hi) e) in
    (omega arith, omega arith)
  where
    bound : (n a b : ℕ) → a ≤ b → n * a ≤ n * b
    bound n a b h = mul-le-mul_left n h

pub at_same : (q a P i k : ℕ) → IsMean q a a P i k → P ≡ q * a
at_same q a P i k A = let e = A.parts in let f = A.is in omega (arith, ap (λ t. t * a) e)
