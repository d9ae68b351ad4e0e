-- From whole numbers with a sign to natural ones, for what `turn` and `meet` say.
-- An integer z is read as `up z - down z`; a coordinate of the grid is `pos n`.
use Rattle.std.proofs.Common.{◌<◌, ◌⊎◌, ◌≡◌, ℕ, ◌+◌, ◌-◌, ◌*◌, ℤ, pos, negsuc, ◌+ℤ◌, ◌-ℤ◌, ◌*ℤ◌, ◌≤ℤ◌, ◌<ℤ◌, nat_abs, inl, inr, ap, sym, refl, ◌∙◌, arith}
use Rattle.std.proofs.lemmas.Bool.{cases_lt}
use Rattle.std.proofs.lemmas.Int.{ints, clamps}
use lib.IntN.{zero-*ℤ}
use borrow.Author.Differences.{up, down, product_is}
use Rattle.st_shape.specs.declared.point.Point.{Point}
use Rattle.st_shape.specs.declared.point.Segment.{Segment}
use Rattle.st_shape.specs.Meeting.{cross, IsOnGrid, Ratio, Meet}
use Rattle.st_shape.proofs.Beyond.{ahead, behind, OnRay, SharedBeyond, SharedBeyond-ray, OnRay-shared}
use Rattle.st_shape.proofs.Plane.{area, Shared, Overlap, Parted, Shared-tests, Tests-shared}
use Rattle.st_shape.specs.Steps.{IsOnRay, IsOverlap, IsParted, MeetBeyond, scalar}

-- ---- products of differences

-- (u₁ - d₁) * (u₂ - d₂), where the factors are b - a and d - c
factors : (u₁ d₁ u₂ d₂ a b c d : ℕ) → u₁ + a ≡ d₁ + b → u₂ + c ≡ d₂ + d →
    u₁ * u₂ + d₁ * d₂ + (b * c + a * d) ≡ u₁ * d₂ + d₁ * u₂ + (b * d + a * c)
factors u₁ d₁ u₂ d₂ a b c d e f =
    omega (arith, ap (λ t. t * u₂) e, ap (λ t. t * d₂) e, ap (λ t. t * a) f, ap (λ t. t * b) f)

product_of_differences : (z w : ℤ) (a b c d : ℕ) → up z + a ≡ down z + b → up w + c ≡ down w + d →
    up (z *ℤ w) + (b * c + a * d) ≡ down (z *ℤ w) + (b * d + a * c)
product_of_differences z w a b c d e f =
    omega (arith, product_is z w, factors (up z) (down z) (up w) (down w) a b c d e f)

difference_is : (z w : ℤ) (m n : ℕ) → z ≡ pos m → w ≡ pos n → up (z -ℤ w) + n ≡ down (z -ℤ w) + m
difference_is z w m n e f = omega (arith, ints)

minus_is : (z w : ℤ) → up (z -ℤ w) + down z + up w ≡ down (z -ℤ w) + up z + down w
minus_is z w = omega (arith, ints)

cross_is : (p q r : Point) (xa ya xb yb xc yc : ℕ) →
    p.x ≡ pos xa → p.y ≡ pos ya → q.x ≡ pos xb → q.y ≡ pos yb → r.x ≡ pos xc → r.y ≡ pos yc →
    up (cross p q r) + area ya xa yb xb yc xc ≡ down (cross p q r) + area xa ya xb yb xc yc
cross_is p q r xa ya xb yb xc yc px py qx qy rx ry =
    let e = product_of_differences (q.x -ℤ p.x) (r.y -ℤ p.y) xa xb ya yc
    (difference_is q.x p.x xb xa qx px) (difference_is r.y p.y yc ya ry py) in
    let f = product_of_differences (q.y -ℤ p.y) (r.x -ℤ p.x) ya yb xa xc
    (difference_is q.y p.y yb ya qy py) (difference_is r.x p.x xc xa rx px) in
    omega (arith, minus_is ((q.x -ℤ p.x) *ℤ (r.y -ℤ p.y)) ((q.y -ℤ p.y) *ℤ (r.x -ℤ p.x)), e, f)

scalar_is : (p q r : Point) (xa ya xb yb xc yc : ℕ) →
    p.x ≡ pos xa → p.y ≡ pos ya → q.x ≡ pos xb → q.y ≡ pos yb → r.x ≡ pos xc → r.y ≡ pos yc →
    up (scalar p q r) + behind xa ya xb yb xc yc ≡ down (scalar p q r) + ahead xa ya xb yb xc yc
scalar_is p q r xa ya xb yb xc yc px py qx qy rx ry =
    let e = product_of_differences (q.x -ℤ p.x) (r.x -ℤ p.x) xa xb xa xc
    (difference_is q.x p.x xb xa qx px) (difference_is r.x p.x xc xa rx px) in
    let f = product_of_differences (q.y -ℤ p.y) (r.y -ℤ p.y) ya yb ya yc
    (difference_is q.y p.y yb ya qy py) (difference_is r.y p.y yc ya ry py) in
    omega (arith, plus_is ((q.x -ℤ p.x) *ℤ (r.x -ℤ p.x)) ((q.y -ℤ p.y) *ℤ (r.y -ℤ p.y)), e, f)
  where
    plus_is : (z w : ℤ) → up (z +ℤ w) + down z + down w ≡ down (z +ℤ w) + up z + up w
    plus_is z w = omega (arith, ints)

-- ---- the tests

OnRay-from : (z w : ℤ) (l r a b : ℕ) → up z + r ≡ down z + l → up w + b ≡ down w + a → z ≡ pos 0 → pos 0 <ℤ w → (l ≡ r) × (b < a)
OnRay-from z w l r a b e f h k = (omega (arith, ints), omega (arith, ints))

OnRay-to : (z w : ℤ) (l r a b : ℕ) → up z + r ≡ down z + l → up w + b ≡ down w + a → l ≡ r → b < a → (z ≡ pos 0) × (pos 0 <ℤ w)
OnRay-to z w l r a b e f h k = (omega (arith, ints), omega (arith, ints))

Parted-from : (z w : ℤ) (l₁ r₁ l₂ r₂ : ℕ) → up z + r₁ ≡ down z + l₁ → up w + r₂ ≡ down w + l₂ →
    IsParted z w → Parted l₁ r₁ l₂ r₂
Parted-from z w l₁ r₁ l₂ r₂ e f p =
    record {
      left = elim (cases_lt r₁ l₁) [ inr h ↦ inl h | inl h ↦ inr (omega (arith, ints, clamps, p.low)) ];
      right = elim (cases_lt l₁ r₁) [ inr h ↦ inl h | inl h ↦ inr (omega (arith, ints, clamps, p.high)) ];
    }

Parted-to : (z w : ℤ) (l₁ r₁ l₂ r₂ : ℕ) → up z + r₁ ≡ down z + l₁ → up w + r₂ ≡ down w + l₂ →
    Parted l₁ r₁ l₂ r₂ → IsParted z w
Parted-to z w l₁ r₁ l₂ r₂ e f p =
    record { low = omega (arith, ints, clamps, p.left); high = omega (arith, ints, clamps, p.right) }

Overlap-from : (a b c d : ℤ) (k l m n : ℕ) → a ≡ pos k → b ≡ pos l → c ≡ pos m → d ≡ pos n → IsOverlap a b c d → Overlap k l m n
Overlap-from a b c d k l m n p q r s o =
    record { low = omega (arith, ints, clamps, o.low); high = omega (arith, ints, clamps, o.high) }

Overlap-to : (a b c d : ℤ) (k l m n : ℕ) → a ≡ pos k → b ≡ pos l → c ≡ pos m → d ≡ pos n → Overlap k l m n → IsOverlap a b c d
Overlap-to a b c d k l m n p q r s o =
    record { low = omega (arith, ints, clamps, o.low); high = omega (arith, ints, clamps, o.high) }

-- ---- the points of a segment

-- q*a + i*(b - a) is m*a + i*b, where q is m + i
pub mean_is : (z w : ℤ) (a b q i m : ℕ) → z ≡ pos a → w ≡ pos b → q ≡ m + i →
    pos q *ℤ z +ℤ pos i *ℤ (w -ℤ z) ≡ pos (m * a + i * b)
mean_is z w a b q i m e f g =
    let first = product_of_differences (pos q) z 0 q 0 a (omega arith) (omega (arith, ints)) in
    let second = product_of_differences (pos i) (w -ℤ z) 0 i a b (omega arith) (difference_is w z b a f e) in
    sum_is (pos q *ℤ z) (pos i *ℤ (w -ℤ z)) (m * a + i * b) (omega (arith, first, second, ap (λ t. t * a) g))
  where
    sum_is : (u v : ℤ) (n : ℕ) → up u + up v ≡ down u + down v + n → u +ℤ v ≡ pos n
    sum_is u v n h = omega (arith, ints)

-- ---- the two directions

pub coordinate_is : (z : ℤ) → pos 0 ≤ℤ z → z ≡ pos (nat_abs z)
coordinate_is (pos n) h = refl
coordinate_is (negsuc n) h = omega (arith, ints)

module _ (s t : Segment) (sa : IsOnGrid s.a) (sb : IsOnGrid s.b) (ta : IsOnGrid t.a) (tb : IsOnGrid t.b) where
  abbrev pub Shared-Meet : Meet s t →
      Shared (nat_abs s.a.x) (nat_abs s.a.y) (nat_abs s.b.x) (nat_abs s.b.y)
      (nat_abs t.a.x) (nat_abs t.a.y) (nat_abs t.b.x) (nat_abs t.b.y)
  Shared-Meet (p, h) =
      let m = p.q - h.first.i in
      let n = p.q - h.second.i in
      let e : p.q ≡ m + h.first.i = omega (arith, h.first.within) in
      let f : p.q ≡ n + h.second.i = omega (arith, h.second.within) in
      let x₁ = sym (mean_is s.a.x s.b.x (nat_abs s.a.x) (nat_abs s.b.x) p.q h.first.i m (coordinate_is s.a.x sa.x_low) (coordinate_is s.b.x sb.x_low) e) ∙ sym h.first.x_is in
      let x₂ = sym (mean_is t.a.x t.b.x (nat_abs t.a.x) (nat_abs t.b.x) p.q h.second.i n (coordinate_is t.a.x ta.x_low) (coordinate_is t.b.x tb.x_low) f) ∙ sym h.second.x_is in
      let y₁ = sym (mean_is s.a.y s.b.y (nat_abs s.a.y) (nat_abs s.b.y) p.q h.first.i m (coordinate_is s.a.y sa.y_low) (coordinate_is s.b.y sb.y_low) e) ∙ sym h.first.y_is in
      let y₂ = sym (mean_is t.a.y t.b.y (nat_abs t.a.y) (nat_abs t.b.y) p.q h.second.i n (coordinate_is t.a.y ta.y_low) (coordinate_is t.b.y tb.y_low) f) ∙ sym h.second.y_is in
      record {
        m = m;
        i = h.first.i;
        n = n;
        j = h.second.i;
        positive = omega (arith, h.divides, e);
        same = omega (arith, e, f);
        on_x = pos_injective (x₁ ∙ sym x₂);
        on_y = pos_injective (y₁ ∙ sym y₂);
      }
    where
      pos_injective : {k l : ℕ} → pos k ≡ pos l → k ≡ l
      pos_injective {k} {l} e = ap nat_abs e

  abbrev pub Meet-Shared :
      Shared (nat_abs s.a.x) (nat_abs s.a.y) (nat_abs s.b.x) (nat_abs s.b.y)
      (nat_abs t.a.x) (nat_abs t.a.y) (nat_abs t.b.x) (nat_abs t.b.y) → Meet s t
  Meet-Shared h =
      let sax = coordinate_is s.a.x sa.x_low in
      let say = coordinate_is s.a.y sa.y_low in
      let sbx = coordinate_is s.b.x sb.x_low in
      let sby = coordinate_is s.b.y sb.y_low in
      let tax = coordinate_is t.a.x ta.x_low in
      let tay = coordinate_is t.a.y ta.y_low in
      let tbx = coordinate_is t.b.x tb.x_low in
      let tby = coordinate_is t.b.y tb.y_low in
      let p : Ratio = record {
        x = pos (h.m * nat_abs s.a.x + h.i * nat_abs s.b.x);
        y = pos (h.m * nat_abs s.a.y + h.i * nat_abs s.b.y);
        q = h.m + h.i;
      } in (
        p,
        record {
          divides = h.positive;
          first = record {
            i = h.i;
            within = omega arith;
            x_is = sym (mean_is s.a.x s.b.x _ _ (h.m + h.i) h.i h.m sax sbx refl);
            y_is = sym (mean_is s.a.y s.b.y _ _ (h.m + h.i) h.i h.m say sby refl);
          };
          second = record {
            i = h.j;
            within = omega (arith, h.same);
            x_is = ap pos h.on_x ∙ sym (mean_is t.a.x t.b.x _ _ (h.m + h.i) h.j h.n tax tbx h.same);
            y_is = ap pos h.on_y ∙ sym (mean_is t.a.y t.b.y _ _ (h.m + h.i) h.j h.n tay tby h.same);
          };
        },
      )

  -- what `meet` tests
  pub record Passes : Type 0 where
    pub over_x : IsOverlap s.a.x s.b.x t.a.x t.b.x
    pub over_y : IsOverlap s.a.y s.b.y t.a.y t.b.y
    pub parted_t : IsParted (cross s.a s.b t.a) (cross s.a s.b t.b)
    pub parted_s : IsParted (cross t.a t.b s.a) (cross t.a t.b s.b)

  pub Meet-Passes : Passes → Meet s t
  Meet-Passes h =
      let sax = coordinate_is s.a.x sa.x_low in
      let say = coordinate_is s.a.y sa.y_low in
      let sbx = coordinate_is s.b.x sb.x_low in
      let sby = coordinate_is s.b.y sb.y_low in
      let tax = coordinate_is t.a.x ta.x_low in
      let tay = coordinate_is t.a.y ta.y_low in
      let tbx = coordinate_is t.b.x tb.x_low in
      let tby = coordinate_is t.b.y tb.y_low in
      Meet-Shared (Shared-tests _ _ _ _ _ _ _ _ (record {
        over_x = Overlap-from _ _ _ _ _ _ _ _ sax sbx tax tbx h.over_x;
        over_y = Overlap-from _ _ _ _ _ _ _ _ say sby tay tby h.over_y;
        cd = Parted-from _ _ _ _ _ _ (cross_is s.a s.b t.a _ _ _ _ _ _ sax say sbx sby tax tay) (cross_is s.a s.b t.b _ _ _ _ _ _ sax say sbx sby tbx tby) h.parted_t;
        ab = Parted-from _ _ _ _ _ _ (cross_is t.a t.b s.a _ _ _ _ _ _ tax tay tbx tby sax say) (cross_is t.a t.b s.b _ _ _ _ _ _ tax tay tbx tby sbx sby) h.parted_s;
      }))

  pub Passes-Meet : Meet s t → Passes
  Passes-Meet h =
      let sax = coordinate_is s.a.x sa.x_low in
      let say = coordinate_is s.a.y sa.y_low in
      let sbx = coordinate_is s.b.x sb.x_low in
      let sby = coordinate_is s.b.y sb.y_low in
      let tax = coordinate_is t.a.x ta.x_low in
      let tay = coordinate_is t.a.y ta.y_low in
      let tbx = coordinate_is t.b.x tb.x_low in
      let tby = coordinate_is t.b.y tb.y_low in
      let tests = Tests-shared _ _ _ _ _ _ _ _ (Shared-Meet h) in
      record {
        over_x = Overlap-to _ _ _ _ _ _ _ _ sax sbx tax tbx tests.over_x;
        over_y = Overlap-to _ _ _ _ _ _ _ _ say sby tay tby tests.over_y;
        parted_t = Parted-to _ _ _ _ _ _ (cross_is s.a s.b t.a _ _ _ _ _ _ sax say sbx sby tax tay) (cross_is s.a s.b t.b _ _ _ _ _ _ sax say sbx sby tbx tby) tests.cd;
        parted_s = Parted-to _ _ _ _ _ _ (cross_is t.a t.b s.a _ _ _ _ _ _ tax tay tbx tby sax say) (cross_is t.a t.b s.b _ _ _ _ _ _ tax tay tbx tby sbx sby) tests.ab;
      }

-- ---- a point beyond the first of s

-- the point of a segment of one point
abbrev pub point_of : Point → Segment
point_of a = record { a = a; b = a }

module _ (s : Segment) (r : Point) (sa : IsOnGrid s.a) (sb : IsOnGrid s.b) (rr : IsOnGrid r) where
  OnRay-is : IsOnRay s r → OnRay (nat_abs s.a.x) (nat_abs s.a.y) (nat_abs s.b.x) (nat_abs s.b.y) (nat_abs r.x) (nat_abs r.y)
  OnRay-is h =
      let sax = coordinate_is s.a.x sa.x_low in
      let say = coordinate_is s.a.y sa.y_low in
      let sbx = coordinate_is s.b.x sb.x_low in
      let sby = coordinate_is s.b.y sb.y_low in
      let rx = coordinate_is r.x rr.x_low in
      let ry = coordinate_is r.y rr.y_low in
      let w = OnRay-from _ _ _ _ _ _ (cross_is s.a s.b r _ _ _ _ _ _ sax say sbx sby rx ry) (scalar_is s.a s.b r _ _ _ _ _ _ sax say sbx sby rx ry) h.line h.way in
      record { line = w.0; way = w.1 }

  is-OnRay : OnRay (nat_abs s.a.x) (nat_abs s.a.y) (nat_abs s.b.x) (nat_abs s.b.y) (nat_abs r.x) (nat_abs r.y) → IsOnRay s r
  is-OnRay h =
      let sax = coordinate_is s.a.x sa.x_low in
      let say = coordinate_is s.a.y sa.y_low in
      let sbx = coordinate_is s.b.x sb.x_low in
      let sby = coordinate_is s.b.y sb.y_low in
      let rx = coordinate_is r.x rr.x_low in
      let ry = coordinate_is r.y rr.y_low in
      let w = OnRay-to _ _ _ _ _ _ (cross_is s.a s.b r _ _ _ _ _ _ sax say sbx sby rx ry) (scalar_is s.a s.b r _ _ _ _ _ _ sax say sbx sby rx ry) h.line h.way in
      record { line = w.0; way = w.1 }

module _ (s t : Segment) (sa : IsOnGrid s.a) (sb : IsOnGrid s.b) (ta : IsOnGrid t.a) (tb : IsOnGrid t.b) where
  SharedBeyond-Meet : MeetBeyond s t →
      SharedBeyond (nat_abs s.a.x) (nat_abs s.a.y) (nat_abs s.b.x) (nat_abs s.b.y)
      (nat_abs t.a.x) (nat_abs t.a.y) (nat_abs t.b.x) (nat_abs t.b.y)
  SharedBeyond-Meet (p, h, beyond) =
      let m = p.q - h.first.i in
      let e : p.q ≡ m + h.first.i = omega (arith, h.first.within) in
      record {
        shared = Shared-Meet s t sa sb ta tb (p, h);
        beyond = λ ex ey.
            beyond (record {
              x_is =
                  h.first.x_is ∙ mean_is s.a.x s.b.x (nat_abs s.a.x) (nat_abs s.b.x) p.q h.first.i m (coordinate_is s.a.x sa.x_low) (coordinate_is s.b.x sb.x_low) e
                  ∙ ap pos (at_first p.q m h.first.i (nat_abs s.a.x) (nat_abs s.b.x) e ex) ∙ sym (ap (λ z. pos p.q *ℤ z) (coordinate_is s.a.x sa.x_low));
              y_is =
                  h.first.y_is ∙ mean_is s.a.y s.b.y (nat_abs s.a.y) (nat_abs s.b.y) p.q h.first.i m (coordinate_is s.a.y sa.y_low) (coordinate_is s.b.y sb.y_low) e
                  ∙ ap pos (at_first p.q m h.first.i (nat_abs s.a.y) (nat_abs s.b.y) e ey) ∙ sym (ap (λ z. pos p.q *ℤ z) (coordinate_is s.a.y sa.y_low));
            });
      }
    where
      at_first : (q m i a b : ℕ) → q ≡ m + i → i * a ≡ i * b → m * a + i * b ≡ q * a
      at_first q m i a b e f = omega (arith, ap (λ t. t * a) e, f)

  Meet-SharedBeyond :
      SharedBeyond (nat_abs s.a.x) (nat_abs s.a.y) (nat_abs s.b.x) (nat_abs s.b.y)
      (nat_abs t.a.x) (nat_abs t.a.y) (nat_abs t.b.x) (nat_abs t.b.y) → MeetBeyond s t
  Meet-SharedBeyond h =
      let w = Meet-Shared s t sa sb ta tb h.shared in (
        w.0,
        w.1,
        λ at.
            h.beyond
            (from_first h.shared.m h.shared.i (nat_abs s.a.x) (nat_abs s.b.x)
            (ap nat_abs (at.x_is ∙ ap (λ z. pos (h.shared.m + h.shared.i) *ℤ z) (coordinate_is s.a.x sa.x_low))))
            (from_first h.shared.m h.shared.i (nat_abs s.a.y) (nat_abs s.b.y)
            (ap nat_abs (at.y_is ∙ ap (λ z. pos (h.shared.m + h.shared.i) *ℤ z) (coordinate_is s.a.y sa.y_low)))),
      )
    where
      from_first : (m i a b : ℕ) → m * a + i * b ≡ (m + i) * a → i * a ≡ i * b
      from_first m i a b e = omega (arith, e)

  pub MeetBeyond-ray : Meet (point_of s.a) t → IsOnRay s t.a ⊎ IsOnRay s t.b → MeetBeyond s t
  MeetBeyond-ray h ray =
      Meet-SharedBeyond (SharedBeyond-ray _ _ _ _ _ _ _ _ (Shared-Meet (point_of s.a) t sa sa ta tb h)
      (elim ray [ inl r ↦ inl (OnRay-is s t.a sa sb ta r) | inr r ↦ inr (OnRay-is s t.b sa sb tb r) ]))

  pub ray-MeetBeyond : Meet (point_of s.a) t → MeetBeyond s t → IsOnRay s t.a ⊎ IsOnRay s t.b
  ray-MeetBeyond h b =
      elim (OnRay-shared _ _ _ _ _ _ _ _ (Shared-Meet (point_of s.a) t sa sa ta tb h) (SharedBeyond-Meet b)) [
        | inl r ↦ inl (is-OnRay s t.a sa sb ta r)
        | inr r ↦ inr (is-OnRay s t.b sa sb tb r)
      ]

-- where the first point of s is none of t, any shared point is another
pub MeetBeyond-off : (s t : Segment) → (Meet (point_of s.a) t → ⊥) → Meet s t → MeetBeyond s t
MeetBeyond-off s t off (p, h) = (
  p,
  h,
  λ at. off (
    p,
    record {
      divides = h.divides;
      first = record { i = 0; within = omega arith; x_is = stay p.x s.a.x p.q at.x_is; y_is = stay p.y s.a.y p.q at.y_is };
      second = h.second;
    },
  ),
)
  where
    stay : (x z : ℤ) (q : ℕ) → x ≡ pos q *ℤ z → x ≡ pos q *ℤ z +ℤ pos 0 *ℤ (z -ℤ z)
    stay x z q e = e ∙ add_zero (pos q *ℤ z) (pos 0 *ℤ (z -ℤ z)) (zero-*ℤ (z -ℤ z))
      where
        add_zero : (u v : ℤ) → v ≡ pos 0 → u ≡ u +ℤ v
        add_zero u v f = omega (arith, ints)

pub Meet-beyond : (s t : Segment) → MeetBeyond s t → Meet s t
Meet-beyond s t (p, h, beyond) = (p, h)
