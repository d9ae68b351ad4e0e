-- When the segments ab and cd share a point other than a, where a is a point of cd: some end of cd lies on the ray from a through b.
-- Natural coordinates, as in `Plane`.
use Rattle.std.proofs.Common.{◌≡◌, ℕ, ◌+◌, ◌-◌, ◌*◌, ◌<◌, ◌≤◌, ◌⊎◌, inl, inr, ap, sym, arith, mul-le-mul_left, mul-pos}
use Rattle.std.proofs.Math.Nat.{eq_of_mul-eq-mul_left}
use Rattle.std.proofs.lemmas.Bool.{cases_lt, cases_order}
use Rattle.st_shape.proofs.Plane.{area, Shared}

-- the two halves of the scalar product of b - a and c - a
abbrev pub ahead : ℕ → ℕ → ℕ → ℕ → ℕ → ℕ → ℕ
ahead xa ya xb yb xc yc = xb * xc + xa * xa + (yb * yc + ya * ya)

abbrev pub behind : ℕ → ℕ → ℕ → ℕ → ℕ → ℕ → ℕ
behind xa ya xb yb xc yc = xa * xb + xa * xc + (ya * yb + ya * yc)

-- c lies on the ray from a through b, and is not a
pub record OnRay (xa ya xb yb xc yc : ℕ) : Type 0 where
  pub line : area xa ya xb yb xc yc ≡ area ya xa yb xb yc xc
  pub way : behind xa ya xb yb xc yc < ahead xa ya xb yb xc yc

-- a shared point of ab and cd that is not a: its weights are m, i, n and j
pub record SharedBeyond (xa ya xb yb xc yc xd yd : ℕ) : Type 0 where
  pub shared : Shared xa ya xb yb xc yc xd yd
  pub beyond : shared.i * xa ≡ shared.i * xb → shared.i * ya ≡ shared.i * yb → ⊥

-- ---- from an end on the ray to a shared point

-- the point that lies D of U + D on the way from a to b, and U of U + D on the way from a to c
on_both : (xa ya xb yb xc yc U D : ℕ) → area xa ya xb yb xc yc ≡ area ya xa yb xb yc xc →
    ahead xa ya xb yb xc yc ≡ behind xa ya xb yb xc yc + D → ahead xa ya xb yb xb yb ≡ behind xa ya xb yb xb yb + U →
    U * xa + D * xb ≡ D * xa + U * xc
on_both xa ya xb yb xc yc U D line d u =
    omega (arith, ap (λ t. t * ya) line, ap (λ t. t * yb) line, ap (λ t. t * xa) d, ap (λ t. t * xb) d, ap (λ t. t * xa) u, ap (λ t. t * xc) u)

on_both_y : (xa ya xb yb xc yc U D : ℕ) → area xa ya xb yb xc yc ≡ area ya xa yb xb yc xc →
    ahead xa ya xb yb xc yc ≡ behind xa ya xb yb xc yc + D → ahead xa ya xb yb xb yb ≡ behind xa ya xb yb xb yb + U →
    U * ya + D * yb ≡ D * ya + U * yc
on_both_y xa ya xb yb xc yc U D line d u =
    on_both ya xa yb xb yc xc U D (sym line) (omega (arith, d)) (omega (arith, u))

-- q * x is n * c + j * d for the point a of cd
scaled : (q n j U D xa xb xc xd : ℕ) → q * xa ≡ n * xc + j * xd → U * xa + D * xb ≡ D * xa + U * xc →
    U * q * xa + D * q * xb ≡ (D * n + U * q) * xc + D * j * xd
scaled q n j U D xa xb xc xd a e =
    omega (arith, ap (λ t. D * t) a, ap (λ t. q * t) e)

square_apart : (a b e : ℕ) → b ≡ a + e → 0 < e → 2 * (a * b) < a * a + b * b
square_apart a b e h p = omega (arith, ap (λ t. a * t) h, ap (λ t. t * b) h, ap (λ t. e * t) h, mul-pos p p)

-- 2ab is at most the sum of the squares, and below it where a and b differ
squares : (a b : ℕ) → (a ≡ b) ⊎ (2 * (a * b) < a * a + b * b)
squares a b =
    elim (cases_order a b) [
      | inl e ↦ inl e
      | inr rest ↦ elim rest [
        | inl h ↦ inr (square_apart a b (b - a) (omega arith) (omega arith))
        | inr h ↦ inr (omega (arith, square_apart b a (a - b) (omega arith) (omega arith)))
      ]
    ]

square_same : (a b : ℕ) → a ≡ b → 2 * (a * b) ≡ a * a + b * b
square_same a b e = omega (arith, ap (λ t. a * t) e, ap (λ t. t * b) e)

squares_le : (a b : ℕ) → 2 * (a * b) ≤ a * a + b * b
squares_le a b = elim (squares a b) [ inl e ↦ omega (arith, square_same a b e) | inr h ↦ omega (arith, h) ]

-- no point is on the ray from a through a
no_ray : (xa ya xb yb xc yc : ℕ) → xa ≡ xb → ya ≡ yb → behind xa ya xb yb xc yc < ahead xa ya xb yb xc yc → ⊥
no_ray xa ya xb yb xc yc e f h =
    omega (arith, ap (λ t. t * xc) e, ap (λ t. xa * t) e, ap (λ t. t * yc) f, ap (λ t. ya * t) f)

cancel : (k a b : ℕ) → 0 < k → k * a ≡ k * b → a ≡ b
cancel k a b h e = eq_of_mul-eq-mul_left k h a b e

SharedBeyond-c : (xa ya xb yb xc yc xd yd : ℕ) → Shared xa ya xa ya xc yc xd yd → OnRay xa ya xb yb xc yc →
    SharedBeyond xa ya xb yb xc yc xd yd
SharedBeyond-c xa ya xb yb xc yc xd yd s ray =
    let q = s.m + s.i in
    let D = ahead xa ya xb yb xc yc - behind xa ya xb yb xc yc in
    let U = ahead xa ya xb yb xb yb - behind xa ya xb yb xb yb in
    let d : ahead xa ya xb yb xc yc ≡ behind xa ya xb yb xc yc + D = omega (arith, ray.way) in
    let u : ahead xa ya xb yb xb yb ≡ behind xa ya xb yb xb yb + U = omega (arith, squares_le xa xb, squares_le ya yb) in
    let pos_D : 0 < D = omega (arith, ray.way) in
    let pos_q : 0 < q = s.positive in
    let pos : 0 < D * q = mul-pos pos_D pos_q in
    let ax : q * xa ≡ s.n * xc + s.j * xd = omega (arith, s.on_x) in
    let ay : q * ya ≡ s.n * yc + s.j * yd = omega (arith, s.on_y) in
    record {
      shared = record {
        m = U * q;
        i = D * q;
        n = D * s.n + U * q;
        j = D * s.j;
        positive = omega (arith, pos);
        same = omega (arith, ap (λ t. D * t) s.same);
        on_x = scaled q s.n s.j U D xa xb xc xd ax (on_both xa ya xb yb xc yc U D ray.line d u);
        on_y = scaled q s.n s.j U D ya yb yc yd ay (on_both_y xa ya xb yb xc yc U D ray.line d u);
      };
      beyond = λ e f.
          no_ray xa ya xb yb xc yc (cancel (D * q) xa xb pos e) (cancel (D * q) ya yb pos f) ray.way;
    }

SharedBeyond-d : (xa ya xb yb xc yc xd yd : ℕ) → Shared xa ya xa ya xc yc xd yd → OnRay xa ya xb yb xd yd →
    SharedBeyond xa ya xb yb xc yc xd yd
SharedBeyond-d xa ya xb yb xc yc xd yd s ray =
    let other : Shared xa ya xa ya xd yd xc yc =
    record {
      m = s.m;
      i = s.i;
      n = s.j;
      j = s.n;
      positive = s.positive;
      same = omega (arith, s.same);
      on_x = omega (arith, s.on_x);
      on_y = omega (arith, s.on_y);
    } in
    let b = SharedBeyond-c xa ya xb yb xd yd xc yc other ray in
    let w = b.shared in
    record {
      shared = record {
        m = w.m;
        i = w.i;
        n = w.j;
        j = w.n;
        positive = w.positive;
        same = omega (arith, w.same);
        on_x = omega (arith, w.on_x);
        on_y = omega (arith, w.on_y);
      };
      beyond = b.beyond;
    }

pub SharedBeyond-ray : (xa ya xb yb xc yc xd yd : ℕ) → Shared xa ya xa ya xc yc xd yd →
    OnRay xa ya xb yb xc yc ⊎ OnRay xa ya xb yb xd yd → SharedBeyond xa ya xb yb xc yc xd yd
SharedBeyond-ray xa ya xb yb xc yc xd yd s (inl ray) = SharedBeyond-c xa ya xb yb xc yc xd yd s ray
SharedBeyond-ray xa ya xb yb xc yc xd yd s (inr ray) = SharedBeyond-d xa ya xb yb xc yc xd yd s ray

-- ---- from a shared point to an end on the ray

-- a lies on the line cd
on_line : (xa ya xc yc xd yd q n j : ℕ) → 0 < q → q ≡ n + j → q * xa ≡ n * xc + j * xd → q * ya ≡ n * yc + j * yd →
    area xc yc xd yd xa ya ≡ area yc xc yd xd ya xa
on_line xa ya xc yc xd yd q n j pos same ex ey =
    cancel q _ _ pos
    (omega (arith, ap (λ t. t * yc) ex, ap (λ t. t * yd) ex, ap (λ t. t * xc) ey, ap (λ t. t * xd) ey, ap (λ t. t * (xc * yd)) same, ap (λ t. t * (yc * xd)) same))

-- so the ends of cd lie on the line ab
ends_on_line : (xa ya xb yb xc yc xd yd m i n j : ℕ) → 0 < i → m + i ≡ n + j →
    m * xa + i * xb ≡ n * xc + j * xd → m * ya + i * yb ≡ n * yc + j * yd →
    area xc yc xd yd xa ya ≡ area yc xc yd xd ya xa →
    area xa ya xb yb xc yc ≡ area ya xa yb xb yc xc
ends_on_line xa ya xb yb xc yc xd yd m i n j pos same ex ey line =
    cancel i _ _ pos
    (omega (arith, ap (λ t. t * yc) ex, ap (λ t. t * ya) ex, ap (λ t. t * xc) ey, ap (λ t. t * xa) ey, ap (λ t. t * (xa * yc)) same, ap (λ t. t * (ya * xc)) same, ap (λ t. j * t) line))

-- the scalar products of c and d with b, weighted, are that of b
scalar_balance : (xa ya xb yb xc yc xd yd m i n j : ℕ) → m + i ≡ n + j →
    m * xa + i * xb ≡ n * xc + j * xd → m * ya + i * yb ≡ n * yc + j * yd →
    n * ahead xa ya xb yb xc yc + j * ahead xa ya xb yb xd yd + i * behind xa ya xb yb xb yb
    ≡ n * behind xa ya xb yb xc yc + j * behind xa ya xb yb xd yd + i * ahead xa ya xb yb xb yb
scalar_balance xa ya xb yb xc yc xd yd m i n j same ex ey =
    omega (arith, ap (λ t. t * xa) ex, ap (λ t. t * xb) ex, ap (λ t. t * ya) ey, ap (λ t. t * yb) ey, ap (λ t. t * (xa * xa)) same, ap (λ t. t * (xa * xb)) same, ap (λ t. t * (ya * ya)) same, ap (λ t. t * (ya * yb)) same)

outweighed : (n j i ac bc ad bd ab bb : ℕ) → 0 < i → bb < ab → ac ≤ bc → ad ≤ bd →
    n * ac + j * ad + i * bb ≡ n * bc + j * bd + i * ab → ⊥
outweighed n j i ac bc ad bd ab bb pos h p q e =
    omega (arith, mul-le-mul_left n p, mul-le-mul_left j q, mul-le-mul_left i h)

apart_way : (xa ya xb yb : ℕ) → (xa ≡ xb → ya ≡ yb → ⊥) → behind xa ya xb yb xb yb < ahead xa ya xb yb xb yb
apart_way xa ya xb yb ne =
    elim (squares xa xb) [
      | inr h ↦ omega (arith, h, squares_le ya yb)
      | inl e ↦ elim (squares ya yb) [ inl f ↦ absurd (ne e f) | inr h ↦ omega (arith, h, squares_le xa xb) ]
    ]

pub OnRay-shared : (xa ya xb yb xc yc xd yd : ℕ) → Shared xa ya xa ya xc yc xd yd → SharedBeyond xa ya xb yb xc yc xd yd →
    OnRay xa ya xb yb xc yc ⊎ OnRay xa ya xb yb xd yd
OnRay-shared xa ya xb yb xc yc xd yd s b =
    let w = b.shared in
    let line = on_line xa ya xc yc xd yd (s.m + s.i) s.n s.j s.positive s.same (omega (arith, s.on_x)) (omega (arith, s.on_y)) in
    elim (cases_lt 0 w.i) [
      | inr none ↦
          let zero_i : w.i ≡ 0 = omega arith in
          absurd (b.beyond (omega (arith, ap (λ t. t * xa) zero_i, ap (λ t. t * xb) zero_i)) (omega (arith, ap (λ t. t * ya) zero_i, ap (λ t. t * yb) zero_i)))
      | inl pos ↦
          let way = apart_way xa ya xb yb (λ e f. b.beyond (ap (λ t. w.i * t) e) (ap (λ t. w.i * t) f)) in
          elim (cases_lt (behind xa ya xb yb xc yc) (ahead xa ya xb yb xc yc)) [
            | inl h ↦ inl (record {
              line = ends_on_line xa ya xb yb xc yc xd yd w.m w.i w.n w.j pos w.same w.on_x w.on_y line;
              way = h;
            })
            | inr h ↦ elim (cases_lt (behind xa ya xb yb xd yd) (ahead xa ya xb yb xd yd)) [
              | inl k ↦ inr (record {
                line =
                    ends_on_line xa ya xb yb xd yd xc yc w.m w.i w.j w.n pos (omega (arith, w.same)) (omega (arith, w.on_x)) (omega (arith, w.on_y)) (omega (arith, line));
                way = k;
              })
              | inr k ↦ absurd (outweighed w.n w.j w.i _ _ _ _ _ _ pos way h k
                  (scalar_balance xa ya xb yb xc yc xd yd w.m w.i w.n w.j w.same w.on_x w.on_y))
            ]
          ]
    ]
