-- Points that a line shares with a figure.
use Rattle.std.proofs.Common.{◌≡◌, ℕ, ◌+◌, ◌-◌, ◌*◌, ◌<◌, ◌≤◌, inl, inr, List, length, get_or, slice_get, ap, sym, subst, ◌∙◌, refl, arith, mul-le-mul}
use Rattle.st_shape.specs.declared.point.Point.{Point}
use Rattle.st_shape.specs.declared.point.Segment.{Segment}
use Rattle.st_shape.specs.Clean.{IsEnd, IsFaultyAt, IsSegmentOf, point_of, SharesInside}
use Rattle.st_shape.specs.Meeting.{IsAt, Meet}
use Rattle.st_shape.proofs.Climbing.{at_first, at_last, inner_not_a, inner_not_b}
use Rattle.st_shape.proofs.MeetingLemmas.{Meet-Shared, Shared-Meet}
use Rattle.st_shape.proofs.Plane.{Shared}
use Rattle.st_shape.specs.Steps.{AreOnGrid, Climbs, HitsBeside, IsClimbingLine}

-- ---- a figure that has both ends of a segment has a point between them

sum_same : (q r a b c d : ℕ) → q ≡ a + b → r ≡ c + d → q * r + q * r ≡ (r * a + q * c) + (r * b + q * d)
sum_same q r a b c d e f = omega (arith, ap (λ t. t * r) e, ap (λ t. q * t) f)

sum_on : (q r n j n' j' xa xb xc xd m i m' i' : ℕ) → q ≡ m + i → r ≡ m' + i' → m * xa + i * xa ≡ n * xc + j * xd → m' * xb + i' * xb ≡ n' * xc + j' * xd →
    (q * r) * xa + (q * r) * xb ≡ (r * n + q * n') * xc + (r * j + q * j') * xd
sum_on q r n j n' j' xa xb xc xd m i m' i' e f g h =
    omega (arith, ap (λ t. t * r * xa) e, ap (λ t. q * t * xb) f, ap (λ t. r * t) g, ap (λ t. q * t) h)

abbrev halfway : (xa ya xb yb xc yc xd yd : ℕ) → Shared xa ya xa ya xc yc xd yd → Shared xb yb xb yb xc yc xd yd → Shared xa ya xb yb xc yc xd yd
halfway xa ya xb yb xc yc xd yd g h =
    record {
      m = (g.m + g.i) * (h.m + h.i);
      i = (g.m + g.i) * (h.m + h.i);
      n = (h.m + h.i) * g.n + (g.m + g.i) * h.n;
      j = (h.m + h.i) * g.j + (g.m + g.i) * h.j;
      positive = omega (arith, mul-le-mul g.positive h.positive);
      same = sum_same (g.m + g.i) (h.m + h.i) g.n g.j h.n h.j g.same h.same;
      on_x = sum_on (g.m + g.i) (h.m + h.i) g.n g.j h.n h.j xa xb xc xd g.m g.i h.m h.i refl refl g.on_x h.on_x;
      on_y = sum_on (g.m + g.i) (h.m + h.i) g.n g.j h.n h.j ya yb yc yd g.m g.i h.m h.i refl refl g.on_y h.on_y;
    }

pub HitsBeside-both : (figure s : Segment) (A B : Type 0) → AreOnGrid figure → AreOnGrid s → Climbs s →
    Meet (point_of s.a) figure → Meet (point_of s.b) figure → HitsBeside figure s.a s.b A B
HitsBeside-both figure s A B gf gs c ma mb =
    let g = Shared-Meet (point_of s.a) figure gs.a gs.a gf.a gf.b ma in
    let h = Shared-Meet (point_of s.b) figure gs.b gs.b gf.a gf.b mb in
    let w = halfway _ _ _ _ _ _ _ _ g h in
    let found = Meet-Shared s figure gs.a gs.b gf.a gf.b w in
    let some : 1 ≤ w.m = mul-le-mul g.positive h.positive in
    record {
      p = found.0;
      shared = found.1;
      not_from = λ a. inner_not_a s found.0 gs c found.1.first some;
      not_to = λ b. inner_not_b s found.0 gs c found.1.first (less w.m some);
    }
  where
    less : (m : ℕ) → 1 ≤ m → m < m + m
    less m h = omega arith

-- ---- a segment of a line, and the line

module _ (figure : Segment) (points : List Point) (line : IsClimbingLine points) (First Last : Type 0) where
  -- a shared point of one segment is a shared point of the line
  pub inside_from : (s : Segment) (seg : IsSegmentOf points s) →
      HitsBeside figure s.a s.b (First × (seg.k ≡ 0)) (Last × (seg.k + 1 ≡ length points - 1)) → SharesInside First Last figure points
  inside_from s seg h =
      record {
        p = h.p;
        s = s;
        segment = seg;
        shared = h.shared;
        inside = λ v end at.
            elim end [
              | inl u ↦
                  let w = at_first points line s seg h.p h.shared.divides h.shared.first v at u.0 in
                  h.not_from (u.1, w.0) (subst (IsAt h.p) (sym w.1) at)
              | inr u ↦
                  let w = at_last points line s seg h.p h.shared.divides h.shared.first v at u.0 in
                  h.not_to (u.1, w.0) (subst (IsAt h.p) (sym w.1) at)
            ];
      }

  -- and the other way round
  pub hits_from : (h : SharesInside First Last figure points) →
      HitsBeside figure h.s.a h.s.b (First × (h.segment.k ≡ 0)) (Last × (h.segment.k + 1 ≡ length points - 1))
  hits_from h =
      record {
        p = h.p;
        shared = h.shared;
        not_from = λ u. h.inside h.s.a (inl (ap (slice_get points) (sym u.1) ∙ h.segment.a_is, u.0));
        not_to = λ u. h.inside h.s.b (inr (ap (slice_get points) (sym u.1) ∙ h.segment.b_is, u.0));
      }

pub HitsBeside-flags : (figure : Segment) (from to : Point) (A B C D : Type 0) → (C → A) → (D → B) → HitsBeside figure from to A B → HitsBeside figure from to C D
HitsBeside-flags figure from to A B C D f g h =
    record { p = h.p; shared = h.shared; not_from = λ c. h.not_from (f c); not_to = λ d. h.not_to (g d) }

pub off_moved : (figure : Segment) (v w : Point) → v ≡ w → (Meet (point_of w) figure → ⊥) → Meet (point_of v) figure → ⊥
off_moved figure v w e off h = off (subst (λ p. Meet (point_of p) figure) e h)

pub meets_at : (figure : Segment) (points : List Point) (d : Point) (i j : ℕ) → i ≡ j → Meet (point_of (get_or points j d)) figure → Meet (point_of (get_or points i d)) figure
meets_at figure points d i j e h = subst (λ n. Meet (point_of (get_or points n d)) figure) (sym e) h

pub HitsBeside-moved : (figure s s' : Segment) (A B : Type 0) → s ≡ s' → HitsBeside figure s.a s.b A B → HitsBeside figure s'.a s'.b A B
HitsBeside-moved figure s s' A B e h = subst (λ (u : Segment). HitsBeside figure u.a u.b A B) e h

IsEnd-flags : (points : List Point) (v : Point) (A B C D : Type 0) → (A → C) → (B → D) → IsEnd A B points v → IsEnd C D points v
IsEnd-flags points v A B C D f g end = elim end [ inl u ↦ inl (u.0, f u.1) | inr u ↦ inr (u.0, g u.1) ]

-- the same facts count for both
pub IsFaultyAt-flags : (figure : Segment) (points : List Point) (A B C D : Type 0) → (A → C) → (C → A) → (B → D) → (D → B) →
    IsFaultyAt A B figure points → IsFaultyAt C D figure points
IsFaultyAt-flags figure points A B C D f f' g g' h =
    elim h [
      | inl s ↦ inl (record {
        p = s.p;
        s = s.s;
        segment = s.segment;
        shared = s.shared;
        inside = λ v end. s.inside v (IsEnd-flags points v C D A B f' g' end);
      })
      | inr m ↦ inr (record { v = m.v; end = IsEnd-flags points m.v A B C D f g m.end; off = m.off })
    ]
