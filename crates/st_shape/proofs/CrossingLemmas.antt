-- Two climbing segments, and their common ends.
use Rattle.std.proofs.Common.{◌≡◌, ℕ, ◌+◌, ◌*◌, ◌<◌, pos, nat_abs, ap, ap₂, sym, subst, refl, arith}
use Rattle.st_shape.specs.declared.point.Segment.{Segment}
use Rattle.st_shape.specs.Meeting.{IsAt, LiesOn, Meet, Ratio}
use Rattle.st_shape.proofs.Climbing.{inner_not_a, inner_not_b, one_point, Share-turned}
use Rattle.st_shape.proofs.MeetingLemmas.{coordinate_is, mean_is}
use Rattle.st_shape.specs.Steps.{AreOnGrid, Climbs, MeetApart, MeetBeyond, place}

-- the middle of a climbing segment is none of its ends
abbrev middle : Segment → Ratio
middle s = record {
  x = pos (1 * nat_abs s.a.x + 1 * nat_abs s.b.x);
  y = pos (1 * nat_abs s.a.y + 1 * nat_abs s.b.y);
  q = 2;
}

abbrev middle_on : (s : Segment) → AreOnGrid s → LiesOn s (middle s)
middle_on s g =
    record {
      i = 1;
      within = omega arith;
      x_is = sym (mean_is s.a.x s.b.x _ _ 2 1 1 (coordinate_is s.a.x g.a.x_low) (coordinate_is s.b.x g.b.x_low) refl);
      y_is = sym (mean_is s.a.y s.b.y _ _ 2 1 1 (coordinate_is s.a.y g.a.y_low) (coordinate_is s.b.y g.b.y_low) refl);
    }

-- a segment and itself
pub MeetApart-same : (s t : Segment) (AA AB BA BB : Type 0) → AreOnGrid s → Climbs s → s ≡ t → MeetApart s t AA AB BA BB
MeetApart-same s t AA AB BA BB g r e =
    subst (λ u. MeetApart s u AA AB BA BB) e
    (record {
      p = middle s;
      shared = record { divides = omega arith; first = middle_on s g; second = middle_on s g };
      not_aa = λ f at. inner_not_a s (middle s) g r (middle_on s g) (omega arith) at.0;
      not_ab = λ f at. inner_not_a s (middle s) g r (middle_on s g) (omega arith) at.0;
      not_ba = λ f at. inner_not_b s (middle s) g r (middle_on s g) (omega arith) at.0;
      not_bb = λ f at. inner_not_b s (middle s) g r (middle_on s g) (omega arith) at.0;
    })

module _ (s t : Segment) (AA AB BA BB : Type 0) (gs : AreOnGrid s) (gt : AreOnGrid t) (rs : Climbs s) (rt : Climbs t) where
  same_from_ends : s.a ≡ t.a → s.b ≡ t.b → s ≡ t
  same_from_ends e f = ap₂ (λ a b. let u : Segment = record { a = a; b = b } in u) e f

  -- neither leads on from the other and back
  no_ring : s.a ≡ t.b → s.b ≡ t.a → ⊥
  no_ring e f =
      ring (place s.a) (place s.b) (place t.a) (place t.b) rs.later rt.later (ap place e) (ap place f)
    where
      ring : (a b c d : ℕ) → a < b → c < d → a ≡ d → b ≡ c → ⊥
      ring a b c d h k u v = omega arith

  -- both begin at one point
  pub MeetApart-aa : s.a ≡ t.a → (s ≡ t → ⊥) → MeetBeyond s t → MeetApart s t AA AB BA BB
  MeetApart-aa e ne (p, h, beyond) =
      record {
        p = p;
        shared = h;
        not_aa = λ f at. beyond at.0;
        not_ab = λ f at. beyond at.0;
        not_ba = λ f at. beyond (subst (IsAt p) (sym e) at.1);
        not_bb = λ f at. ne (same_from_ends e (one_point p s.b t.b gs.b gt.b h.divides at.0 at.1));
      }

  pub MeetBeyond-aa : AA → s.a ≡ t.a → MeetApart s t AA AB BA BB → MeetBeyond s t
  MeetBeyond-aa f e h = (h.p, h.shared, λ at. h.not_aa f (at, subst (IsAt h.p) e at))

  -- s begins where t ends
  pub MeetApart-ab : s.a ≡ t.b → MeetBeyond s t → MeetApart s t AA AB BA BB
  MeetApart-ab e (p, h, beyond) =
      record {
        p = p;
        shared = h;
        not_aa = λ f at. beyond at.0;
        not_ab = λ f at. beyond at.0;
        not_ba = λ f at. no_ring e (one_point p s.b t.a gs.b gt.a h.divides at.0 at.1);
        not_bb = λ f at. beyond (subst (IsAt p) (sym e) at.1);
      }

  pub MeetBeyond-ab : AB → s.a ≡ t.b → MeetApart s t AA AB BA BB → MeetBeyond s t
  MeetBeyond-ab f e h = (h.p, h.shared, λ at. h.not_ab f (at, subst (IsAt h.p) e at))

  -- s ends where t begins
  pub MeetApart-ba : s.b ≡ t.a → MeetBeyond (record { a = s.b; b = s.a }) t → MeetApart s t AA AB BA BB
  MeetApart-ba e (p, h, beyond) =
      record {
        p = p;
        shared = Share-turned s.a s.b t p gs.a gs.b h;
        not_aa = λ f at. beyond (subst (IsAt p) (sym e) at.1);
        not_ab = λ f at. no_ring (one_point p s.a t.b gs.a gt.b h.divides at.0 at.1) e;
        not_ba = λ f at. beyond at.0;
        not_bb = λ f at. beyond at.0;
      }

  pub MeetBeyond-ba : BA → s.b ≡ t.a → MeetApart s t AA AB BA BB → MeetBeyond (record { a = s.b; b = s.a }) t
  MeetBeyond-ba f e h = (h.p, Share-turned s.b s.a t h.p gs.b gs.a h.shared, λ at. h.not_ba f (at, subst (IsAt h.p) e at))

  -- both end at one point
  pub MeetApart-bb : s.b ≡ t.b → (s ≡ t → ⊥) → MeetBeyond (record { a = s.b; b = s.a }) t → MeetApart s t AA AB BA BB
  MeetApart-bb e ne (p, h, beyond) =
      record {
        p = p;
        shared = Share-turned s.a s.b t p gs.a gs.b h;
        not_aa = λ f at. ne (same_from_ends (one_point p s.a t.a gs.a gt.a h.divides at.0 at.1) e);
        not_ab = λ f at. beyond (subst (IsAt p) (sym e) at.1);
        not_ba = λ f at. beyond at.0;
        not_bb = λ f at. beyond at.0;
      }

  pub MeetBeyond-bb : BB → s.b ≡ t.b → MeetApart s t AA AB BA BB → MeetBeyond (record { a = s.b; b = s.a }) t
  MeetBeyond-bb f e h = (h.p, Share-turned s.b s.a t h.p gs.b gs.a h.shared, λ at. h.not_bb f (at, subst (IsAt h.p) e at))

  -- no common end that counts
  pub MeetApart-none : (AA → s.a ≡ t.a → ⊥) → (AB → s.a ≡ t.b → ⊥) → (BA → s.b ≡ t.a → ⊥) → (BB → s.b ≡ t.b → ⊥) →
      Meet s t → MeetApart s t AA AB BA BB
  MeetApart-none f g k m (p, h) =
      record {
        p = p;
        shared = h;
        not_aa = λ x at. f x (one_point p s.a t.a gs.a gt.a h.divides at.0 at.1);
        not_ab = λ x at. g x (one_point p s.a t.b gs.a gt.b h.divides at.0 at.1);
        not_ba = λ x at. k x (one_point p s.b t.a gs.b gt.a h.divides at.0 at.1);
        not_bb = λ x at. m x (one_point p s.b t.b gs.b gt.b h.divides at.0 at.1);
      }

pub Meet-apart : (s t : Segment) (AA AB BA BB : Type 0) → MeetApart s t AA AB BA BB → Meet s t
Meet-apart s t AA AB BA BB h = (h.p, h.shared)

pub same_ends : (s t : Segment) → (s.a ≡ t.a) × (s.b ≡ t.b) → s ≡ t
same_ends s t e = ap₂ (λ a b. let u : Segment = record { a = a; b = b } in u) e.0 e.1

pub ends_of_same : (s t : Segment) → s ≡ t → (s.a ≡ t.a) × (s.b ≡ t.b)
ends_of_same s t e = (ap (λ (u : Segment). u.a) e, ap (λ (u : Segment). u.b) e)
