-- Points that two lines share.
use Rattle.std.proofs.Common.{◌≡◌, ℕ, ◌+◌, ◌-◌, inl, inr, List, length, slice_get, Some, ℤ, ap, sym, refl, subst, ◌∙◌}
use Rattle.st_shape.specs.declared.point.Point.{Point}
use Rattle.st_shape.specs.declared.point.Segment.{Segment}
use Rattle.st_shape.specs.Clean.{CrossAway, IsSegmentOf}
use Rattle.st_shape.specs.Meeting.{IsAt}
use Rattle.st_shape.proofs.Climbing.{at_first, at_last, one_point, segment_on_grid}
use Rattle.st_shape.specs.Steps.{CrossBeside, IsClimbingLine, MeetApart}

at_place : (points : List Point) (i j : ℕ) (v : Point) → i ≡ j → slice_get points i ≡ Some v → slice_get points j ≡ Some v
at_place points i j v e f = ap (slice_get points) (sym e) ∙ f

moved : (points : List Point) (i j : ℕ) (v w : Point) → i ≡ j → slice_get points i ≡ Some v → v ≡ w → slice_get points j ≡ Some w
moved points i j v w e f g = ap (slice_get points) (sym e) ∙ f ∙ ap Some g

module _ (points points' : List Point) (TT TH HT HH : Type 0) where
  -- two segments share a point that is no end of both lines that counts
  abbrev pub Apart : (s t : Segment) (h : IsSegmentOf points s) (g : IsSegmentOf points' t) → Type 0
  Apart s t h g =
      MeetApart s t (TT × (h.k ≡ 0) × (g.k ≡ 0)) (TH × (h.k ≡ 0) × (g.k + 1 ≡ length points' - 1))
      (HT × (h.k + 1 ≡ length points - 1) × (g.k ≡ 0)) (HH × (h.k + 1 ≡ length points - 1) × (g.k + 1 ≡ length points' - 1))

  module _ (line : IsClimbingLine points) (line' : IsClimbingLine points') where
    pub Cross-apart : (s t : Segment) (h : IsSegmentOf points s) (g : IsSegmentOf points' t) → Apart s t h g →
        CrossBeside points points' TT TH HT HH
    Cross-apart s t h g a =
        record {
          p = a.p;
          s = s;
          t = t;
          first = h;
          second = g;
          shared = a.shared;
          away = λ v end at.
              let first = at_first points line s h a.p a.shared.divides a.shared.first v at in
              let last = at_last points line s h a.p a.shared.divides a.shared.first v at in
              let first' = at_first points' line' t g a.p a.shared.divides a.shared.second v at in
              let last' = at_last points' line' t g a.p a.shared.divides a.shared.second v at in
              elim end [
                | inl u ↦ elim u [
                  | inl w ↦
                      let e = first w.0 in
                      let f = first' w.1 in
                      a.not_aa (w.2, e.0, f.0) (subst (IsAt a.p) (sym e.1) at, subst (IsAt a.p) (sym f.1) at)
                  | inr w ↦
                      let e = first w.0 in
                      let f = last' w.1 in
                      a.not_ab (w.2, e.0, f.0) (subst (IsAt a.p) (sym e.1) at, subst (IsAt a.p) (sym f.1) at)
                ]
                | inr u ↦ elim u [
                  | inl w ↦
                      let e = last w.0 in
                      let f = first' w.1 in
                      a.not_ba (w.2, e.0, f.0) (subst (IsAt a.p) (sym e.1) at, subst (IsAt a.p) (sym f.1) at)
                  | inr w ↦
                      let e = last w.0 in
                      let f = last' w.1 in
                      a.not_bb (w.2, e.0, f.0) (subst (IsAt a.p) (sym e.1) at, subst (IsAt a.p) (sym f.1) at)
                ]
              ];
        }

    -- and the other way round
    pub Apart-cross : (c : CrossBeside points points' TT TH HT HH) → Apart c.s c.t c.first c.second
    Apart-cross c =
        let g = segment_on_grid points line c.s c.first in
        let g' = segment_on_grid points' line' c.t c.second in
        record {
          p = c.p;
          shared = c.shared;
          not_aa = λ u at.
              let e = one_point c.p c.t.a c.s.a g'.a g.a c.shared.divides at.1 at.0 in
              c.away c.s.a (inl (inl (at_place points _ _ _ u.1 c.first.a_is, moved points' _ _ _ _ u.2 c.second.a_is e, u.0))) at.0;
          not_ab = λ u at.
              let e = one_point c.p c.t.b c.s.a g'.b g.a c.shared.divides at.1 at.0 in
              c.away c.s.a (inl (inr (at_place points _ _ _ u.1 c.first.a_is, moved points' _ _ _ _ u.2 c.second.b_is e, u.0))) at.0;
          not_ba = λ u at.
              let e = one_point c.p c.t.a c.s.b g'.a g.b c.shared.divides at.1 at.0 in
              c.away c.s.b (inr (inl (at_place points _ _ _ u.1 c.first.b_is, moved points' _ _ _ _ u.2 c.second.a_is e, u.0))) at.0;
          not_bb = λ u at.
              let e = one_point c.p c.t.b c.s.b g'.b g.b c.shared.divides at.1 at.0 in
              c.away c.s.b (inr (inr (at_place points _ _ _ u.1 c.first.b_is, moved points' _ _ _ _ u.2 c.second.b_is e, u.0))) at.0;
        }

pub MeetApart-flags : (s t : Segment) (A B C D A' B' C' D' : Type 0) → (A' → A) → (B' → B) → (C' → C) → (D' → D) →
    MeetApart s t A B C D → MeetApart s t A' B' C' D'
MeetApart-flags s t A B C D A' B' C' D' f g h k m =
    record {
      p = m.p;
      shared = m.shared;
      not_aa = λ a. m.not_aa (f a);
      not_ab = λ a. m.not_ab (g a);
      not_ba = λ a. m.not_ba (h a);
      not_bb = λ a. m.not_bb (k a);
    }

pub MeetApart-moved : (s s' t t' : Segment) (A B C D : Type 0) → s ≡ s' → t ≡ t' → MeetApart s t A B C D → MeetApart s' t' A B C D
MeetApart-moved s s' t t' A B C D e f m = subst (λ u. MeetApart s' u A B C D) f (subst (λ u. MeetApart u t A B C D) e m)

-- the same facts count for both
pub CrossBeside-flags : (points points' : List Point) (A B C D A' B' C' D' : Type 0) → (A' → A) → (B' → B) → (C' → C) → (D' → D) →
    CrossBeside points points' A B C D → CrossBeside points points' A' B' C' D'
CrossBeside-flags points points' A B C D A' B' C' D' f g h k c =
    record {
      p = c.p;
      s = c.s;
      t = c.t;
      first = c.first;
      second = c.second;
      shared = c.shared;
      away = λ v end.
          elim end [
            | inl u ↦ elim u [ inl w ↦ c.away v (inl (inl (w.0, w.1, f w.2))) | inr w ↦ c.away v (inl (inr (w.0, w.1, g w.2))) ]
            | inr u ↦ elim u [ inl w ↦ c.away v (inr (inl (w.0, w.1, h w.2))) | inr w ↦ c.away v (inr (inr (w.0, w.1, k w.2))) ]
          ];
    }

module _ (points points' : List Point) (tail head tail' head' : ℤ) where
  pub Away-beside : CrossBeside points points' (tail ≡ tail') (tail ≡ head') (head ≡ tail') (head ≡ head') → CrossAway tail head points tail' head' points'
  Away-beside c =
      record {
        p = c.p;
        s = c.s;
        t = c.t;
        first = c.first;
        second = c.second;
        shared = c.shared;
        away = λ name v e f.
            elim e [
              | inl u ↦ elim f [
                | inl w ↦ c.away v (inl (inl (u.0, w.0, u.1 ∙ sym w.1)))
                | inr w ↦ c.away v (inl (inr (u.0, w.0, u.1 ∙ sym w.1)))
              ]
              | inr u ↦ elim f [
                | inl w ↦ c.away v (inr (inl (u.0, w.0, u.1 ∙ sym w.1)))
                | inr w ↦ c.away v (inr (inr (u.0, w.0, u.1 ∙ sym w.1)))
              ]
            ];
      }

  pub Beside-away : CrossAway tail head points tail' head' points' → CrossBeside points points' (tail ≡ tail') (tail ≡ head') (head ≡ tail') (head ≡ head')
  Beside-away c =
      record {
        p = c.p;
        s = c.s;
        t = c.t;
        first = c.first;
        second = c.second;
        shared = c.shared;
        away = λ v end.
            elim end [
              | inl u ↦ elim u [
                | inl w ↦ c.away tail v (inl (w.0, refl)) (inl (w.1, sym w.2))
                | inr w ↦ c.away tail v (inl (w.0, refl)) (inr (w.1, sym w.2))
              ]
              | inr u ↦ elim u [
                | inl w ↦ c.away head v (inr (w.0, refl)) (inl (w.1, sym w.2))
                | inr w ↦ c.away head v (inr (w.0, refl)) (inr (w.1, sym w.2))
              ]
            ];
      }
