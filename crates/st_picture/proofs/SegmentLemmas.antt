-- The segments of a line of two, three or four points.
use Rattle.std.proofs.Common.{ℕ, zero, suc, List, [], ◌∷◌, ◌≡◌, ◌+◌, ◌⊎◌, inl, inr, sym, ap, ◌∙◌, arith, Some, None, slice_get}
use Rattle.st_shape.specs.declared.point.Point.{Point}
use Rattle.st_shape.specs.declared.point.Segment.{Segment}
use Rattle.st_shape.specs.Clean.{IsSegmentOf}
use Rattle.st_picture.proofs.NaturalLemmas.{segment}

some_point : (x y : Point) → Some x ≡ Some y → x ≡ y
some_point x y e = cc e

none_point : (y : Point) → None ≡ Some y → ⊥
none_point y e = cc e

past : (a : Point) (k : ℕ) (s : Point) → slice_get (a ∷ []) (suc k) ≡ Some s → ⊥
past a k s q = none_point s q

pub none_of_one : (a : Point) (s : Segment) → IsSegmentOf (a ∷ []) s → ⊥
none_of_one a s S = (let q : S.k + 1 ≡ suc S.k = omega arith in past a S.k s.b (sym (ap (slice_get (a ∷ [])) q) ∙ S.b_is))

same_segment : (a b : Point) (s : Segment) → a ≡ s.a → b ≡ s.b → s ≡ segment a b
same_segment a b s p q = sym (ap (λ z. segment z b) p ∙ ap (λ z. segment s.a z) q)

pub first_or_rest : (a b : Point) (ps : List Point) (s : Segment) → IsSegmentOf (a ∷ b ∷ ps) s → (s ≡ segment a b) ⊎ IsSegmentOf (b ∷ ps) s
first_or_rest a b ps s S = go S.k S.a_is (let q : S.k + 1 ≡ suc S.k = omega arith in sym (ap (slice_get (a ∷ b ∷ ps)) q) ∙ S.b_is)
  where
    go : (k : ℕ) → slice_get (a ∷ b ∷ ps) k ≡ Some s.a → slice_get (a ∷ b ∷ ps) (suc k) ≡ Some s.b → (s ≡ segment a b) ⊎ IsSegmentOf (b ∷ ps) s
    go zero p q = inl (same_segment a b s (some_point a s.a p) (some_point b s.b q))
    go (suc k) p q = inr (record { k = k; a_is = p; b_is = (let e : k + 1 ≡ suc k = omega arith in ap (slice_get (b ∷ ps)) e ∙ q) })

pub of_two : (a b : Point) (s : Segment) → IsSegmentOf (a ∷ b ∷ []) s → s ≡ segment a b
of_two a b s S = elim (first_or_rest a b [] s S) [ inl q ↦ q | inr R ↦ absurd (none_of_one b s R) ]

pub of_three : (a b c : Point) (s : Segment) → IsSegmentOf (a ∷ b ∷ c ∷ []) s → (s ≡ segment a b) ⊎ (s ≡ segment b c)
of_three a b c s S = elim (first_or_rest a b (c ∷ []) s S) [ inl q ↦ inl q | inr R ↦ inr (of_two b c s R) ]

pub of_four : (a b c d : Point) (s : Segment) → IsSegmentOf (a ∷ b ∷ c ∷ d ∷ []) s → (s ≡ segment a b) ⊎ ((s ≡ segment b c) ⊎ (s ≡ segment c d))
of_four a b c d s S = elim (first_or_rest a b (c ∷ d ∷ []) s S) [ inl q ↦ inl q | inr R ↦ inr (of_three b c d s R) ]
