-- A graph has one reduced graph.
use Rattle.std.proofs.Common.{ℕ, zero, suc, ◌≡◌, List, [], ◌∷◌, ◌++◌, Option, Some, None, refl, ap, ◌∙◌}
use Rattle.st_map.specs.Embedded.{Embedded, edges}
use Rattle.st_map.specs.Split.{split}
use Rattle.st_reduce.specs.Reduced.{Splits, begin, keep, cut, OneReducedLaw}

-- each edge in turn is split or kept, as it is transitive or not
one_splits : (g : Embedded) (k : ℕ) (ds ds' : List (Option ℕ)) (h h' : Embedded) → Splits g k ds h → Splits g k ds' h' → (ds ≡ ds') × (h ≡ h')
one_splits g zero ds ds' h h' begin begin = (refl, refl)
one_splits g (suc k) _ _ h h' (keep {ds = es} a n) (keep {ds = es'} b m) =
    let r = one_splits g k es es' h h' a b in (ap (λ (z : List (Option ℕ)). z ++ None ∷ []) r.0, r.1)
one_splits g (suc k) _ _ h h' (keep a n) (cut b t) = absurd (n t)
one_splits g (suc k) _ _ h h' (cut a t) (keep b n) = absurd (n t)
one_splits g (suc k) _ _ _ _ (cut {ds = es} {h = f} a t) (cut {ds = es'} {h = f'} b t') =
    let r = one_splits g k es es' f f' a b in (
      ap (λ (z : List (Option ℕ)). z ++ Some f.vertices ∷ []) r.0 ∙ ap (λ (z : Embedded). es' ++ Some z.vertices ∷ []) r.1,
      ap (λ (z : Embedded). split z k) r.1,
    )

pub one_reduced_law : OneReducedLaw
one_reduced_law g ds ds' h h' a b = one_splits g (edges g) ds ds' h h' a b
