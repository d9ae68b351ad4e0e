-- Lines and their line feeds.
use Rattle.std.proofs.Common.{◌≡◌, ℕ, ◌≤◌, List, [], ◌∷◌, ◌++◌, length, refl, sym, ap, ◌∙◌, arith, append_assoc}
use Rattle.std.specs.List.{AllByRecursion}
use Rattle.eps_core.specs.Meaning.{IsPlain}
use Rattle.eps_core.specs.Text.{ended}

-- one way to cut a line off
pub line_one : (x y r s : List ℕ) → IsPlain x → IsPlain y → x ++ 10 ∷ r ≡ y ++ 10 ∷ s → (x ≡ y) × (r ≡ s)
line_one [] [] r s p q e = (refl, cc)
line_one [] (b ∷ y) r s p q e = absurd (q.0 (cc))
line_one (a ∷ x) [] r s p q e = absurd (p.0 (cc))
line_one (a ∷ x) (b ∷ y) r s p q e =
    let head : a ≡ b = cc in
    let tail : x ++ 10 ∷ r ≡ y ++ 10 ∷ s = cc in
    let more = line_one x y r s p.1 q.1 tail in
    (ap (λ z. z ∷ x) head ∙ ap (λ (z : List ℕ). b ∷ z) more.0, more.1)

-- the same lines, as far as both go
pub front_of : (xs ys : List (List ℕ)) (r s : List ℕ) → AllByRecursion IsPlain xs → AllByRecursion IsPlain ys → length xs ≤ length ys
    → ended xs ++ r ≡ ended ys ++ s → (zs : List (List ℕ)) × (ys ≡ xs ++ zs) × (r ≡ ended zs ++ s)
front_of [] ys r s p q h e = (ys, refl, e)
front_of (x ∷ xs) [] r s p q h e = absurd (omega arith)
front_of (x ∷ xs) (y ∷ ys) r s p q h e =
    let flat : (x ++ 10 ∷ (ended xs ++ r)) ≡ y ++ 10 ∷ (ended ys ++ s) = sym (simp append_assoc refl) ∙ e ∙ simp append_assoc refl in
    let one = line_one x y (ended xs ++ r) (ended ys ++ s) p.0 q.0 flat in
    let more = front_of xs ys r s p.1 q.1 (omega arith) one.1 in
    (more.0, ap (λ z. z ∷ ys) (sym one.0) ∙ ap (λ (z : List (List ℕ)). x ∷ z) more.1, more.2)
