-- Names that are counted from a first one differ. Only tests have such names.
use Rattle.std.proofs.Common.{◌≡◌, ◌+◌, ℕ, ℤ, pos, List, [], ◌∷◌, ◌++◌, length, slice_get, inl, inr, ap, sym, ◌∙◌, subst, arith, Some}
use Rattle.st_session.specs.States.{HasEachOnce}
use Rattle.st_session.proofs.NameLemmas.{push_cases}

-- each name is as far behind the first as its place
abbrev pub AreCounted : ℕ → List ℤ → Type 0
AreCounted first names = (i : ℕ) (name : ℤ) → slice_get names i ≡ Some name → name ≡ pos (first + i)

pub counted_push : (first i : ℕ) (names names' : List ℤ) (name : ℤ) → AreCounted first names → length names ≡ i → name ≡ pos (first + i) → names' ≡ names ++ name ∷ [] → AreCounted first names'
counted_push first i names names' name C size is e j x there = elim (push_cases names name j x (subst (λ (z : List ℤ). slice_get z j ≡ Some x) e there)) [
  | inl p ↦ C j x p
  | inr p ↦ p.1 ∙ is ∙ ap (λ z. pos (first + z)) (sym (p.0 ∙ size))
]

same_number : (a b : ℕ) → pos a ≡ pos b → a ≡ b
same_number a b q = cc

pub counted_once : (first : ℕ) (names : List ℤ) → AreCounted first names → HasEachOnce names
counted_once first names C i j name a b =
    let q : first + i ≡ first + j = same_number (first + i) (first + j) (sym (C i name a) ∙ C j name b) in
    omega arith
