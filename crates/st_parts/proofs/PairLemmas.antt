-- A list of pairs, from one of them on.
use Rattle.std.proofs.Common.{◌≡◌, ℕ, suc, ◌+◌, ◌<◌, List, ◌∷◌, length, drop, slice_get, Some, ap, sym, ◌∙◌, add-one, drop-cons, get_or}
use Rattle.std.proofs.lemmas.Option.{get_or_from_slice_get, slice_get_within}

-- what stands from a place on begins with the item at that place
pub rest_at : {A : Type 0} (xs : List A) (i : ℕ) (x : A) → slice_get xs i ≡ Some x → drop i xs ≡ x ∷ drop (i + 1) xs
rest_at {A} xs i x there =
    let within : i < length xs = slice_get_within xs i x there in
    let item : get_or xs i x ≡ x = get_or_from_slice_get xs i x x there in
    drop-cons xs i x within ∙ ap (λ (y : A). y ∷ drop (suc i) xs) item ∙ ap (λ (k : ℕ). x ∷ drop k xs) (sym (add-one i))
