-- From the places of a list to its elements.
use Rattle.std.proofs.Common.{ℕ, zero, suc, List, [], ◌∷◌, length, get_or, ◌≡◌, ◌≢◌, ◌<◌, refl, sym, ◌∙◌, arith}
use Rattle.std.specs.List.{Contains}
use Rattle.st_ids.specs.Lists.{In, here, there, NoRepeat}

pub Contains-from_In : {x : ℕ} {xs : List ℕ} → In x xs → Contains xs x
Contains-from_In (here q) = (0, omega arith, sym q)
Contains-from_In {x} (there {y} {ys} i) = let h = Contains-from_In i in (suc h.0, (let k : h.0 < length ys = h.1 in omega arith), h.2)

pub NoRepeat-from_places : (xs : List ℕ) → ((i j : ℕ) → i < j → j < length xs → get_or xs i 0 ≢ get_or xs j 0) → NoRepeat xs
NoRepeat-from_places [] h = tt
NoRepeat-from_places (x ∷ xs) h = (
  (λ i. let c = Contains-from_In i in h 0 (suc c.0) (omega arith) (let k : c.0 < length xs = c.1 in omega arith) (sym (default xs c.0 c.1 ∙ c.2))),
  NoRepeat-from_places xs (λ i j l m. h (suc i) (suc j) (omega arith) (omega arith)),
)
  where
    default : (xs : List ℕ) (k : ℕ) → k < length xs → get_or xs k 0 ≡ get_or xs k x
    default [] k l = absurd (omega arith)
    default (y ∷ ys) zero l = refl
    default (y ∷ ys) (suc k) l = default ys k (omega arith)
