-- Many lists in one block: their elements one after another, and the place where each list ends.
use Rattle.std.specs.Prelude.{ℕ, List, [], ◌∷◌, ◌≡◌, ◌≤◌, slice_range}

-- the lists, the first of which begins at `from`, and each other where the one before it ends
abbrev pub pieces : ℕ → List ℕ → List ℕ → List (List ℕ)
pieces from [] xs = []
pieces from (e ∷ es) xs = slice_range xs from e ∷ pieces e es xs

-- none ends before it begins, and the last ends at n
abbrev pub ArePieces : ℕ → List ℕ → ℕ → Type 0
ArePieces from [] n = from ≡ n
ArePieces from (e ∷ es) n = (from ≤ e) × ArePieces e es n
