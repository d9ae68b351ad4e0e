-- Names, and the numbers that stand for them: a vertex or an edge has the place of its name in the list of names.
--   is_among names name    the name is in the list
--   number_of names name   the number of the first that has the name
--   positions n            the names 0, 1 and on, so many
--   by_position m name     the same among the first m positions, by the size of the name
--   names_from f n         n names from f on, each one more than the one before
--   by_difference f n j    the number of the name j among these
--   AreDifferent names     no name stands twice
use Rattle.std.specs.Prelude.{◌≡◌, ℕ, zero, suc, ◌+◌, ◌-◌, ℤ, pos, Bool, ◌&&◌, List, [], ◌∷◌, ◌++◌, Option, None, Some, position, slice_get, if◌then◌else◌, int_le, int_lt, nat_le, nat_lt, nat_abs}
use Rattle.std.specs.Ordering.{int_eq}
use Rattle.std.specs.List.{list_any}

unfoldable pub is_among : List ℤ → ℤ → Bool
is_among names name = list_any (int_eq name) names

-- the number of the first that has the name
unfoldable pub number_of : List ℤ → ℤ → Option ℕ
number_of names name = position (int_eq name) names

-- the names 0, 1 and on, so many
unfoldable pub positions : ℕ → List ℤ
positions zero = []
positions (suc n) = positions n ++ pos n ∷ []

-- the number of a name among the first m positions, by its size
unfoldable pub by_position : ℕ → ℤ → Option ℕ
by_position m name = if int_le (pos 0) name && int_lt name (pos m) then Some (nat_abs name) else None

-- n names from f on, each one more than the one before
unfoldable pub names_from : ℕ → ℕ → List ℤ
names_from f zero = []
names_from f (suc n) = names_from f n ++ pos (f + n) ∷ []

-- the number of the name j among n names from f on
unfoldable pub by_difference : ℕ → ℕ → ℕ → Option ℕ
by_difference f n j = if nat_le f j && nat_lt (j - f) n then Some (j - f) else None

-- no name stands twice
abbrev pub AreDifferent : List ℤ → Type 0
AreDifferent names = (u v : ℕ) (name : ℤ) → slice_get names u ≡ Some name → slice_get names v ≡ Some name → u ≡ v
