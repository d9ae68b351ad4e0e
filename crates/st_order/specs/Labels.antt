-- The two numbers of each vertex, as lists.
-- Letters: g sides, l labels, xs a list, u and v vertices.
--   AreX g xs, AreY g xs     the list has one entry for each vertex, its number X or its number Y
--   AreSideNumbers b g xs    AreX where b is true, AreY where it is false
--   AreLabels g l            the two lists of l are these
--   AreAtMost l u v          both entries of u are at most those of v
use Rattle.std.specs.Prelude.{ℕ, List, Bool, true, false, ◌≡◌, ◌<◌, ◌≤◌, length, slice_index_or}
use Rattle.st_order.specs.declared.table.Labels.{Labels}
use Rattle.st_order.specs.Orders.{IsX, IsY}
use Rattle.st_sides.specs.Sides.{SidesValue}

-- The entry of each vertex is the number of others that reach it or are left of it.
pub record AreX (g : SidesValue) (xs : List ℕ) : Type 0 where
  pub size : length xs ≡ g.vertices
  pub each : (v : ℕ) → v < g.vertices → IsX g v (slice_index_or xs v 0)

-- The entry of each vertex is the number of others that reach it or that it is left of.
pub record AreY (g : SidesValue) (xs : List ℕ) : Type 0 where
  pub size : length xs ≡ g.vertices
  pub each : (v : ℕ) → v < g.vertices → IsY g v (slice_index_or xs v 0)

-- X by edges taken from the left, Y by edges taken from the right
abbrev pub AreSideNumbers : Bool → SidesValue → List ℕ → Type 0
AreSideNumbers true g xs = AreX g xs
AreSideNumbers false g xs = AreY g xs

-- Both lists have one entry for each vertex, and these are its numbers.
pub record AreLabels (g : SidesValue) (l : Labels) : Type 0 where
  pub x : AreX g l.x
  pub y : AreY g l.y

-- both entries of u are at most those of v
abbrev pub AreAtMost : Labels → ℕ → ℕ → Type 0
AreAtMost l u v = (slice_index_or l.x u 0 ≤ slice_index_or l.x v 0) × (slice_index_or l.y u 0 ≤ slice_index_or l.y v 0)
