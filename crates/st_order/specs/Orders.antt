-- The two orders of the vertices and edges of a planar st-graph, and the two numbers of a vertex.
-- Letters: g sides, o and p objects (vertices or edges), u and v vertices, n how many, k a number.
--   BeforeOrLeft g o p     o is another object than p, and o is before p or left of p
--   BeforeOrRight g o p    o is another object than p, and o is before p or right of p
--   Counts P n             exactly n numbers have the property P
--   IsX g v n              n other vertices reach v or are left of v
--   IsY g v n              n other vertices reach v or are right of v
-- After Di Battista, Tamassia, Tollis, Area requirement and symmetry display of planar upward drawings (1992): u reaches v
-- exactly where both numbers of u are at most those of v. The numbers are counts of sets; no traversal is spoken of.
use Rattle.std.specs.Prelude.{ℕ, List, ◌≡◌, ◌≢◌, ◌<◌, ◌⊎◌, length}
use Rattle.st_ids.specs.Lists.{Lists}
use Rattle.st_sides.specs.Objects.{Object, vertex, Before, LeftOf}
use Rattle.st_sides.specs.Sides.{SidesValue}

-- o is another object than p, and before it or left of it
abbrev pub BeforeOrLeft : SidesValue → Object → Object → Type 0
BeforeOrLeft g o p = (o ≢ p) × (Before g o p ⊎ LeftOf g o p)

-- o is another object than p, and before it or right of it
abbrev pub BeforeOrRight : SidesValue → Object → Object → Type 0
BeforeOrRight g o p = (o ≢ p) × (Before g o p ⊎ LeftOf g p o)

-- Exactly n numbers have the property: a list has these, each once, and its length is n.
pub record Counts (P : ℕ → Type 0) (n : ℕ) : Type 0 where
  pub list : List ℕ
  pub are : Lists list P
  pub is : length list ≡ n

-- the number of other vertices that reach v or are left of v
abbrev pub IsX : SidesValue → ℕ → ℕ → Type 0
IsX g v n = Counts (λ u. (u < g.vertices) × BeforeOrLeft g (vertex u) (vertex v)) n

-- the number of other vertices that reach v or that v is left of
abbrev pub IsY : SidesValue → ℕ → ℕ → Type 0
IsY g v n = Counts (λ u. (u < g.vertices) × BeforeOrRight g (vertex u) (vertex v)) n
