-- Laws of the two orders and of the two numbers, for all sides of planar st-graphs.
-- Letters: g sides, u and v vertices, a, b and c members of an order, n how many, k a number.
--   IsStrictOrder M R      R is a strict total order of the members
--   IsNumbering n R        R gives each vertex below n one number: all numbers below n, each to one vertex
--   OrdersLaw              'before or left of' and 'before or right of' are strict total orders of vertices and edges
--   NumberingsLaw          X and Y are numberings of the vertices
--   ReachingLaw            a vertex reaches another exactly where both its numbers are at most the other's
use Rattle.std.specs.Prelude.{ℕ, ◌≡◌, ◌≢◌, ◌<◌, ◌≤◌, ◌⊎◌, ◌↔◌}
use Rattle.st_ids.specs.Walks.{Reaches}
use Rattle.st_order.specs.Orders.{BeforeOrLeft, BeforeOrRight, IsX, IsY}
use Rattle.st_sides.specs.Objects.{Object, IsObject, LeftOf}
use Rattle.st_sides.specs.Sides.{SidesValue, IsSides, primal}

-- Of two different members exactly one is before the other, none is before itself, and what is before something that is
-- before a third is before the third.
pub record IsStrictOrder {A : Type 0} (Member : A → Type 0) (R : A → A → Type 0) : Type 0 where
  pub irreflexive : (a : A) → R a a → ⊥
  pub transitive : (a b c : A) → Member a → Member b → Member c → R a b → R b c → R a c
  pub total : (a b : A) → Member a → Member b → a ≢ b → R a b ⊎ R b a

-- Each vertex below n has exactly one number; these are the numbers below n, each of one vertex.
pub record IsNumbering (n : ℕ) (R : ℕ → ℕ → Type 0) : Type 0 where
  pub some : (v : ℕ) → v < n → (k : ℕ) × R v k
  pub one : (v j k : ℕ) → R v j → R v k → j ≡ k
  pub below : (v k : ℕ) → v < n → R v k → k < n
  pub different : (u v k : ℕ) → u < n → v < n → R u k → R v k → u ≡ v
  pub onto : (k : ℕ) → k < n → (v : ℕ) × (v < n) × R v k

-- Both are strict total orders of all vertices and edges, and to be left of is transitive.
pub record AreOrders (g : SidesValue) : Type 0 where
  pub left_transitive : (o p q : Object) → IsObject g o → IsObject g p → IsObject g q → LeftOf g o p → LeftOf g p q → LeftOf g o q
  pub x_order : IsStrictOrder (IsObject g) (BeforeOrLeft g)
  pub y_order : IsStrictOrder (IsObject g) (BeforeOrRight g)

abbrev pub OrdersLaw : Type 0
OrdersLaw = (g : SidesValue) → IsSides g → AreOrders g

-- both are numberings of the vertices
pub record AreNumbered (g : SidesValue) : Type 0 where
  pub x_numbers : IsNumbering g.vertices (IsX g)
  pub y_numbers : IsNumbering g.vertices (IsY g)

abbrev pub NumberingsLaw : Type 0
NumberingsLaw = (g : SidesValue) → IsSides g → AreNumbered g

-- reaching is two comparisons
abbrev pub ReachingLaw : Type 0
ReachingLaw = (g : SidesValue) → IsSides g → (u v : ℕ) → u < g.vertices → v < g.vertices
    → (xu yu xv yv : ℕ) → IsX g u xu → IsY g u yu → IsX g v xv → IsY g v yv
    → Reaches (primal g) u v ↔ ((xu ≤ xv) × (yu ≤ yv))
