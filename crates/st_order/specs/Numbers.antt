-- The two numbers of each vertex as functions, with the vertex of each number.
-- Letters: g sides, n how many vertices, v a vertex, i a number; X and Y numbers of vertices, at_x and at_y vertices of
-- numbers.
--   AreNumberings n X Y at_x at_y    X and at_x, and Y and at_y, number the vertices below n and undo one another
--   HasNumbers g X Y at_x at_y       X and Y are the two numbers of each vertex
--   SomeNumbers g                    four such functions
--   OrderNumbersLaw                  all sides of planar st-graphs have them
use Rattle.std.specs.Prelude.{ℕ, ◌≡◌, ◌<◌}
use Rattle.st_order.specs.Orders.{IsX, IsY}
use Rattle.st_sides.specs.Sides.{SidesValue, IsSides}

-- X and Y number the vertices below n from 0, and the vertices with number i are at_x i and at_y i.
pub record AreNumberings (n : ℕ) (X Y at_x at_y : ℕ → ℕ) : Type 0 where
  pub x_in : (v : ℕ) → v < n → X v < n
  pub y_in : (v : ℕ) → v < n → Y v < n
  pub at_x_in : (i : ℕ) → i < n → at_x i < n
  pub at_y_in : (i : ℕ) → i < n → at_y i < n
  pub at_x_of : (v : ℕ) → v < n → at_x (X v) ≡ v
  pub at_y_of : (v : ℕ) → v < n → at_y (Y v) ≡ v
  pub x_of_at : (i : ℕ) → i < n → X (at_x i) ≡ i
  pub y_of_at : (i : ℕ) → i < n → Y (at_y i) ≡ i

-- These are the two numbers of each vertex.
pub record HasNumbers (g : SidesValue) (X Y at_x at_y : ℕ → ℕ) : Type 0 where
  pub numberings : AreNumberings g.vertices X Y at_x at_y
  pub x : (v : ℕ) → v < g.vertices → IsX g v (X v)
  pub y : (v : ℕ) → v < g.vertices → IsY g v (Y v)

-- The numbers as functions.
pub record SomeNumbers (g : SidesValue) : Type 0 where
  pub x : ℕ → ℕ
  pub y : ℕ → ℕ
  pub at_x : ℕ → ℕ
  pub at_y : ℕ → ℕ
  pub are : HasNumbers g x y at_x at_y

-- all sides of planar st-graphs have them
abbrev pub OrderNumbersLaw : Type 0
OrderNumbersLaw = (g : SidesValue) → IsSides g → SomeNumbers g
