-- Compact points as lists.
-- Letters: xs and ys numbers of vertices, points a point for each vertex, n how many, u and v vertices, k a number.
--   vertex_number xs v        the number of v in a list
--   IsNumberList xs           each vertex has a number below their count, and each such number has one vertex
--   AreNumberLists xs ys      two such lists of one length
--   AreVerticesOf xs at       at k is the vertex of the number k
--   AreCompactPlaces          a list has the growing steps up to each vertex
--   ArePoints px py n points  the list has these points
--   AreCompactPoints xs ys points the list has the compact points for the numbers
--   vertex_point points v     the point of v in a list
--   IsPointAtMost points u v  neither coordinate of u's point is above that of v's
--   CompareAsBoth             different vertices have different points, and one is at most another exactly where both numbers are
use Rattle.std.specs.Prelude.{ℕ, ◌≡◌, ◌<◌, ◌≤◌, ◌↔◌, List, length, slice_get, slice_index_or, Some}
use Rattle.st_shape.specs.declared.point.Point.{Point}
use Rattle.st_order.specs.Numbers.{AreNumberings}
use Rattle.st_picture.specs.Items.{grid_point, origin}
use Rattle.draw_dom.specs.Compact.{steps, point_x, point_y}
use Rattle.draw_dom.specs.Pictures.{IsAtMost}

-- the number of v
abbrev pub vertex_number : List ℕ → ℕ → ℕ
vertex_number xs v = slice_index_or xs v 0

-- Each vertex has a number below their count, no two have the same, and each such number is had by one.
pub record IsNumberList (xs : List ℕ) : Type 0 where
  pub below : (v : ℕ) → v < length xs → vertex_number xs v < length xs
  pub different : (u v : ℕ) → u < length xs → v < length xs → vertex_number xs u ≡ vertex_number xs v → u ≡ v
  pub onto : (k : ℕ) → k < length xs → (v : ℕ) × (v < length xs) × (vertex_number xs v ≡ k)

-- Both lists have one length, and each has every number below it once.
pub record AreNumberLists (xs ys : List ℕ) : Type 0 where
  pub same : length xs ≡ length ys
  pub x : IsNumberList xs
  pub y : IsNumberList ys

-- the vertex with the number k is at k
pub record AreVerticesOf (xs : List ℕ) (at : ℕ → ℕ) : Type 0 where
  pub within : (k : ℕ) → k < length xs → at k < length xs
  pub has : (k : ℕ) → k < length xs → vertex_number xs (at k) ≡ k

-- the list has the growing steps up to each vertex, in the order of xs
pub record AreCompactPlaces (xs ys places : List ℕ) : Type 0 where
  pub size : length places ≡ length xs
  pub each : (at : ℕ → ℕ) → AreVerticesOf xs at → (v : ℕ) → v < length xs → vertex_number places v ≡ steps (λ k. vertex_number ys (at k)) (vertex_number xs v)

-- the list has the points with these coordinates
pub record ArePoints (px py : ℕ → ℕ) (n : ℕ) (points : List Point) : Type 0 where
  pub size : length points ≡ n
  pub each : (v : ℕ) → v < n → slice_get points v ≡ Some (grid_point (px v) (py v))

-- The list has the compact point of each vertex for the two numbers.
pub record AreCompactPoints (xs ys : List ℕ) (points : List Point) : Type 0 where
  pub at_x : ℕ → ℕ
  pub at_y : ℕ → ℕ
  pub numberings : AreNumberings (length xs) (vertex_number xs) (vertex_number ys) at_x at_y
  pub are : ArePoints (point_x (vertex_number xs) (vertex_number ys) at_x) (point_y (vertex_number xs) (vertex_number ys) at_y) (length xs) points

-- the point of v
unfoldable pub vertex_point : List Point → ℕ → Point
vertex_point points v = slice_index_or points v origin

-- neither coordinate of u's point is above that of v's
abbrev pub IsPointAtMost : List Point → ℕ → ℕ → Type 0
IsPointAtMost points u v = IsAtMost (vertex_point points u) (vertex_point points v)

-- Different vertices have different points, and one point is at most another exactly where both numbers are.
pub record CompareAsBoth (xs ys : List ℕ) (points : List Point) : Type 0 where
  pub different : (u v : ℕ) → u < length xs → v < length xs → vertex_point points u ≡ vertex_point points v → u ≡ v
  pub order : (u v : ℕ) → u < length xs → v < length xs → IsPointAtMost points u v ↔ ((vertex_number xs u ≤ vertex_number xs v) × (vertex_number ys u ≤ vertex_number ys v))
