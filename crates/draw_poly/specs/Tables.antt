-- Tables of heights, columns and places, as the code has them.
--   IsPlace place g c v x          x is a column for v that the closure may answer, from the first of its bar to the last
--   IsPlaceAt place g c places v   the entry of v is such a column
--   ArePlaces place g c n places   the table has such a column for each of the first n vertices
--   ArePolylineTablesBy ..         heights and columns under weights, and places, which closures may answer
--   ArePolylineTables ..           natural numbers that keep lines apart, in a picture's range
-- Letters: g sides, c columns, v vertex, place what the closure may answer.
use Rattle.std.specs.Prelude.{ℕ, ℤ, pos, ◌≡◌, ◌+◌, ◌-◌, ◌<◌, ◌≤◌, List, length, slice_get, Some}
use Rattle.st_ids.specs.declared.limits.TheConstants.{MOST_COORDINATE}
use Rattle.st_ids.specs.declared.ids.EdgeId.{EdgeId}
use Rattle.st_sides.specs.Sides.{SidesValue, edge_count, left_of, right_of}
use Rattle.st_number.specs.Numbers.{AreNumbers}
use Rattle.st_picture.specs.Bars.{number_at, HasNaturals}
use Rattle.draw_poly.specs.Numbers.{AreLong}
use Rattle.draw_poly.specs.Tracks.{AreTracks}

-- a column from that of the left of v to the one before that of its right, which the closure may answer for these two
pub record IsPlace (place : ℤ → ℤ → ℤ → Type 0) (g : SidesValue) (c : ℕ → ℕ) (v : ℕ) (x : ℤ) : Type 0 where
  pub column : ℕ
  pub is : x ≡ pos column
  pub from : c (left_of g v) ≤ column
  pub to : column ≤ c (right_of g v) - 1
  pub answer : place (pos (c (left_of g v))) (pos (c (right_of g v) - 1)) (pos column)

-- the entry of v is such a column
pub record IsPlaceAt (place : ℤ → ℤ → ℤ → Type 0) (g : SidesValue) (c : ℕ → ℕ) (places : List ℤ) (v : ℕ) : Type 0 where
  pub x : ℤ
  pub at : slice_get places v ≡ Some x
  pub is : IsPlace place g c v x

-- a place for each of the first n vertices
pub record ArePlaces (place : ℤ → ℤ → ℤ → Type 0) (g : SidesValue) (c : ℕ → ℕ) (n : ℕ) (places : List ℤ) : Type 0 where
  pub size : length places ≡ n
  pub each : (v : ℕ) → v < n → IsPlaceAt place g c places v

-- The heights and the columns of the graph under weights that one closure may answer, and a place for each vertex that the
-- other may answer.
pub record ArePolylineTablesBy (answer : EdgeId → ℕ → Type 0) (place : ℤ → ℤ → ℤ → Type 0) (g : SidesValue) (heights columns places : List ℤ) : Type 0 where
  pub weight : ℕ → ℕ
  pub taken : (e : ℕ) → e < edge_count g → answer (record { 0 = e }) (weight e)
  pub long : AreLong g weight
  pub numbers : AreNumbers g weight (number_at heights) (number_at columns)
  pub placed : ArePlaces place g (number_at columns) g.vertices places

-- A height and a place for each vertex and a column for each dual node, which keep lines apart; the last of them are no
-- greater than a coordinate may be.
pub record ArePolylineTables (g : SidesValue) (heights columns places : List ℤ) : Type 0 where
  pub heights_are : HasNaturals heights g.vertices
  pub columns_are : HasNaturals columns (g.t_star + 1)
  pub places_are : HasNaturals places g.vertices
  pub tracks : AreTracks g (number_at heights) (number_at columns) (number_at places)
  pub high : number_at heights g.sink ≤ MOST_COORDINATE
  pub wide : number_at columns g.t_star ≤ MOST_COORDINATE
