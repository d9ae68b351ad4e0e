-- The faces of an embedded graph by number: in the order of their least ends.
-- Letters: g graph, d end.
--   is_least g d       d is the least end of its face
--   orbit_number g d   how many faces have a smaller least end than the face of d
--   AreFaces g f       f has the number of the face of each end, and how many faces there are
use Rattle.std.specs.Prelude.{ℕ, ◌≡◌, ◌<◌, ◌==◌, Bool, List, length, slice_index}
use Rattle.st_map.specs.Counting.{count_below}
use Rattle.st_map.specs.Embedded.{Embedded, darts, face, faces}

-- whether d is the least end of its face
abbrev pub is_least : Embedded → ℕ → Bool
is_least g d = face g d == d

-- how many faces have a smaller least end than the face of d
unfoldable pub orbit_number : Embedded → ℕ → ℕ
orbit_number g d = count_below (face g d) (is_least g)

-- What a `Faces` is seen as: the number of the face of each end, and how many faces there are.
pub record FaceNumbers : Type 0 where
  pub orbit : List ℕ
  pub count : ℕ

-- these are the faces of g
pub record AreFaces (g : Embedded) (f : FaceNumbers) : Type 0 where
  pub size : length f.orbit ≡ darts g
  pub each : (d : ℕ) → d < darts g → slice_index f.orbit d ≡ orbit_number g d
  pub all : f.count ≡ faces g
