-- What is proved of polyline pictures. Letters: g sides, w weights of the edges, p columns of the vertices, f placement, N
-- names, d picture.
--   PolylineLaw g          each polyline picture is drawn right
--   IsBetween f            a placement answers a column from one end to the other
--   HasPicture g w N f     some picture has its vertices where f places them
--   PolylinePicturesLaw g  there is a picture for all weights, placements and names, and one for given places
use Rattle.std.specs.Prelude.{ℕ, ◌≡◌, ◌<◌, ◌≤◌, ◌-◌}
use Rattle.st_ids.specs.declared.names.Names.{Names}
use Rattle.st_shape.specs.Rules.{Drawing}
use Rattle.st_sides.specs.Sides.{SidesValue, left_of, right_of}
use Rattle.st_picture.specs.Drawn.{IsDrawn}
use Rattle.st_picture.specs.Naming.{AreNames}
use Rattle.draw_poly.specs.Numbers.{AreLong}
use Rattle.draw_poly.specs.Polyline.{IsPolylines}

-- each polyline picture is drawn right, wherever the vertices stand on their bars
abbrev pub PolylineLaw : SidesValue → Type 0
PolylineLaw g = (w : ℕ → ℕ) → AreLong g w → (p : ℕ → ℕ) (N : Names) → AreNames g N → (d : Drawing) → IsPolylines g w p N d → IsDrawn g d

-- a column from one end to the other
pub record IsBetween (f : ℕ → ℕ → ℕ) : Type 0 where
  pub from : (lo hi : ℕ) → lo ≤ hi → lo ≤ f lo hi
  pub to : (lo hi : ℕ) → lo ≤ hi → f lo hi ≤ hi

-- a picture in which each vertex stands where f places it for the first and the last column of its bar
pub record HasPicture (g : SidesValue) (w : ℕ → ℕ) (N : Names) (f : ℕ → ℕ → ℕ) : Type 0 where
  pub p : ℕ → ℕ
  pub d : Drawing
  pub is : IsPolylines g w p N d
  pub placed : (v : ℕ) → v < g.vertices → p v ≡ f (is.c (left_of g v)) (is.c (right_of g v) - 1)

-- For all weights, names and placements there is a picture, and two with the same places are the same.
pub record PolylinePicturesLaw (g : SidesValue) : Type 0 where
  pub some : (w : ℕ → ℕ) (N : Names) (f : ℕ → ℕ → ℕ) → IsBetween f → HasPicture g w N f
  pub one : (w p : ℕ → ℕ) (N : Names) (d d' : Drawing) → IsPolylines g w p N d → IsPolylines g w p N d' → d ≡ d'
