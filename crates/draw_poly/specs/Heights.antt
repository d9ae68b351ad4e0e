-- At which heights the vertices of a polyline picture stand. Letters: g sides, w weights of the edges, y heights, p columns of
-- the vertices, N names, d picture.
--   PolylineHeights g     in each polyline picture each vertex stands at its height under the weights
use Rattle.std.specs.Prelude.{ℕ}
use Rattle.st_ids.specs.declared.names.Names.{Names}
use Rattle.st_shape.specs.Rules.{Drawing}
use Rattle.st_sides.specs.Sides.{SidesValue}
use Rattle.st_number.specs.Numbers.{GivesHeights}
use Rattle.st_picture.specs.Standing.{StandAt}
use Rattle.draw_poly.specs.Polyline.{IsPolylines}

-- each vertex stands at the greatest weight of a walk from the source
abbrev pub PolylineHeights : SidesValue → Type 0
PolylineHeights g = (w y p : ℕ → ℕ) (N : Names) (d : Drawing) → IsPolylines g w p N d → GivesHeights g w y → StandAt g y d
