-- At which heights the vertices of a constrained picture stand. Letters: g sides, w weights of the edges, y heights, ps the listed
-- paths, N names, d picture.
--   ConstrainedHeights g     in each constrained picture each vertex stands at its height under the weights
use Rattle.std.specs.Prelude.{ℕ, List}
use Rattle.st_ids.specs.declared.names.Names.{Names}
use Rattle.st_shape.specs.Rules.{Drawing}
use Rattle.st_sides.specs.Sides.{SidesValue}
use Rattle.st_number.specs.Numbers.{GivesHeights}
use Rattle.st_picture.specs.Standing.{StandAt}
use Rattle.draw_align.specs.Constrained.{IsConstrained}

-- each vertex stands at the greatest weight of a walk from the source
abbrev pub ConstrainedHeights : SidesValue → Type 0
ConstrainedHeights g = (w y : ℕ → ℕ) (ps : List (List ℕ)) (N : Names) (d : Drawing) → IsConstrained g w ps N d → GivesHeights g w y → StandAt g y d
