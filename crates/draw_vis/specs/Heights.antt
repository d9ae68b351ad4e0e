-- At which heights the vertices of the two pictures stand. Letters: g sides, w weights of the edges, y heights, N names, d picture.
--   VisibilityHeights g     in each visibility picture each vertex stands at its height under the weights
--   TessellationHeights g   so it does in each tessellation picture
use Rattle.std.specs.Prelude.{ℕ}
use Rattle.st_ids.specs.declared.names.Names.{Names}
use Rattle.st_shape.specs.Rules.{Drawing}
use Rattle.st_sides.specs.Sides.{SidesValue}
use Rattle.st_number.specs.Numbers.{GivesHeights}
use Rattle.st_picture.specs.Standing.{StandAt}
use Rattle.draw_vis.specs.Tessellation.{IsTessellation}
use Rattle.draw_vis.specs.Visibility.{IsVisibility}

-- each vertex stands at the greatest weight of a walk from the source
abbrev pub VisibilityHeights : SidesValue → Type 0
VisibilityHeights g = (w y : ℕ → ℕ) (N : Names) (d : Drawing) → IsVisibility g w N d → GivesHeights g w y → StandAt g y d

-- the same of tessellations
abbrev pub TessellationHeights : SidesValue → Type 0
TessellationHeights g = (w y : ℕ → ℕ) (N : Names) (d : Drawing) → IsTessellation g w N d → GivesHeights g w y → StandAt g y d
