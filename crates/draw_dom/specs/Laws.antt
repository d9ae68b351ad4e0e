-- What is proved of compact points and of dominance pictures, for all graphs.
-- Letters: g sides, r sides of the reduced graph, X and Y numbers of the vertices, at_x and at_y the vertices of the numbers, N
-- names, d picture.
--   CompactsLaw       compact points compare as the two numbers do, for every two numberings
--   PointsLaw         the compact points of the two numbers of a planar st-graph show reaching, and their straight lines meet
--                     only at ends where no edge is transitive
--   HasPictures           there is one dominance picture, it is drawn right and shows reaching
--   DominancePicturesLaw  so it is for all reduced graphs
use Rattle.std.specs.Prelude.{ℕ, ◌≡◌, Option}
use Rattle.st_ids.specs.declared.names.Names.{Names}
use Rattle.st_shape.specs.Rules.{Drawing}
use Rattle.st_sides.specs.Sides.{SidesValue, IsSides}
use Rattle.st_order.specs.Numbers.{AreNumberings, HasNumbers}
use Rattle.st_picture.specs.Drawn.{IsDrawn}
use Rattle.st_picture.specs.Naming.{AreNames}
use Rattle.st_reduce.specs.ReducedSides.{IsReducedSides}
use Rattle.draw_dom.specs.Compact.{point_x, point_y, CompactLaw}
use Rattle.draw_dom.specs.Dominance.{CompactDominance, HasNoTransitive}
use Rattle.draw_dom.specs.Pictures.{IsDominancePicture, ShowsReaching}

-- for every two numberings
abbrev pub CompactsLaw : Type 0
CompactsLaw = (n : ℕ) (X Y at_x at_y : ℕ → ℕ) → AreNumberings n X Y at_x at_y → CompactLaw n X Y at_x at_y

-- for the two numbers of every planar st-graph
abbrev pub PointsLaw : Type 0
PointsLaw = (g : SidesValue) → IsSides g → (X Y at_x at_y : ℕ → ℕ) → HasNumbers g X Y at_x at_y → CompactDominance g (point_x X Y at_x) (point_y X Y at_y)

-- There is a picture for all names, one alone, and it is drawn right and shows reaching.
pub record HasPictures (g r : SidesValue) (dummy : ℕ → Option ℕ) : Type 0 where
  pub some : (N : Names) → (d : Drawing) × IsDominancePicture g r dummy N d
  pub one : (N : Names) (d d' : Drawing) → IsDominancePicture g r dummy N d → IsDominancePicture g r dummy N d' → d ≡ d'
  pub drawn : (N : Names) → AreNames g N → (d : Drawing) → IsDominancePicture g r dummy N d → IsDrawn g d
  pub reaching : (N : Names) (d : Drawing) → IsDominancePicture g r dummy N d → ShowsReaching g d

-- for every graph and its reduced graph, which has no transitive edge
abbrev pub DominancePicturesLaw : Type 0
DominancePicturesLaw = (g r : SidesValue) → IsSides g → IsSides r → (dummy : ℕ → Option ℕ) (last : ℕ → ℕ) → IsReducedSides g r dummy last → HasNoTransitive r → HasPictures g r dummy
