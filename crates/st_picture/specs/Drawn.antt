-- What is right in a picture of a planar st-graph, and what is proved of bars and lines.
--   IsFitting d      all items lie in the frame and have the form of their kind
--   IsDrawn g d      nothing is wrong with the picture, it shows the order at each vertex, and it lies in its frame
--   BarsLaw g        all pictures of bars and lines are drawn, whatever heights and columns grow
-- Letters: g sides, d picture, v vertex.
use Rattle.std.specs.Prelude.{◌≢◌, ℕ, ◌<◌}
use Rattle.std.specs.List.{AllByRecursion}
use Rattle.st_ids.specs.declared.names.Names.{Names}
use Rattle.st_shape.specs.declared.picture.Form.{Form}
use Rattle.st_shape.specs.declared.picture.Form.TheVariants.{Tessellation, Dominance}
use Rattle.st_shape.specs.Rules.{Drawing, FitsFrame}
use Rattle.st_shape.specs.Verdict.{IsRight}
use Rattle.st_sides.specs.Sides.{SidesValue}
use Rattle.st_picture.specs.Bars.{bars}
use Rattle.st_picture.specs.Growing.{GrowsUp, GrowsRight, HasLines}
use Rattle.st_picture.specs.Naming.{AreNames}
use Rattle.st_picture.specs.Order.{ShowsOrder}

-- all items lie in the frame
abbrev pub IsFitting : Drawing → Type 0
IsFitting d = AllByRecursion (FitsFrame d.frame) d.items

-- Nothing is wrong with the picture, it shows the order at each vertex, and all of it lies in its frame.
pub record IsDrawn (g : SidesValue) (d : Drawing) : Type 0 where
  pub right : IsRight d
  pub order : (v : ℕ) → v < g.vertices → ShowsOrder g d v
  pub fitting : IsFitting d

-- Every picture of bars and lines is drawn right, for any heights that grow along the edges, any columns that grow along the
-- arcs of the dual, and any columns of the lines between those of their sides.
abbrev pub BarsLaw : SidesValue → Type 0
BarsLaw g = (y c k : ℕ → ℕ) → GrowsUp g y → GrowsRight g c → HasLines g c k
    → (N : Names) → AreNames g N → (form : Form) → form ≢ Tessellation → form ≢ Dominance → IsDrawn g (bars g N form y c k)
