-- What is asked of the calls that make the items of a picture, one for each vertex and one for each edge.
-- Letters: g sides, N names, frame the corner of the frame, pre and post what holds of a number before the call with it and of
-- the answer; figure an item for each vertex, points those of the line of each edge.
--   Makes pre post n frame f   the call with each number below n answers what f has there, which lies in the frame
--   Composes ..                one call makes a figure of each vertex, the other the line of each edge
use Rattle.std.specs.Prelude.{◌≡◌, ◌<◌, ℕ, List}
use Rattle.st_ids.specs.declared.names.Names.{Names}
use Rattle.st_shape.specs.declared.item.Item.{Item}
use Rattle.st_shape.specs.declared.point.Point.{Point}
use Rattle.st_shape.specs.Rules.{FitsFrame}
use Rattle.st_sides.specs.Sides.{SidesValue, edge_count}
use Rattle.st_picture.specs.Items.{IsFigure, line}

-- the call with each number below n may be made, and answers what f has there, which lies in the frame
pub record Makes (pre : ℕ → Type 0) (post : ℕ → Item → Type 0) (n : ℕ) (frame : Point) (f : ℕ → Item) : Type 0 where
  pub callable : (k : ℕ) → k < n → pre k
  pub answers : (k : ℕ) (x : Item) → k < n → post k x → x ≡ f k
  pub fits : (k : ℕ) → k < n → FitsFrame frame (f k)

-- Of two calls one makes the figure of each vertex, and the other the line of each edge.
pub record Composes (g : SidesValue) (N : Names) (frame : Point) (pre_figure : ℕ → Type 0) (post_figure : ℕ → Item → Type 0) (pre_line : ℕ → Type 0) (post_line : ℕ → Item → Type 0) (figure : ℕ → Item) (points : ℕ → List Point) : Type 0 where
  pub figures : Makes pre_figure post_figure g.vertices frame figure
  pub kind : (v : ℕ) → v < g.vertices → IsFigure (figure v)
  pub lines : Makes pre_line post_line (edge_count g) frame (line g N points)
