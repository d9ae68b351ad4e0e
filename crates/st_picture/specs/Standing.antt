-- At which heights the vertices of a picture stand.
-- Letters: g sides, y heights, d picture, v vertex.
use Rattle.std.specs.Prelude.{ℕ, ◌≡◌, ◌<◌, pos}
use Rattle.st_shape.specs.Rules.{Drawing}
use Rattle.st_sides.specs.Sides.{SidesValue}
use Rattle.st_picture.specs.Items.{place_at}

-- each vertex v stands at the height y v: its point is there, or its bar lies there
abbrev pub StandAt : SidesValue → (ℕ → ℕ) → Drawing → Type 0
StandAt g y d = (v : ℕ) → v < g.vertices → (place_at d.items v).y ≡ pos (y v)
