-- Heights are the least numbers that rise along each edge by its weight.
--   RisesBy g w h    h rises along each edge by its weight at least
--   LeastLaw g       the heights do, and no such numbers stand lower above that of the source
-- Letters: g sides, w weights of the edges, y heights, h numbers of the vertices, v vertex, e edge.
use Rattle.std.specs.Prelude.{ℕ, ◌<◌, ◌≤◌, ◌+◌}
use Rattle.st_sides.specs.Sides.{SidesValue, edge_count, edge_tail, edge_head}
use Rattle.st_number.specs.Numbers.{GivesHeights}

-- along each edge h rises by its weight at least
abbrev pub RisesBy : SidesValue → (ℕ → ℕ) → (ℕ → ℕ) → Type 0
RisesBy g w h = (e : ℕ) → e < edge_count g → h (edge_tail g e) + w e ≤ h (edge_head g e)

-- The heights rise so, and whatever else does stands as far above its number of the source at each vertex, or farther.
pub record LeastLaw (g : SidesValue) : Type 0 where
  pub rises : (w y : ℕ → ℕ) → GivesHeights g w y → RisesBy g w y
  pub least : (w y h : ℕ → ℕ) → GivesHeights g w y → RisesBy g w h → (v : ℕ) → v < g.vertices → h g.source + y v ≤ h v
