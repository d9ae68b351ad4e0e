-- The dominance picture: vertices as dots at the compact points of the reduced graph, edges as straight lines, transitive edges
-- by the point of their dummy.
--   point_dot                         a vertex as a dot
--   through                           the points of a line from a to b, by the point of a dummy if there is one
--   dummied                           the points of the line of an edge
--   points_and_lines                  the picture of dots and lines, with labels at the dots
--   compact_point                     the compact point of a vertex
--   IsDominancePicture g r dummy N d  d is the dominance picture of g, whose reduced graph has the sides r
--   IsAtMost p q                      neither coordinate of p is above that of q
--   ShowsReaching g d                 each vertex is a dot, and one reaches another exactly where its point is at most the other's
-- Letters: g sides, r sides of the reduced graph, N names, place where each vertex stands, X and Y its numbers, at_x and at_y
-- the vertices of the numbers, dummy the new vertex in the middle of each
-- edge, if any; e edge, v and w vertices, d picture.
use Rattle.std.specs.Prelude.{◌≡◌, ◌<◌, ◌↔◌, ℕ, List, [], ◌∷◌, Option, Some, None, slice_get, ℤ, ◌≤ℤ◌}
use Rattle.st_ids.specs.declared.names.Names.{Names}
use Rattle.st_ids.specs.Walks.{Reaches}
use Rattle.st_shape.specs.declared.item.Item.{Item}
use Rattle.st_shape.specs.declared.item.Item.TheVariants.{Dot}
use Rattle.st_shape.specs.declared.picture.Form.TheVariants.{Dominance}
use Rattle.st_shape.specs.declared.point.Point.{Point}
use Rattle.st_shape.specs.Rules.{Drawing}
use Rattle.st_sides.specs.Sides.{SidesValue, edge_tail, edge_head, primal}
use Rattle.st_order.specs.Numbers.{HasNumbers}
use Rattle.st_picture.specs.Items.{grid_point, drawing}
use Rattle.st_picture.specs.Naming.{vertex_name}
use Rattle.draw_dom.specs.Compact.{point_x, point_y}

-- the vertex v as a dot at its place
abbrev pub point_dot : Names → (ℕ → Point) → ℕ → Item
point_dot N place v = Dot (vertex_name N v) (place v)

-- from a to b, by the dummy's place
abbrev pub through : Point → Point → (ℕ → Point) → Option ℕ → List Point
through a b place None = a ∷ b ∷ []
through a b place (Some w) = a ∷ place w ∷ b ∷ []

-- the line of e from the place of its tail to that of its head
abbrev pub dummied : SidesValue → (ℕ → Option ℕ) → (ℕ → Point) → ℕ → List Point
dummied g dummy place e = through (place (edge_tail g e)) (place (edge_head g e)) place (dummy e)

-- the picture of dots and lines; the frame is the place of the sink
abbrev pub points_and_lines : SidesValue → Names → (ℕ → Option ℕ) → (ℕ → Point) → Drawing
points_and_lines g N dummy place = drawing g N Dominance (place g.sink) (point_dot N place) (dummied g dummy place) place

-- the compact point of v
abbrev pub compact_point : (ℕ → ℕ) → (ℕ → ℕ) → (ℕ → ℕ) → (ℕ → ℕ) → ℕ → Point
compact_point X Y at_x at_y v = grid_point (point_x X Y at_x v) (point_y X Y at_y v)

-- the dominance picture of g, from the numbers of the reduced graph r
pub record IsDominancePicture (g r : SidesValue) (dummy : ℕ → Option ℕ) (N : Names) (d : Drawing) : Type 0 where
  pub x : ℕ → ℕ
  pub y : ℕ → ℕ
  pub at_x : ℕ → ℕ
  pub at_y : ℕ → ℕ
  pub numbers : HasNumbers r x y at_x at_y
  pub is : d ≡ points_and_lines g N dummy (compact_point x y at_x at_y)

-- neither coordinate of p is above that of q
abbrev pub IsAtMost : Point → Point → Type 0
IsAtMost p q = (p.x ≤ℤ q.x) × (p.y ≤ℤ q.y)

-- the item at v is a dot at p
pub record IsDotAt (items : List Item) (v : ℕ) (p : Point) : Type 0 where
  pub name : ℤ
  pub is : slice_get items v ≡ Some (Dot name p)

-- Each vertex is a dot, and one reaches another exactly where its point is at most the other's.
pub record ShowsReaching (g : SidesValue) (d : Drawing) : Type 0 where
  pub point : ℕ → Point
  pub dots : (v : ℕ) → v < g.vertices → IsDotAt d.items v (point v)
  pub reaching : (u v : ℕ) → u < g.vertices → v < g.vertices → Reaches (primal g) u v ↔ IsAtMost (point u) (point v)
