-- How long the text of a drawing is.
--   IsLengthBy answer x N n    so long is the text of the visibility picture under weights that a closure may answer
--   own_weight e               how many rows an edge of the triangle takes at least
--   triangle_naming            the names of the triangle: from 1, and no labels
--   IsTriangleLength n         so long is the text of the triangle's drawing
use Rattle.std.specs.Prelude.{◌≡◌, ◌==◌, ℕ, [], ◌∷◌, pos, None, length, if◌then◌else◌}
use Rattle.eps_core.specs.Text.{text}
use Rattle.draw_vis.specs.Visibility.{IsVisibilityBy}
use Rattle.st_ids.specs.declared.ids.EdgeId.{EdgeId}
use Rattle.st_ids.specs.declared.names.Names.{Names}
use Rattle.st_map.specs.Orders.{embed}
use Rattle.st_shape.specs.Rules.{Drawing}
use Rattle.st_sides.specs.Sides.{SidesValue}
use Rattle.st_sides.specs.SidesOf.{IsSidesOf}
use Rattle.st_test.specs.Planar.{StValue}
use Rattle.st_callers.specs.Triangle.{triangle_graph, triangle_orders}

-- so long is the text of the picture
pub record IsLengthBy (answer : EdgeId → ℕ → Type 0) (x : SidesValue) (N : Names) (n : ℕ) : Type 0 where
  pub picture : Drawing
  pub is : IsVisibilityBy answer x N picture
  pub count : n ≡ length (text picture)

-- the long edge takes five rows at least, the others one each
abbrev pub own_weight : ℕ → ℕ
own_weight e = if e == 2 then 5 else 1

-- the names of the triangle: from 1, and no labels
abbrev pub triangle_naming : Names
triangle_naming = record { vertex = pos 1 ∷ pos 2 ∷ pos 3 ∷ []; edge = pos 1 ∷ pos 2 ∷ pos 3 ∷ []; label = None ∷ None ∷ None ∷ [] }

-- so long is the text of the drawing of the triangle, under these weights and names
pub record IsTriangleLength (n : ℕ) : Type 0 where
  pub st : StValue
  pub graph : st.map.graph ≡ embed triangle_graph triangle_orders
  pub sides : SidesValue
  pub of : IsSidesOf st.map.graph st.source st.sink st.outer sides
  pub drawn : IsLengthBy (λ e w. w ≡ own_weight e.0) sides triangle_naming n
