-- The order of the edges at a vertex, as a picture shows it.
-- Frame: x grows to the right, y upwards; edges leave a vertex upwards and arrive from below. Letters: a, b points or
-- directions, ps and qs the points of two lines, g sides, v vertex, e and f edges.
--   cross_of_directions a b  above 0 where b turns left of a, below 0 where it turns right
--   leaving, arriving        the direction in which a line leaves its first point, and arrives at its last
--   IsLeftOut, IsLeftIn      of two lines out of a vertex, or into it, the first is to the left: by directions at a dot, by
--                           places on a bar
--   IsShown                 two items are lines of which the first is to the left at the item of a vertex
--   ShowsOrder g d v        so for any two edges out of v, and any two into it
use Rattle.std.specs.Prelude.{◌≡◌, ℕ, ◌+◌, List, [], ◌∷◌, slice_get, Some, ℤ, pos, ◌-ℤ◌, ◌*ℤ◌, ◌<ℤ◌}
use Rattle.st_ids.specs.Lists.{Precedes}
use Rattle.st_shape.specs.declared.item.Item.{Item}
use Rattle.st_shape.specs.declared.item.Item.TheVariants.{Dot, Bar, Line, Rect, Face, Label}
use Rattle.st_shape.specs.declared.point.Point.{Point}
use Rattle.st_shape.specs.Inside.{point}
use Rattle.st_shape.specs.Rules.{Drawing}
use Rattle.st_sides.specs.Sides.{SidesValue, outs, ins}
use Rattle.st_picture.specs.Items.{origin}

-- the direction from a to b
abbrev pub point_minus : Point → Point → Point
point_minus b a = point (b.x -ℤ a.x) (b.y -ℤ a.y)

-- the cross product of two directions
abbrev pub cross_of_directions : Point → Point → ℤ
cross_of_directions a b = a.x *ℤ b.y -ℤ a.y *ℤ b.x

-- where a line begins, and where it ends
abbrev pub first_point : List Point → Point
first_point [] = origin
first_point (a ∷ ps) = a

abbrev pub last_point : List Point → Point
last_point [] = origin
last_point (a ∷ []) = a
last_point (a ∷ b ∷ ps) = last_point (b ∷ ps)

-- from the first point of a line to the second
abbrev pub leaving : List Point → Point
leaving [] = origin
leaving (a ∷ []) = origin
leaving (a ∷ b ∷ ps) = point_minus b a

-- from the last point but one to the last
abbrev pub arriving : List Point → Point
arriving [] = origin
arriving (a ∷ []) = origin
arriving (a ∷ b ∷ []) = point_minus b a
arriving (a ∷ b ∷ c ∷ ps) = arriving (b ∷ c ∷ ps)

-- of two lines out of this figure the first is to the left
abbrev pub IsLeftOut : Item → List Point → List Point → Type 0
IsLeftOut (Dot name p) ps qs = cross_of_directions (leaving ps) (leaving qs) <ℤ pos 0
IsLeftOut (Bar name y from to) ps qs = (first_point ps).x <ℤ (first_point qs).x
IsLeftOut (Line name tail head points) ps qs = ⊥
IsLeftOut (Rect name tail head low high) ps qs = ⊥
IsLeftOut (Face number x from to) ps qs = ⊥
IsLeftOut (Label name p text) ps qs = ⊥

-- of two lines into this figure the first is to the left
abbrev pub IsLeftIn : Item → List Point → List Point → Type 0
IsLeftIn (Dot name p) ps qs = pos 0 <ℤ cross_of_directions (arriving ps) (arriving qs)
IsLeftIn (Bar name y from to) ps qs = (last_point ps).x <ℤ (last_point qs).x
IsLeftIn (Line name tail head points) ps qs = ⊥
IsLeftIn (Rect name tail head low high) ps qs = ⊥
IsLeftIn (Face number x from to) ps qs = ⊥
IsLeftIn (Label name p text) ps qs = ⊥

-- the item at i is a line with these points
pub record IsLineAt (items : List Item) (i : ℕ) (points : List Point) : Type 0 where
  pub name : ℤ
  pub tail : ℤ
  pub head : ℤ
  pub is : slice_get items i ≡ Some (Line name tail head points)

-- the items at v, i and j are a figure and two lines of which the first is to the left
pub record IsShown (IsLeft : Item → List Point → List Point → Type 0) (items : List Item) (v i j : ℕ) : Type 0 where
  pub figure : Item
  pub ps : List Point
  pub qs : List Point
  pub figure_is : slice_get items v ≡ Some figure
  pub first : IsLineAt items i ps
  pub second : IsLineAt items j qs
  pub is_left : IsLeft figure ps qs

-- The picture shows the order at v: the items are the vertices, then the edges.
pub record ShowsOrder (g : SidesValue) (d : Drawing) (v : ℕ) : Type 0 where
  pub out : (e f : ℕ) → Precedes e f (outs g v) → IsShown IsLeftOut d.items v (g.vertices + e) (g.vertices + f)
  pub into : (e f : ℕ) → Precedes e f (ins g v) → IsShown IsLeftIn d.items v (g.vertices + e) (g.vertices + f)
