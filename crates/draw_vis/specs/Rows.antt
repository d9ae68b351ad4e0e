-- What is right in a tessellation: the boxes tile the frame, and at each vertex they show the order of its edges.
-- Frame: x grows to the right, y upwards; edges leave a vertex upwards and arrive from below.
--   HasBox items i P   the item at i is a box whose corners have the property P
--   HasBar items v y from to   the item at v is this bar
--   IsRow items n P from to es   the boxes of the edges es stand side by side from one column to another
--   ShowsRows g d v    the edges out of v stand on its bar from end to end, the edges into it hang under it
--   IsTessellated g d  the boxes tile the frame, show the order at each vertex, and all items lie in the frame
-- Letters: g sides, d picture, v vertex, e and f edges.
use Rattle.std.specs.Prelude.{◌≡◌, ◌≢◌, ◌<◌, ℕ, ◌+◌, List, [], slice_get, Some, ℤ}
use Rattle.st_ids.specs.Lists.{In, Linked, FirstIs, LastIs}
use Rattle.st_shape.specs.declared.item.Item.{Item}
use Rattle.st_shape.specs.declared.item.Item.TheVariants.{Bar, Rect}
use Rattle.st_shape.specs.declared.picture.Form.TheVariants.{Tessellation}
use Rattle.st_shape.specs.declared.point.Point.{Point}
use Rattle.st_shape.specs.Rules.{Drawing}
use Rattle.st_shape.specs.Verdict.{IsRight}
use Rattle.st_sides.specs.Sides.{SidesValue, outs, ins}
use Rattle.st_picture.specs.Drawn.{IsFitting}

-- the item at i is a box whose low and high corner have the property
pub record HasBox (items : List Item) (i : ℕ) (P : Point → Point → Type 0) : Type 0 where
  pub name : ℤ
  pub tail : ℤ
  pub head : ℤ
  pub lowest : Point
  pub highest : Point
  pub is : slice_get items i ≡ Some (Rect name tail head lowest highest)
  pub holds : P lowest highest

-- the item at v is this bar
pub record HasBar (items : List Item) (v : ℕ) (y from to : ℤ) : Type 0 where
  pub name : ℤ
  pub is : slice_get items v ≡ Some (Bar name y from to)

-- The boxes of these edges stand side by side, in this order, from one column to another, each with the property; the box of
-- e is the item n + e.
pub record IsRow (items : List Item) (n : ℕ) (P : Point → Point → Type 0) (from to : ℤ) (es : List ℕ) : Type 0 where
  pub each : (e : ℕ) → In e es → HasBox items (n + e) P
  pub first : FirstIs (λ e. HasBox items (n + e) (λ lowest highest. lowest.x ≡ from)) es
  pub next : Linked (λ e f. HasBox items (n + e) (λ lowest highest. HasBox items (n + f) (λ lowest' highest'. highest.x ≡ lowest'.x))) es
  pub last : LastIs (λ e. HasBox items (n + e) (λ lowest highest. highest.x ≡ to)) es

-- The boxes of the edges out of v stand on its bar from end to end, in their order, and those of the edges into it hang under
-- it; the source has none under it and the sink none on it.
pub record ShowsRows (g : SidesValue) (d : Drawing) (v : ℕ) : Type 0 where
  pub y : ℤ
  pub from : ℤ
  pub to : ℤ
  pub bar : HasBar d.items v y from to
  pub out : v ≢ g.sink → IsRow d.items g.vertices (λ lowest highest. lowest.y ≡ y) from to (outs g v)
  pub into : v ≢ g.source → IsRow d.items g.vertices (λ lowest highest. highest.y ≡ y) from to (ins g v)
  pub none_out : v ≡ g.sink → outs g v ≡ []
  pub none_in : v ≡ g.source → ins g v ≡ []

-- Nothing is wrong with the picture, whose boxes tile the frame; it shows the order at each vertex, and lies in its frame.
pub record IsTessellated (g : SidesValue) (d : Drawing) : Type 0 where
  pub form : d.form ≡ Tessellation
  pub right : IsRight d
  pub order : (v : ℕ) → v < g.vertices → ShowsRows g d v
  pub fitting : IsFitting d
