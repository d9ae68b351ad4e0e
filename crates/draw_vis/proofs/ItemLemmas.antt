-- Items of a tessellation from their parts.
--   bar_of, box_of               the items that have these numbers
use Rattle.std.proofs.Common.{ℕ, ◌≡◌, ℤ, pos}
use Rattle.st_ids.specs.declared.names.Names.{Names}
use Rattle.st_shape.specs.declared.item.Item.TheVariants.{Bar, Rect}
use Rattle.st_shape.specs.declared.point.Point.{Point}
use Rattle.st_sides.specs.Sides.{SidesValue, edge_tail, edge_head, face_left, face_right, left_of, right_of}
use Rattle.st_picture.specs.Items.{grid_point}
use Rattle.st_picture.specs.Naming.{vertex_name, edge_name}
use Rattle.draw_vis.specs.Tessellation.{full_bar, box}

pub bar_of : (g : SidesValue) (N : Names) (y c : ℕ → ℕ) (v : ℕ) (n h a b : ℤ) → n ≡ vertex_name N v → h ≡ pos (y v) → a ≡ pos (c (left_of g v)) → b ≡ pos (c (right_of g v)) → Bar n h a b ≡ full_bar g N y c v
bar_of g N y c v n h a b p q r s = λ i. Bar (p i) (q i) (r i) (s i)

pub box_of : (g : SidesValue) (N : Names) (y c : ℕ → ℕ) (e : ℕ) (n t h : ℤ) (a b : Point) → n ≡ edge_name N e → t ≡ vertex_name N (edge_tail g e) → h ≡ vertex_name N (edge_head g e) → a ≡ grid_point (c (face_left g e)) (y (edge_tail g e)) → b ≡ grid_point (c (face_right g e)) (y (edge_head g e)) → Rect n t h a b ≡ box g N y c e
box_of g N y c e n t h a b p q r s u = λ i. Rect (p i) (q i) (r i) (s i) (u i)
