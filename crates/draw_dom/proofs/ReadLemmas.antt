-- Points read from a list.
--   point_at    what stands at a place
use Rattle.std.proofs.Common.{ℕ, List, ◌≡◌, sym, slice_get, Some}
use Rattle.std.proofs.lemmas.Option.{get_or_from_slice_get}
use Rattle.st_shape.specs.declared.point.Point.{Point}
use Rattle.st_picture.specs.Items.{origin}
use Rattle.draw_dom.specs.Points.{vertex_point}

pub point_at : (points : List Point) (v : ℕ) (p : Point) → slice_get points v ≡ Some p → p ≡ vertex_point points v
unfolding vertex_point
point_at points v p q = sym (get_or_from_slice_get points v p origin q)
