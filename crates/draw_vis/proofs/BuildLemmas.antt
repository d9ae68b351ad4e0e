-- The items of a tessellation, put together.
--   counts          how many vertices, nodes and edges there are
--   whole           bars, boxes and upright lines, added one after the other
--   figures         the picture begins with the vertices
--   finished        with the labels it is the tessellation
use Rattle.std.proofs.Common.{ℕ, List, [], ◌++◌, ◌≡◌, ◌<◌, ◌+◌, ap, ◌∙◌, subst, arith, append_assoc, length, slice_get, Some}
use Rattle.st_ids.specs.declared.names.Names.{Names}
use Rattle.st_shape.specs.declared.item.Item.{Item}
use Rattle.st_shape.specs.declared.picture.Form.TheVariants.{Tessellation}
use Rattle.st_shape.specs.declared.point.Point.{Point}
use Rattle.st_shape.specs.Rules.{Drawing}
use Rattle.st_sides.specs.Held.{IsHeld}
use Rattle.st_sides.specs.Sides.{SidesValue, edge_count}
use Rattle.st_picture.specs.Bars.{bar_start}
use Rattle.st_picture.specs.Items.{items_by, labels, place_at, HasFigures}
use Rattle.st_picture.specs.Naming.{AreNames}
use Rattle.st_picture.proofs.Public.{place_is, first_place, labels_same}
use Rattle.draw_vis.specs.Tables.{frame_of}
use Rattle.draw_vis.specs.Tessellation.{full_bar, box, post, boxes}

pub counts : (g : SidesValue) → IsHeld g → g.vertices + g.t_star ≡ edge_count g + 2
unfolding edge_count
counts g H = omega (arith, H.own.planar.euler, H.own.sides.nodes)

abbrev pub tiles : Point → List Item → Drawing
tiles frame items = record { form = Tessellation; frame = frame; items = items }

-- the items that are added first stand first
abbrev pub with : Drawing → List Item → Drawing
with d items = record d { items = d.items ++ items }

module _ (g : SidesValue) (N : Names) (A : AreNames g N) (y c : ℕ → ℕ) where
  abbrev bs : List Item
  bs = items_by (full_bar g N y c) g.vertices

  abbrev xs : List Item
  xs = items_by (box g N y c) (edge_count g)

  abbrev ps : List Item
  ps = items_by (post g y c) (g.t_star + 1)

  pub whole : (d0 d1 d2 d3 : Drawing) → d0 ≡ tiles (frame_of g y c) [] → d1 ≡ with d0 bs → d2 ≡ with d1 xs → d3 ≡ with d2 ps → d3 ≡ tiles (frame_of g y c) (bs ++ (xs ++ ps))
  whole d0 d1 d2 d3 p0 p1 p2 p3 =
      let q1 : d1 ≡ tiles (frame_of g y c) bs = p1 ∙ ap (λ z. with z bs) p0 in
      let q2 : d2 ≡ tiles (frame_of g y c) (bs ++ xs) = p2 ∙ ap (λ z. with z xs) q1 in
      p3 ∙ ap (λ z. with z ps) q2 ∙ ap (tiles (frame_of g y c)) (append_assoc bs xs ps)

  module _ (d : Drawing) (p : d ≡ tiles (frame_of g y c) (bs ++ (xs ++ ps))) where
    bar_at : (v : ℕ) → v < g.vertices → slice_get d.items v ≡ Some (full_bar g N y c v)
    bar_at v l = ap (λ z. slice_get z.items v) p ∙ first_place (full_bar g N y c) g.vertices (xs ++ ps) v l

    pub figures : HasFigures d.items (length N.label)
    figures v l = record { figure = full_bar g N y c v; is = bar_at v (subst (λ z. v < z) A.labels l); kind = tt }

    places : (v : ℕ) → v < g.vertices → place_at d.items v ≡ bar_start g y c v
    places v l = place_is d.items v (full_bar g N y c v) (bar_at v l)

    pub finished : (e : Drawing) → e ≡ with d (labels N (place_at d.items) (length N.label)) → e ≡ boxes g N y c
    finished e q =
        q ∙ ap (λ z. with d (labels N (place_at d.items) z)) A.labels
        ∙ ap (λ z. with d z) (labels_same N (place_at d.items) (bar_start g y c) g.vertices places)
        ∙ ap (λ z. with z ls) p
        ∙ ap (tiles (frame_of g y c)) (append_assoc bs (xs ++ ps) ls ∙ ap (λ z. bs ++ z) (append_assoc xs ps ls))
      where
        ls : List Item
        ls = labels N (bar_start g y c) g.vertices
