-- The dots and lines of a dominance picture.
--   dummy_is                      the dummy of an edge, from the table
--   dot_in, line_in               dots and lines lie in the frame
--   dummied_some, dummied_none    the points of the line of an edge
use Rattle.std.proofs.Common.{ℕ, zero, suc, List, [], ◌∷◌, ◌≡◌, ◌<◌, ◌≤◌, ◌⊎◌, inl, inr, refl, sym, ap, ◌∙◌, subst, arith, length, map, get_or, slice_get, Option, option_map, Some, None}
use Rattle.std.specs.List.{AllByRecursion}
use Rattle.st_ids.specs.declared.ids.VertexId.{VertexId}
use Rattle.st_ids.specs.declared.names.Names.{Names}
use Rattle.st_shape.specs.declared.point.Point.{Point}
use Rattle.st_shape.specs.Inside.{IsInside}
use Rattle.st_shape.specs.Rules.{FitsFrame}
use Rattle.st_sides.specs.Sides.{SidesValue, edge_count, edge_tail, edge_head, IsSides}
use Rattle.st_picture.specs.Items.{line}
use Rattle.st_reduce.specs.Marks.{dummy_numbers}
use Rattle.st_reduce.specs.Reduced.{dummy_at}
use Rattle.draw_dom.specs.Pictures.{through, dummied}
use Rattle.draw_dom.specs.Points.{vertex_point}
use Rattle.draw_dom.specs.Shown.{AreDots}

entry : (ds : List (Option VertexId)) (e : ℕ) (o : Option VertexId) → slice_get ds e ≡ Some o → get_or (map (option_map (λ (w : VertexId). w.0)) ds) e None ≡ option_map (λ (w : VertexId). w.0) o
entry [] e o q = absurd (cc q)
entry (d ∷ ds) zero o q = ap (option_map (λ (w : VertexId). w.0)) (cc q)
entry (d ∷ ds) (suc e) o q = entry ds e o q

pub dummy_is : (ds : List (Option VertexId)) (e : ℕ) (o : Option VertexId) → slice_get ds e ≡ Some o → dummy_at (dummy_numbers ds) e ≡ option_map (λ (w : VertexId). w.0) o
unfolding dummy_at
dummy_is ds e o q = entry ds e o q

option_cases : (o : Option ℕ) → (o ≡ None) ⊎ ((w : ℕ) × (o ≡ Some w))
option_cases None = inl refl
option_cases (Some w) = inr (w, refl)

-- ---- frames
module _ (g : SidesValue) (S : IsSides g) (N : Names) (ds : List (Option VertexId)) (points : List Point) (D : AreDots g ds points) where
  abbrev dummy : ℕ → Option ℕ
  dummy = dummy_at (dummy_numbers ds)

  abbrev corner : Point
  corner = vertex_point points g.sink

  abbrev place : ℕ → Point
  place = vertex_point points

  pub dot_in : (v : ℕ) → v < g.vertices → IsInside corner (place v)
  dot_in v l = (let m = D.vertices in D.inside v (omega arith))

  pub line_in : (e : ℕ) → e < edge_count g → FitsFrame corner (line g N (dummied g dummy place) e)
  line_in e a =
      let t = dot_in (edge_tail g e) (S.tail_in e a) in
      let h = dot_in (edge_head g e) (S.head_in e a) in
      elim (option_cases (dummy e)) [
        | inl q ↦ subst (λ z. (2 ≤ length z) × (length z ≤ 4) × AllByRecursion (IsInside corner) z) (sym (ap (through (place (edge_tail g e)) (place (edge_head g e)) place) q)) (omega arith, omega arith, (t, (h, tt)))
        | inr w ↦ subst (λ z. (2 ≤ length z) × (length z ≤ 4) × AllByRecursion (IsInside corner) z) (sym (ap (through (place (edge_tail g e)) (place (edge_head g e)) place) w.1)) (omega arith, omega arith, (t, (D.inside w.0 (D.dummies_in e w.0 a w.1), (h, tt))))
      ]

-- ---- the line of an edge from its points
module _ (g : SidesValue) (ds : List (Option VertexId)) (points : List Point) where
  pub dummied_some : (e t h w : ℕ) (low high mid : Point) (ps : List Point) → t ≡ edge_tail g e → h ≡ edge_head g e → dummy_at (dummy_numbers ds) e ≡ Some w → low ≡ vertex_point points t → high ≡ vertex_point points h → mid ≡ vertex_point points w → ps ≡ low ∷ mid ∷ high ∷ [] → ps ≡ dummied g (dummy_at (dummy_numbers ds)) (vertex_point points) e
  dummied_some e t h w low high mid ps p q d l k m r =
      r ∙ ap (λ z. z ∷ mid ∷ high ∷ []) (l ∙ ap (vertex_point points) p) ∙ ap (λ z. vertex_point points (edge_tail g e) ∷ mid ∷ z ∷ []) (k ∙ ap (vertex_point points) q) ∙ ap (λ z. vertex_point points (edge_tail g e) ∷ z ∷ vertex_point points (edge_head g e) ∷ []) m
      ∙ sym (ap (through (vertex_point points (edge_tail g e)) (vertex_point points (edge_head g e)) (vertex_point points)) d)

  pub dummied_none : (e t h : ℕ) (low high : Point) (ps : List Point) → t ≡ edge_tail g e → h ≡ edge_head g e → dummy_at (dummy_numbers ds) e ≡ None → low ≡ vertex_point points t → high ≡ vertex_point points h → ps ≡ low ∷ high ∷ [] → ps ≡ dummied g (dummy_at (dummy_numbers ds)) (vertex_point points) e
  dummied_none e t h low high ps p q d l k r =
      r ∙ ap (λ z. z ∷ high ∷ []) (l ∙ ap (vertex_point points) p) ∙ ap (λ z. vertex_point points (edge_tail g e) ∷ z ∷ []) (k ∙ ap (vertex_point points) q)
      ∙ sym (ap (through (vertex_point points (edge_tail g e)) (vertex_point points (edge_head g e)) (vertex_point points)) d)
