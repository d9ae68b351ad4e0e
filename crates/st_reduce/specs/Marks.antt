-- Marks of edges, and the new vertices of split edges.
--   marked m p           the marks m, with that of the edge of a path that has one edge alone
--   AreTransitive x m    the marked edges are the transitive ones
--   AreMarks g m         m marks the transitive edges of a planar st-graph g
--   marked_below m k     how many of the first k edges are marked
--   dummy_numbers ds     the numbers of the new vertices
use Rattle.std.specs.Prelude.{ℕ, List, [], ◌∷◌, Bool, true, false, ◌≡◌, ◌<◌, ◌↔◌, length, map, Option, option_map, slice_index_or, slice_set}
use Rattle.st_ids.specs.declared.ids.VertexId.{VertexId}
use Rattle.st_sides.specs.Sides.{SidesValue, edge_count, primal}
use Rattle.st_map.specs.Counting.{count_below}
use Rattle.st_map.specs.Embedded.{Embedded, edges}
use Rattle.st_test.specs.Planar.{IsPlanarSt}
use Rattle.st_reduce.specs.Reduced.{IsTransitiveEdge}
use Rattle.st_reduce.specs.Transitive.{IsTransitive}

-- the marks, with that of the edge of a path that has one edge alone
abbrev pub marked : List Bool → List ℕ → List Bool
marked m [] = m
marked m (e ∷ []) = slice_set m e true
marked m (e ∷ d ∷ es) = m

-- the marked edges are the transitive ones
pub record AreTransitive (x : SidesValue) (m : List Bool) : Type 0 where
  pub size : length m ≡ edge_count x
  pub each : (e : ℕ) → e < edge_count x → (slice_index_or m e false ≡ true) ↔ IsTransitive (primal x) e

-- g is a planar st-graph, and the marked edges are the transitive ones
pub record AreMarks (g : Embedded) (m : List Bool) : Type 0 where
  pub source : ℕ
  pub sink : ℕ
  pub outer : ℕ
  pub planar : IsPlanarSt g source sink outer
  pub size : length m ≡ edges g
  pub each : (e : ℕ) → e < edges g → (slice_index_or m e false ≡ true) ↔ IsTransitiveEdge g e

-- how many of the first k edges are marked
abbrev pub marked_below : List Bool → ℕ → ℕ
marked_below m k = count_below k (λ e. slice_index_or m e false)

-- the numbers of the new vertices
abbrev pub dummy_numbers : List (Option VertexId) → List (Option ℕ)
dummy_numbers ds = map (option_map (λ w. w.0)) ds
