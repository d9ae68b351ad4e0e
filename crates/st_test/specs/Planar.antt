-- What an embedded planar st-graph is.
--   IsPlanarSt g s t outer   no cycle, one source, one sink, lawful lists, Euler's formula, both poles on the outer face
--   outer_of g s outer       the end that names the outer face: the one that is handed in, else the first of the source
-- Euler's formula takes the place of a drawing, which is never searched for.
use Rattle.std.specs.Prelude.{ℕ, ◌≡◌, ◌+◌, ◌<◌, ◌≤◌, Option, Some, None, slice_index}
use Rattle.st_ids.specs.Graph.{Graph, HasEnds, arcs_of}
use Rattle.st_ids.specs.Walks.{IsAcyclic}
use Rattle.st_ids.specs.declared.ends.Dart.{Dart}
use Rattle.st_map.specs.Embedded.{Embedded, HasOrders, MapValue, Touches, bare, darts, edges, faces, order}
use Rattle.st_map.specs.Orders.{HasNoLoop}
use Rattle.st_test.specs.Poles.{IsOnlySource, IsOnlySink}

-- g is a planar st-graph with source s and sink t, whose outer face is that of the end outer
pub record IsPlanarSt (g : Embedded) (s t outer : ℕ) : Type 0 where
  pub ends_in : HasEnds (bare g)
  pub two : 2 ≤ g.vertices
  pub no_cycle : IsAcyclic (arcs_of (bare g))
  pub source : IsOnlySource (bare g) s
  pub sink : IsOnlySink (bare g) t
  pub orders : HasOrders g
  pub euler : g.vertices + faces g ≡ edges g + 2
  pub outer_in : outer < darts g
  pub outer_s : Touches g outer s
  pub outer_t : Touches g outer t

-- the end that names the outer face
abbrev pub outer_of : Embedded → ℕ → Option Dart → ℕ
outer_of g s None = slice_index (order g s) 0
outer_of g s (Some d) = d.0

-- What an `StGraph` is seen as: its map, its poles, and the end that names its outer face.
pub record StValue : Type 0 where
  pub map : MapValue
  pub source : ℕ
  pub sink : ℕ
  pub outer : ℕ

-- an edge from a vertex to itself is a cycle
abbrev pub AcyclicIsLoopless : Type 0
AcyclicIsLoopless = (g : Graph) → IsAcyclic (arcs_of g) → HasNoLoop g
