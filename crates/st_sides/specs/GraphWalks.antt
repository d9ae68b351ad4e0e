-- Walks along the edges of a graph with clockwise lists.
--   IsWalk g u es v    the edges es lead from u to v, each beginning where the one before it ends
--   HasNoCycle g       no walk of at least one edge leads back to its first vertex
-- Letters: g graph with its lists, u and v vertices, es list of edges.
use Rattle.std.specs.Prelude.{ℕ, List}
use Rattle.st_ids.specs.Graph.{arcs_of}
use Rattle.st_ids.specs.Walks.{Walk, IsAcyclic}
use Rattle.st_map.specs.Embedded.{Embedded, bare}

-- es is a walk from u to v
abbrev pub IsWalk : Embedded → ℕ → List ℕ → ℕ → Type 0
IsWalk g u es v = Walk (arcs_of (bare g)) u es v

-- no walk of at least one edge leads back to its first vertex
abbrev pub HasNoCycle : Embedded → Type 0
HasNoCycle g = IsAcyclic (arcs_of (bare g))
