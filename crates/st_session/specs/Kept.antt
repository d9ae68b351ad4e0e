-- What a session keeps.
-- Letters: g graph with its lists, s source, t sink, outer an end of the outer face, l the numbers of the vertices, x value of
-- a session.
--   AreLabelsOf g s t outer l    l is the labels of sides of the graph, and decides reaching
--   session_value ..             the value of a session that keeps these
--   IsKeptSession x s t known           the state is a planar st-graph with these poles, with a name for each vertex and edge,
--                                within the limits, and the labels that are known, if any, are its
use Rattle.std.specs.Prelude.{ℕ, ℤ, ◌≡◌, ◌^◌, ◌<◌, ◌≤◌, ◌↔◌, List, Option, IfSome, length}
use Rattle.st_ids.specs.Graph.{arcs_of}
use Rattle.st_ids.specs.Walks.{Reaches}
use Rattle.st_map.specs.Embedded.{Embedded, bare, edges}
use Rattle.st_order.specs.Labels.{AreAtMost, AreLabels}
use Rattle.st_order.specs.declared.table.Labels.{Labels}
use Rattle.st_sides.specs.Held.{HasSizes}
use Rattle.st_sides.specs.Sides.{SidesValue}
use Rattle.st_sides.specs.SidesOf.{IsSidesOf}
use Rattle.st_test.specs.Planar.{IsPlanarSt}
use Rattle.st_session.specs.States.{SessionValue}

pub record AreLabelsOf (g : Embedded) (s t outer : ℕ) (l : Labels) : Type 0 where
  pub sides : SidesValue
  pub are_sides : IsSidesOf g s t outer sides
  pub sizes : HasSizes sides
  pub are : AreLabels sides l
  pub reaches : (u v : ℕ) → u < g.vertices → v < g.vertices → Reaches (arcs_of (bare g)) u v ↔ AreAtMost l u v

abbrev pub session_value : Embedded → List ℤ → List ℤ → ℕ → ℕ → ℕ → SessionValue
session_value g vertex_names edge_names outer max_vertices max_edges = record {
  state = record { graph = g; vertex_names = vertex_names; edge_names = edge_names; outer = outer };
  max_vertices = max_vertices;
  max_edges = max_edges;
}

pub record IsKeptSession (x : SessionValue) (s t : ℕ) (known : Option Labels) : Type 0 where
  pub planar : IsPlanarSt x.state.graph s t x.state.outer
  pub vertex_names : length x.state.vertex_names ≡ x.state.graph.vertices
  pub edge_names : length x.state.edge_names ≡ edges x.state.graph
  pub few_vertices : x.max_vertices < 2 ^ 29
  pub few_edges : x.max_edges < 2 ^ 29
  pub vertices : x.state.graph.vertices ≤ x.max_vertices
  pub edges : edges x.state.graph ≤ x.max_edges
  pub labels : IfSome known (AreLabelsOf x.state.graph s t x.state.outer)
