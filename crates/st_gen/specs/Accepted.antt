-- A graph that is made is a planar st-graph, so the verdict names no fault for it.
--   PassesTests g orders s t   the graph g with these clockwise lists of edges passes each test of the verdict, with source s
--                              and sink t, and no fault can be named
--   AcceptedLaw                each graph that is made passes, with its default orders
--   PlainAcceptedLaw           so does its plain graph, as `make` answers it
-- Letters: n number of vertices, es their edges by tail and head, v vertex, s source, t sink, all by number.
-- The default order at a vertex has the edges out in file order and then the edges in in reverse file order. The outer face
-- is that of the first end in the list of the source.
use Rattle.std.specs.Prelude.{ℕ, ◌≡◌, ◌≢◌, ◌<◌, ◌≤◌, List, None}
use Rattle.st_ids.specs.Graph.{Graph}
use Rattle.st_map.specs.Fault.{IsMapFault}
use Rattle.st_map.specs.Orders.{IsOrderAt, order_at, embed}
use Rattle.st_map.specs.declared.orders.MapFault.{MapFault}
use Rattle.st_map.specs.declared.orders.MapFault.TheVariants as map_fault
use Rattle.st_test.specs.Planar.{IsPlanarSt, outer_of}
use Rattle.st_test.specs.Poles.{ArePoles, graph_of}
use Rattle.st_test.specs.PolesAnswer.{IsFirstDigraphFault}
use Rattle.st_test.specs.Verdict.{IsEmbedFault}
use Rattle.st_test.specs.declared.digraph_fault.DigraphFault.{DigraphFault}
use Rattle.st_test.specs.declared.digraph_fault.DigraphFault.TheVariants as digraph
use Rattle.st_test.specs.declared.verdict.EmbedFault.{EmbedFault}
use Rattle.st_test.specs.declared.verdict.EmbedFault.TheVariants as embedding
use Rattle.st_input.specs.InputGraph.{InputGraph}
use Rattle.st_input.specs.Orders.{AreAt, default_order}
use Rattle.st_input.specs.Plain.{plain_graph}
use Rattle.st_gen.specs.Made.{IsMade}

-- All seven tests of the verdict hold, with these poles and no others. So no fault of the digraph, of its lists or of the
-- embedding can be named, want of memory aside.
pub record PassesTests (g : Graph) (orders : List (List ℕ)) (s t : ℕ) : Type 0 where
  pub poles : ArePoles g s t
  pub lists : (v : ℕ) → v < g.vertices → IsOrderAt g.ends v (order_at orders v)
  pub planar : IsPlanarSt (embed g orders) s t (outer_of (embed g orders) s None)
  pub only_poles : (a b : ℕ) → ArePoles g a b → (a ≡ s) × (b ≡ t)
  pub no_digraph_fault : (f : DigraphFault) → f ≢ digraph.NoMemory → IsFirstDigraphFault g f → ⊥
  pub no_map_fault : (f : MapFault) → f ≢ map_fault.NoMemory → IsMapFault g orders f → ⊥
  pub no_embed_fault : (f : EmbedFault) → f ≢ embedding.NoMemory → IsEmbedFault (embed g orders) s t (outer_of (embed g orders) s None) f → ⊥

-- each graph that is made passes the tests, with its default orders
abbrev pub AcceptedLaw : Type 0
AcceptedLaw = (n seed : ℕ) (es : List (ℕ × ℕ)) (orders : List (List ℕ)) → 2 ≤ n → IsMade n seed es → AreAt n orders (default_order es)
    → PassesTests (graph_of n es) orders 0 1

-- each plain graph whose edges are made passes the tests, with the orders that it has
abbrev pub PlainAcceptedLaw : Type 0
PlainAcceptedLaw = (n seed : ℕ) (g : InputGraph) → 2 ≤ n → g.graph.vertices ≡ n → IsMade n seed g.graph.ends → g ≡ plain_graph g.graph → PassesTests g.graph g.orders 0 1
