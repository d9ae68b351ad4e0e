-- Whether the graph of a file is a planar st-graph, and why it isn't, in the names of the file.
--   file_vertex_name, file_edge_name  the name of a vertex, of an edge
--   HasPoles g                        at least two vertices, no cycle, one source and one sink
--   HasMap g                          each order lists the edges at its vertex
--   outer_or_first g m s              the end whose face is the outer one: the named one, else the first at the source
--   IsPlanar g p m                    Euler's formula, and both poles on the outer face
--   IsAccepted g                      all seven tests in their order: the planar st-graph, or the first that fails
--   IsFound g st                      st is a planar st-graph with the vertices and edges of the file's graph
use Rattle.std.specs.Prelude.{◌≡◌, ℕ, ◌<◌, ℤ, pos, map, slice_index, slice_index_or, unwrap_or, Result, Ok, Err}
use Rattle.st_ids.specs.declared.ids.VertexId.{VertexId}
use Rattle.st_map.specs.Embedded.{Embedded, order}
use Rattle.st_map.specs.Orders.{IsOrderAt, order_at, embed}
use Rattle.st_map.specs.Fault.{IsMapFault}
use Rattle.st_map.specs.declared.orders.MapFault.TheVariants as map_fault
use Rattle.st_test.specs.Poles.{ArePoles}
use Rattle.st_test.specs.PolesAnswer.{IsFirstDigraphFault}
use Rattle.st_test.specs.Planar.{IsPlanarSt, StValue}
use Rattle.st_test.specs.Verdict.{IsEmbedFault}
use Rattle.st_test.specs.declared.digraph_fault.Poles.{Poles}
use Rattle.st_test.specs.declared.digraph_fault.DigraphFault.{DigraphFault}
use Rattle.st_test.specs.declared.digraph_fault.DigraphFault.TheVariants as digraph
use Rattle.st_test.specs.declared.verdict.EmbedFault.{EmbedFault}
use Rattle.st_test.specs.declared.verdict.EmbedFault.TheVariants as embedding
use Rattle.st_input.specs.InputGraph.{InputGraph}
use Rattle.st_report.specs.declared.stop.NotSt.{NotSt}
use Rattle.st_report.specs.declared.stop.NotSt.TheVariants.{TooFew, Cycle, Sources, Sinks, BadOrder, BadFaces, Outer}
use Rattle.st_report.specs.declared.stop.Refusal.{Refusal}
use Rattle.st_report.specs.declared.stop.Refusal.TheVariants as refusal
use Rattle.st_verdict.specs.Stages.{Then, IsToldBy, IsOne}

-- the name of a vertex, of an edge
abbrev pub file_vertex_name : InputGraph → ℕ → ℤ
file_vertex_name g v = slice_index_or g.vertex_names v (pos 0)

abbrev pub file_edge_name : InputGraph → ℕ → ℤ
file_edge_name g e = slice_index_or g.edge_names e (pos 0)

-- what is told of a fault of the digraph: the same with names for numbers
abbrev pub TellsDigraph : InputGraph → DigraphFault → NotSt → Type 0
TellsDigraph g (digraph.TooFew n) why = why ≡ TooFew n
TellsDigraph g (digraph.Cycle es) why = why ≡ Cycle (map (file_edge_name g) es)
TellsDigraph g (digraph.Sources a b n) why = why ≡ Sources (file_vertex_name g a.0) (file_vertex_name g b.0) n
TellsDigraph g (digraph.Sinks a b n) why = why ≡ Sinks (file_vertex_name g a.0) (file_vertex_name g b.0) n
TellsDigraph g digraph.NoMemory why = ⊥

-- what is told of a fault of the embedding
abbrev pub TellsEmbedding : EmbedFault → NotSt → Type 0
TellsEmbedding (embedding.BadFaces v e f) why = why ≡ BadFaces v e f
TellsEmbedding (embedding.Outer a b) why = why ≡ Outer a b
TellsEmbedding embedding.NoMemory why = ⊥

-- the first test on the digraph that fails
abbrev pub HasNoPoles : InputGraph → NotSt → Type 0
HasNoPoles g why = (fault : DigraphFault) × IsFirstDigraphFault g.graph fault × TellsDigraph g fault why

-- at least two vertices, no cycle, one source, one sink; else the first of these tests that fails
abbrev pub HasPoles : InputGraph → Result Poles Refusal → Type 0
HasPoles g (Ok p) = ArePoles g.graph p.source.0 p.sink.0
HasPoles g (Err r) = IsToldBy (λ why. refusal.NotSt why) (HasNoPoles g) r

-- each order lists each edge at its vertex once and no other; else the first vertex whose order doesn't
abbrev pub HasMap : InputGraph → Result Embedded Refusal → Type 0
HasMap g (Ok m) = (m ≡ embed g.graph g.orders) × ((v : ℕ) → v < g.graph.vertices → IsOrderAt g.graph.ends v (order_at g.orders v))
HasMap g (Err r) = IsToldBy (λ (v : VertexId). refusal.NotSt (BadOrder (file_vertex_name g v.0))) (λ v. IsMapFault g.graph g.orders (map_fault.BadOrder v)) r

-- the end whose face is the outer one: the one that the file names, else the first in the order of the source
abbrev pub outer_or_first : InputGraph → Embedded → ℕ → ℕ
outer_or_first g m s = unwrap_or g.outer (slice_index (order m s) 0)

-- the first test on the embedding that fails
abbrev pub IsNotPlanar : InputGraph → Poles → Embedded → NotSt → Type 0
IsNotPlanar g p m why = (fault : EmbedFault) × IsEmbedFault m p.source.0 p.sink.0 (outer_or_first g m p.source.0) fault × TellsEmbedding fault why

-- Euler's formula and both poles on the outer face; else the first of these two tests that fails
abbrev pub IsPlanar : InputGraph → Poles → Embedded → Result StValue Refusal → Type 0
IsPlanar g p m (Ok st) = IsPlanarSt m p.source.0 p.sink.0 (outer_or_first g m p.source.0)
    × (st ≡ record { map = record { graph = m; spare = 0 }; source = p.source.0; sink = p.sink.0; outer = outer_or_first g m p.source.0 })
IsPlanar g p m (Err r) = IsToldBy (λ why. refusal.NotSt why) (IsNotPlanar g p m) r

-- the planar st-graph of the file, or the first of the seven tests that fails
abbrev pub IsAccepted : InputGraph → Result StValue Refusal → Type 0
IsAccepted g = Then (HasPoles g) (λ p. Then (HasMap g) (IsPlanar g p))

-- a planar st-graph with the vertices and edges of the file's graph
pub record IsFound (g : InputGraph) (st : StValue) : Type 0 where
  pub planar : IsPlanarSt st.map.graph st.source st.sink st.outer
  pub vertices : st.map.graph.vertices ≡ g.graph.vertices
  pub ends : st.map.graph.ends ≡ g.graph.ends

-- a graph is a planar st-graph in one way, or fails one test first with one evidence
abbrev pub OneVerdict : Type 0
OneVerdict = (g : InputGraph) → IsOne (IsAccepted g)
