-- What the definitions say together.
--   FitsTogether   the tables of the graph of a text without a fault fit together
--   KeepsLimits    a graph that is accepted is within the limits
--   ReadIsWritable   the graph of a sound text within limits can be written
--   LengthsDefault   where no edge has a least length, each has the length 1
--   FirstSameName   the first fault of the names of nodes, by their places
--   FirstSameEdgeId   the same for the ids of edges
use Rattle.std.specs.Prelude.{◌≡◌, ◌↔◌, ◌+◌, ◌<◌, ◌≤◌, ◌^◌, ℕ, List, [], length, Option, replicate, slice_get, codes, true, None, Some}
use Rattle.gml_core.specs.Trees.{Entry, Entries, listed}
use Rattle.gml_core.specs.Sound.{IsSound}
use Rattle.st_parts.specs.Used.{has_key, first_with}
use Rattle.st_parts.specs.Parts.{pairs_in}
use Rattle.st_parts.specs.declared.parts.Node.{Node}
use Rattle.st_parts.specs.declared.parts.Edge.{Edge}
use Rattle.st_input.specs.declared.fault.ShapeFault.{ShapeFault}
use Rattle.st_input.specs.Faults.{first_fault, node_fault, ids_fault}
use Rattle.st_input.specs.Repeats.{NodesHave, EdgesHave}
use Rattle.st_input.specs.InputGraph.{InputGraph, IsConsistent}
use Rattle.st_input.specs.Embedding.{embedded_graph}
use Rattle.st_input.specs.FirstFault.{shape_fault}
use Rattle.st_input.specs.Writable.{IsWritable}

-- the tables of the graph of a text without a fault fit together
abbrev pub FitsTogether : Type 0
FitsTogether = (text : Entries) (max_n max_m : ℕ) (g : InputGraph) → max_n < 2 ^ 30 → max_m < 2 ^ 30 → shape_fault text max_n max_m ≡ None → embedded_graph text ≡ Some g → IsConsistent g

-- the graph of a text without a fault has no more vertices and edges than the limits
abbrev pub KeepsLimits : Type 0
KeepsLimits = (text : Entries) (max_n max_m : ℕ) (g : InputGraph) → shape_fault text max_n max_m ≡ None → embedded_graph text ≡ Some g → (g.graph.vertices ≤ max_n) × (length g.graph.ends ≤ max_m)

-- no edge of the graph of a text has the key `minlen`
abbrev pub HasNoLengths : Entries → Type 0
HasNoLengths text = (g e : Entry) (k : ℕ) → first_with (codes "graph") (listed text) ≡ Some g → slice_get (pairs_in g) k ≡ Some e → has_key (codes "edge") e ≡ true → first_with (codes "minlen") (pairs_in e) ≡ None

-- where no edge has the key `minlen`, each edge has the length 1
abbrev pub LengthsDefault : Type 0
LengthsDefault = (text : Entries) (g : InputGraph) → HasNoLengths text → embedded_graph text ≡ Some g → g.lengths ≡ replicate (length g.graph.ends) 1

-- the graph of a sound text within the limits can be written
abbrev pub ReadIsWritable : Type 0
ReadIsWritable = (text : Entries) (max_n max_m : ℕ) (g : InputGraph) → IsSound text → max_n + max_m + 2 < 2 ^ 31 → max_m < 2 ^ 30 → shape_fault text max_n max_m ≡ None → embedded_graph text ≡ Some g → IsWritable g

-- the first fault of the names of nodes is what it says, and comes exactly then
abbrev pub FirstSameName : Type 0
FirstSameName = (ns : List Node) (fault : Option ShapeFault) → (first_fault node_fault [] ns ≡ fault) ↔ NodesHave ns fault

-- the first fault of the names of edges is what it says, and comes exactly then
abbrev pub FirstSameEdgeId : Type 0
FirstSameEdgeId = (es : List Edge) (fault : Option ShapeFault) → (ids_fault es ≡ fault) ↔ EdgesHave es fault
