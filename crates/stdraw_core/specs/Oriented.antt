-- What an orientation answers about the graph of a file, found in stages.
-- Letters: g graph of the file, p its poles, m the map of its orders, b which edges are turned, h the orientation.
--   ArePolesNamed from to g     the vertices of the two names
--   AreTwo p                    they are two vertices
--   IsFirstLoop f e             the first edge that leads from a vertex to itself
--   IsLoopless g                there is none
--   written_graph g p m b h     the file's graph with the ends that the edges have in the orientation, and its outer end
--   IsOrientedFile g p m out    the file of an orientation: the printed form of the tree of that graph
--   TellsOrient g fault r       what is told of a fault: the same with names for numbers
--   AnswersPlane g p m          that file, or the first fault
--   AnswersGraphOriented        all stages behind the graph
--   AnswersOrient from to       all stages
-- Which orientation is answered is free; the poles are the source and the sink.
use Rattle.std.specs.Prelude.{◌≡◌, ◌≢◌, ℕ, ◌<◌, ℤ, Bool, List, [], ◌∷◌, length, Result, Ok, Err}
use Rattle.gml_core.specs.Printing.{printed}
use Rattle.gml_core.specs.Sound.{IsSound}
use Rattle.st_bipolar.specs.Orientation.{IsOrientation, turned_end}
use Rattle.st_bipolar.specs.OrientFault.{IsOrientFault}
use Rattle.st_bipolar.specs.declared.orienting.OrientFault.{OrientFault}
use Rattle.st_bipolar.specs.declared.orienting.OrientFault.TheVariants as orient_fault
use Rattle.st_ids.specs.Graph.{Graph, tail_of, head_of}
use Rattle.st_input.specs.InputGraph.{InputGraph}
use Rattle.st_input.specs.WithEnds.{with_ends}
use Rattle.st_writer.specs.Written.{written_entries}
use Rattle.st_map.specs.Embedded.{Embedded, bare}
use Rattle.st_map.specs.Orders.{HasNoLoop}
use Rattle.st_report.specs.declared.stop.NoOrientation.TheVariants.{OnePole, Loop, Apart, Cut}
use Rattle.st_report.specs.declared.stop.NotSt.TheVariants.{BadFaces, Outer}
use Rattle.st_report.specs.declared.stop.Refusal.{Refusal}
use Rattle.st_report.specs.declared.stop.Refusal.TheVariants.{NoOrientation, NotSt, UnknownVertex}
use Rattle.st_test.specs.declared.digraph_fault.Poles.{Poles}
use Rattle.st_verdict.specs.File.{IsGraphWithin}
use Rattle.st_verdict.specs.Stages.{Then, IsToldBy}
use Rattle.st_verdict.specs.Verdict.{HasMap, outer_or_first, file_vertex_name, file_edge_name}
use Rattle.stdraw_core.specs.Query.{IsNamed, IsFirstUnknown}

-- the vertices of the two names; else the first name that no vertex has
abbrev pub ArePolesNamed : ℤ → ℤ → InputGraph → Result Poles Refusal → Type 0
ArePolesNamed from to g (Ok p) = IsNamed g p.source.0 from × IsNamed g p.sink.0 to
ArePolesNamed from to g (Err r) = IsToldBy (λ name. UnknownVertex name) (IsFirstUnknown g (from ∷ to ∷ [])) r

-- the poles are two vertices
abbrev pub AreTwo : Poles → Result (Unit {0}) Refusal → Type 0
AreTwo p (Ok _) = p.source.0 ≢ p.sink.0
AreTwo p (Err r) = (r ≡ NoOrientation OnePole) × (p.source.0 ≡ p.sink.0)

-- the first edge that leads from a vertex to itself
pub record IsFirstLoop (f : Graph) (e : ℕ) : Type 0 where
  pub there : e < length f.ends
  pub loop : tail_of f.ends e ≡ head_of f.ends e
  pub first : (k : ℕ) → k < e → tail_of f.ends k ≢ head_of f.ends k

-- no edge leads from a vertex to itself; else the first that does
abbrev pub IsLoopless : InputGraph → Result (Unit {0}) Refusal → Type 0
IsLoopless g (Ok _) = HasNoLoop g.graph
IsLoopless g (Err r) = IsToldBy (λ e. NoOrientation (Loop (file_edge_name g e))) (IsFirstLoop g.graph) r

-- the end that names the outer face, before any edge is turned
abbrev pub outer_at : InputGraph → Poles → Embedded → ℕ
outer_at g p m = outer_or_first g m p.source.0

-- the file's graph with the ends that the edges have in the orientation, and with its outer end
abbrev pub written_graph : InputGraph → Poles → Embedded → (ℕ → Bool) → Embedded → InputGraph
written_graph g p m b h = with_ends g (bare h) (turned_end b (outer_at g p m))

-- the printed form of the tree of an orientation, which is sound: so it is read again
pub record IsOrientedFile (g : InputGraph) (p : Poles) (m : Embedded) (out : List ℕ) : Type 0 where
  pub b : ℕ → Bool
  pub h : Embedded
  pub is : IsOrientation m p.source.0 p.sink.0 (outer_at g p m) b h
  pub sound : IsSound (written_entries (written_graph g p m b h))
  pub text : out ≡ printed (written_entries (written_graph g p m b h))

-- what is told of a fault
abbrev pub TellsOrient : InputGraph → OrientFault → Refusal → Type 0
TellsOrient g (orient_fault.Apart v) r = r ≡ NoOrientation (Apart (file_vertex_name g v.0))
TellsOrient g (orient_fault.BadFaces v e f) r = r ≡ NotSt (BadFaces v e f)
TellsOrient g (orient_fault.Outer a b) r = r ≡ NotSt (Outer a b)
TellsOrient g (orient_fault.Cut c v) r = r ≡ NoOrientation (Cut (file_vertex_name g c.0) (file_vertex_name g v.0))
TellsOrient g orient_fault.NoMemory r = ⊥

-- the same as a stage that finds nothing
abbrev pub TellsAt : InputGraph → OrientFault → Result (List ℕ) Refusal → Type 0
TellsAt g fault (Ok _) = ⊥
TellsAt g fault (Err r) = TellsOrient g fault r

-- the vertices that a fault names are there
abbrev pub IsThere : InputGraph → OrientFault → Type 0
IsThere g (orient_fault.Apart v) = v.0 < g.graph.vertices
IsThere g (orient_fault.Cut c v) = (c.0 < g.graph.vertices) × (v.0 < g.graph.vertices)
IsThere g _ = Unit {0}

-- a fault of the map, in the names of the file
abbrev pub HasOrientFault : InputGraph → Poles → Embedded → Refusal → Type 0
HasOrientFault g p m r = (fault : OrientFault) × IsOrientFault m p.source.0 p.sink.0 (outer_at g p m) fault × TellsOrient g fault r

-- the file of an orientation; else the first fault
abbrev pub AnswersPlane : InputGraph → Poles → Embedded → Result (List ℕ) Refusal → Type 0
AnswersPlane g p m (Ok out) = IsOrientedFile g p m out
AnswersPlane g p m (Err r) = HasOrientFault g p m r

-- what is answered about a graph and its poles: a loop comes first, then an order that is none
abbrev pub AnswersPoles : InputGraph → Poles → Result (List ℕ) Refusal → Type 0
AnswersPoles g p = Then (AreTwo p) (λ _. Then (IsLoopless g) (λ _. Then (HasMap g) (AnswersPlane g p)))

-- what is answered about a graph
abbrev pub AnswersGraphOriented : ℤ → ℤ → InputGraph → Result (List ℕ) Refusal → Type 0
AnswersGraphOriented from to g = Then (ArePolesNamed from to g) (AnswersPoles g)

-- what is answered to the bytes of a file
abbrev pub AnswersOrient : ℤ → ℤ → List ℕ → Result (List ℕ) Refusal → Type 0
AnswersOrient from to bytes = Then (IsGraphWithin bytes) (AnswersGraphOriented from to)
