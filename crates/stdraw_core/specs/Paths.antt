-- The paths that a file lists: which can be drawn in one column each, and what is told of others.
-- Letters: g graph of the file, st planar st-graph, x its sides, ps paths as lists of edges, p and q numbers of paths.
--   paths_in g              the paths of the file: the edges of each, by number
--   HasKnownEdges g         each name in a path is that of an edge
--   AreSidesIn st x         x has the sides of the planar st-graph, with an entry for each vertex, edge and node
--   AreValidPaths g st      each name is known, each path is a walk, no two share an edge, and no two cross
--   HasValidPaths form g st   so it is where the form looks at paths
--   TellsPath g fault why   what is told of a fault of the paths: the same with names for numbers
--   IsBadPath g st why      why is the first name that no edge has, or else the first fault of the paths
--   RefusesDraw             the graph is refused for its paths, by the form that looks at them
use Rattle.std.specs.Prelude.{◌≡◌, ℕ, ℤ, List, length, None, Some}
use Rattle.st_test.specs.Planar.{StValue}
use Rattle.st_sides.specs.Sides.{SidesValue}
use Rattle.st_sides.specs.SidesOf.{IsSidesOf}
use Rattle.st_sides.specs.Held.{HasSizes}
use Rattle.st_input.specs.InputGraph.{InputGraph}
use Rattle.st_input.specs.Paths.{paths_by, path_name_fault}
use Rattle.st_input.specs.declared.fault.PathNameFault.TheVariants as unknown
use Rattle.draw_align.specs.Faults.{IsFirstPathFault}
use Rattle.draw_align.specs.Listed.{AreSound}
use Rattle.draw_align.specs.declared.path_fault.PathFault.{PathFault}
use Rattle.draw_align.specs.declared.path_fault.PathFault.TheVariants as fault
use Rattle.st_words.specs.declared.words.DrawForm.{DrawForm}
use Rattle.st_words.specs.declared.words.DrawForm.TheVariants.{Constrained}
use Rattle.st_report.specs.declared.stop.BadPath.{BadPath}
use Rattle.st_report.specs.declared.stop.BadPath.TheVariants.{UnknownEdge, NotAPath, SharedEdge, Crossing}
use Rattle.st_report.specs.declared.stop.Refusal.{Refusal}
use Rattle.st_report.specs.declared.stop.Refusal.TheVariants.{Path}
use Rattle.st_verdict.specs.Stages.{IsToldBy}
use Rattle.st_verdict.specs.Verdict.{file_vertex_name, file_edge_name}

-- the paths of the file: the edges of each, by number
abbrev pub paths_in : InputGraph → List (List ℕ)
paths_in g = paths_by g.edge_names g.paths

-- each name in a path is that of an edge
abbrev pub HasKnownEdges : InputGraph → Type 0
HasKnownEdges g = path_name_fault g.edge_names g.paths ≡ None

-- the sides of the planar st-graph
pub record AreSidesIn (st : StValue) (x : SidesValue) : Type 0 where
  pub sides : IsSidesOf st.map.graph st.source st.sink st.outer x
  pub sizes : HasSizes x

-- Each name in a path is that of an edge. Each path is a walk of at least one edge that shares no edge with an earlier path and
-- crosses none.
pub record AreValidPaths (g : InputGraph) (st : StValue) : Type 0 where
  pub known : HasKnownEdges g
  pub sides : SidesValue
  pub are : AreSidesIn st sides
  pub sound : AreSound sides (paths_in g) (length (paths_in g))

-- one form alone looks at the paths
abbrev pub HasValidPaths : DrawForm → InputGraph → StValue → Type 0
HasValidPaths Constrained g st = AreValidPaths g st
HasValidPaths form g st = Unit {0}

-- what is told of a fault of the paths: the same with names for numbers
abbrev pub TellsPath : InputGraph → PathFault → BadPath → Type 0
TellsPath g (fault.NotAPath p) why = why ≡ NotAPath p
TellsPath g (fault.SharedEdge p e) why = why ≡ SharedEdge p (file_edge_name g e.0)
TellsPath g (fault.Crossing p q v) why = why ≡ Crossing p q (file_vertex_name g v.0)
TellsPath g fault.NoMemory why = ⊥

-- A name that no edge has goes before all else: that of the first path with one, and in it the first. Where all are known, it is
-- the first fault of the paths.
pub data IsBadPath (g : InputGraph) (st : StValue) (why : BadPath) : Type 0 where
  unknown_edge : (p : ℕ) (name : ℤ) → path_name_fault g.edge_names g.paths ≡ Some (unknown.UnknownEdge p name) → why ≡ UnknownEdge p name → IsBadPath g st why
  first_fault : HasKnownEdges g → (x : SidesValue) → AreSidesIn st x → (f : PathFault) → IsFirstPathFault x (paths_in g) f → TellsPath g f why → IsBadPath g st why

-- the form that looks at paths refuses them where they aren't valid; no other form refuses
abbrev pub RefusesDraw : DrawForm → InputGraph → StValue → Refusal → Type 0
RefusesDraw Constrained g st refusal = IsToldBy (λ why. Path why) (IsBadPath g st) refusal
RefusesDraw form g st refusal = ⊥
