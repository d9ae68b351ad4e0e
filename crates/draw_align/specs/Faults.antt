-- Which fault listed paths have: path by path in their order, and for each path in the order of the cases.
-- Letters: g sides, ps paths, n how many of the first paths, p and q numbers of paths, e edge, v vertex.
--   AreThere                       the edges of each path are edges of the graph
--   IsUnshared                     no edge of a path is in an earlier one
--   AreDisjoint                    the first n paths are walks that share no edges
--   AreApartAt, AreApart           no two of the first n paths cross, at v or at all
--   IsFaultOf                      the fault of a path, if it is the first that has one
--   IsFaultAt, IsFaultAmong        the fault of the path after the first n, and of one of the first n
--   IsFirstPathFault, IsPathFault  the first fault of all paths, and the answer
use Rattle.std.specs.Prelude.{ℕ, List, ◌≡◌, ◌<◌, length}
use Rattle.st_ids.specs.Lists.{In}
use Rattle.st_sides.specs.Sides.{SidesValue, edge_count}
use Rattle.draw_align.specs.Listed.{path_at, IsPath, IsShared, Cross, AreSound, IsFirstShared, IsFirstCrossing}
use Rattle.draw_align.specs.declared.path_fault.PathFault.{PathFault}
use Rattle.draw_align.specs.declared.path_fault.PathFault.TheVariants.{NotAPath, SharedEdge, Crossing, NoMemory}

-- the edges of each path are edges of the graph
abbrev pub AreThere : SidesValue → List (List ℕ) → Type 0
AreThere g ps = (p e : ℕ) → p < length ps → In e (path_at ps p) → e < edge_count g

-- no edge of path p is in an earlier path
abbrev pub IsUnshared : List (List ℕ) → ℕ → Type 0
IsUnshared ps p = (e : ℕ) → In e (path_at ps p) → IsShared ps p e → ⊥

-- each of the first n paths is a walk of at least one edge, and shares none with an earlier path
abbrev pub AreDisjoint : SidesValue → List (List ℕ) → ℕ → Type 0
AreDisjoint g ps n = (p : ℕ) → p < n → IsPath g (path_at ps p) × IsUnshared ps p

-- no two of the first n paths cross at v
abbrev pub AreApartAt : SidesValue → List (List ℕ) → ℕ → ℕ → Type 0
AreApartAt g ps n v = (p q : ℕ) → p < n → q < p → Cross g (path_at ps p) (path_at ps q) v → ⊥

-- no two of the first n paths cross
abbrev pub AreApart : SidesValue → List (List ℕ) → ℕ → Type 0
AreApart g ps n = (v : ℕ) → v < g.vertices → AreApartAt g ps n v

-- The fault of path p, if it is the first that has one: it is no walk, or else it shares an edge, or else it crosses a path.
abbrev pub IsFaultOf : SidesValue → List (List ℕ) → ℕ → PathFault → Type 0
IsFaultOf g ps n (NotAPath p) = (p ≡ n) × (IsPath g (path_at ps n) → ⊥)
IsFaultOf g ps n (SharedEdge p e) = (p ≡ n) × IsPath g (path_at ps n) × IsFirstShared ps n e.0
IsFaultOf g ps n (Crossing p q v) = (p ≡ n) × IsPath g (path_at ps n) × IsUnshared ps n × IsFirstCrossing g ps n q v.0
IsFaultOf g ps n NoMemory = ⊥

-- there is a path after the first n, and the fault is its
abbrev pub IsFaultAt : SidesValue → List (List ℕ) → ℕ → PathFault → Type 0
IsFaultAt g ps n f = (n < length ps) × IsFaultOf g ps n f

-- the fault is that of one of the first n paths, before which no two cross
pub record IsFaultAmong (g : SidesValue) (ps : List (List ℕ)) (n : ℕ) (f : PathFault) : Type 0 where
  pub path : ℕ
  pub there : path < n
  pub before : AreApart g ps path
  pub fault : IsFaultOf g ps path f

-- the fault is that of a path before which all are sound
pub record IsFirstPathFault (g : SidesValue) (ps : List (List ℕ)) (f : PathFault) : Type 0 where
  pub path : ℕ
  pub there : path < length ps
  pub before : AreSound g ps path
  pub fault : IsFaultOf g ps path f

-- the first fault of the paths; want of memory alone is free
abbrev pub IsPathFault : SidesValue → List (List ℕ) → PathFault → Type 0
IsPathFault g ps (NotAPath p) = IsFirstPathFault g ps (NotAPath p)
IsPathFault g ps (SharedEdge p e) = IsFirstPathFault g ps (SharedEdge p e)
IsPathFault g ps (Crossing p q v) = IsFirstPathFault g ps (Crossing p q v)
IsPathFault g ps NoMemory = Unit {0}
