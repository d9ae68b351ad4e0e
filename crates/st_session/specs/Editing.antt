-- Which edits keep a planar st-graph.
-- Letters: g graph with its lists, s source, t sink, outer an end on the outer face, p and q ends after which the ends of
-- a new edge stand, e and i edges, o an end or an edge.
--   CornersMeet g p q          the clockwise nexts of p and q are of one face
--   IsOuterCorner g outer p    the clockwise next of p is of the outer face
--   OthersIn g e, OthersOut g e    another edge than e comes to e's head, another one leads from e's tail
--   IsSomePlanarSt g           a planar st-graph for some poles and outer end
--   outer_after g e o          the outer end after e is taken out
--   InsertionIs g s t outer p q    when a new edge keeps a planar st-graph
--   RemovalIs g s t outer e    when a planar st-graph stays one without e
--   InsertionLaw, RemovalLaw   that is so in every planar st-graph
-- Stated for all poles and outer ends of the graph afterwards: what is refused is no planar st-graph however its outer face
-- is chosen.
use Rattle.std.specs.Prelude.{ℕ, ◌≡◌, ◌≢◌, ◌-◌, ◌<◌, ◌==◌, ◌↔◌, cond}
use Rattle.st_ids.specs.Ends.{edge_of}
use Rattle.st_ids.specs.Graph.{arcs_of}
use Rattle.st_ids.specs.Walks.{Reaches}
use Rattle.st_map.specs.Embedded.{Embedded, at, bare, darts, edges, head, next, phi, tail}
use Rattle.st_map.specs.Insert.{insert}
use Rattle.st_map.specs.Orbits.{SameOrbit}
use Rattle.st_map.specs.Remove.{exchanged, removed}
use Rattle.st_test.specs.Planar.{IsPlanarSt}

-- the clockwise nexts of p and q are of one face
abbrev pub CornersMeet : Embedded → ℕ → ℕ → Type 0
CornersMeet g p q = SameOrbit (phi g) (next g p) (next g q)

-- the clockwise next of p is of the outer face
abbrev pub IsOuterCorner : Embedded → ℕ → ℕ → Type 0
IsOuterCorner g outer p = SameOrbit (phi g) outer (next g p)

-- another edge comes to the head of e
abbrev pub OthersIn : Embedded → ℕ → Type 0
OthersIn g e = (i : ℕ) × (i < edges g) × (i ≢ e) × (head g i ≡ head g e)

-- another edge leads from the tail of e
abbrev pub OthersOut : Embedded → ℕ → Type 0
OthersOut g e = (i : ℕ) × (i < edges g) × (i ≢ e) × (tail g i ≡ tail g e)

-- a planar st-graph for some poles and outer end
abbrev pub IsSomePlanarSt : Embedded → Type 0
IsSomePlanarSt g = (s : ℕ) × (t : ℕ) × (outer : ℕ) × IsPlanarSt g s t outer

-- Where the outer end is one of e, the next end of the outer face takes its place. The last edge's number becomes e's.
abbrev pub outer_after : Embedded → ℕ → ℕ → ℕ
outer_after g e o = cond (edge_of o == e) (exchanged (edges g - 1) e (phi g o)) (exchanged (edges g - 1) e o)

-- A new edge between two corners of one inner face that closes no cycle keeps a planar st-graph, with the same poles and
-- outer end. Where its head reaches its tail, or the corners are of two faces, the graph is none afterwards, whatever the
-- outer end. So, where the tail's corner is not of the outer face, it is one exactly where neither is so.
pub record InsertionIs (g : Embedded) (s t outer p q : ℕ) : Type 0 where
  pub accepted : CornersMeet g p q → (IsOuterCorner g outer p → ⊥) → (Reaches (arcs_of (bare g)) (at g q) (at g p) → ⊥) → IsPlanarSt (insert g p q) s t outer
  pub cycle : Reaches (arcs_of (bare g)) (at g q) (at g p) → IsSomePlanarSt (insert g p q) → ⊥
  pub two_faces : (CornersMeet g p q → ⊥) → IsSomePlanarSt (insert g p q) → ⊥
  pub exact : (IsOuterCorner g outer p → ⊥) → IsSomePlanarSt (insert g p q) ↔ (CornersMeet g p q × (Reaches (arcs_of (bare g)) (at g q) (at g p) → ⊥))

-- an edge between two vertices
abbrev pub InsertionLaw : Type 0
InsertionLaw = (g : Embedded) (s t outer p q : ℕ) → IsPlanarSt g s t outer → p < darts g → q < darts g → at g p ≢ at g q → InsertionIs g s t outer p q

-- Where another edge comes to e's head and another leads from e's tail, a planar st-graph stays one without e, with the same
-- poles. Else it is none afterwards, whatever the outer end.
pub record RemovalIs (g : Embedded) (s t outer e : ℕ) : Type 0 where
  pub accepted : OthersIn g e → OthersOut g e → IsPlanarSt (removed g e) s t (outer_after g e outer)
  pub source : (OthersIn g e → ⊥) → IsSomePlanarSt (removed g e) → ⊥
  pub sink : (OthersOut g e → ⊥) → IsSomePlanarSt (removed g e) → ⊥
  pub exact : IsSomePlanarSt (removed g e) ↔ (OthersIn g e × OthersOut g e)

-- an edge of a planar st-graph
abbrev pub RemovalLaw : Type 0
RemovalLaw = (g : Embedded) (s t outer e : ℕ) → IsPlanarSt g s t outer → e < edges g → RemovalIs g s t outer e
