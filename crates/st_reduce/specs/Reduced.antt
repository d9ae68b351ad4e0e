-- The reduced graph: each transitive edge has a new vertex in its middle, its dummy.
-- Letters: g graph with its lists, h the graph so far, s source, t sink, outer an end on the outer face, k how many edges
-- were gone through, ds the dummy of each of them.
--   KeepsPlanar g h s t outer    h is a planar st-graph with the same poles and outer end, and reaching stays
--   PlanarSplitLaw               that is so where an edge is split
--   IsTransitiveEdge g e         a walk from the edge's tail to its head avoids it
--   Splits g k ds h              h is g with those of its first k edges split, in file order, that are transitive in g
--   IsReduced g ds h             the reduced graph, with the dummies
--   dummy_at ds e                the new vertex in the middle of e, if any
--   ReducedLaw                   there is one, it is a planar st-graph without transitive edges, and reaching stays
--   OneReducedLaw                there is one alone, with one list of dummies
use Rattle.std.specs.Prelude.{ℕ, suc, ◌≡◌, ◌<◌, ◌≤◌, ◌↔◌, List, [], ◌∷◌, ◌++◌, length, slice_index_or, Option, Some, None}
use Rattle.st_ids.specs.Graph.{arcs_of}
use Rattle.st_ids.specs.Walks.{Reaches}
use Rattle.st_map.specs.Embedded.{Embedded, bare, edges}
use Rattle.st_map.specs.Split.{split}
use Rattle.st_test.specs.Planar.{IsPlanarSt}
use Rattle.st_reduce.specs.Transitive.{IsTransitive}

-- h is a planar st-graph with the poles and the outer end of g, whose vertices reach each other in it as before
pub record KeepsPlanar (g h : Embedded) (s t outer : ℕ) : Type 0 where
  pub planar : IsPlanarSt h s t outer
  pub reaches : (u v : ℕ) → u < g.vertices → v < g.vertices → Reaches (arcs_of (bare g)) u v ↔ Reaches (arcs_of (bare h)) u v

-- a planar st-graph stays one where an edge is split
abbrev pub PlanarSplitLaw : Type 0
PlanarSplitLaw = (g : Embedded) (s t outer e : ℕ) → IsPlanarSt g s t outer → e < edges g → KeepsPlanar g (split g e) s t outer

-- a walk from the edge's tail to its head avoids it
abbrev pub IsTransitiveEdge : Embedded → ℕ → Type 0
IsTransitiveEdge g e = IsTransitive (arcs_of (bare g)) e

-- h is g with those of its first k edges split, in file order, that are transitive in g; ds has for each of the k edges its
-- new vertex, and None where there is none
pub data Splits (g : Embedded) : ℕ → List (Option ℕ) → Embedded → Type 0 where
  begin : Splits g 0 [] g
  keep : {k : ℕ} {ds : List (Option ℕ)} {h : Embedded} → Splits g k ds h → (IsTransitiveEdge g k → ⊥) → Splits g (suc k) (ds ++ None ∷ []) h
  cut : {k : ℕ} {ds : List (Option ℕ)} {h : Embedded} → Splits g k ds h → IsTransitiveEdge g k → Splits g (suc k) (ds ++ Some h.vertices ∷ []) (split h k)

-- h is g with all transitive edges split, and ds has the dummy of each edge
abbrev pub IsReduced : Embedded → List (Option ℕ) → Embedded → Type 0
IsReduced g ds h = Splits g (edges g) ds h

-- the new vertex in the middle of e, if any
unfoldable pub dummy_at : List (Option ℕ) → ℕ → Option ℕ
dummy_at ds e = slice_index_or ds e None

-- What holds of the reduced graph of a planar st-graph: there is a dummy exactly where an edge is transitive, the graph is a
-- planar st-graph without transitive edges, and reaching stays.
pub record ReducedIs (g : Embedded) (s t outer : ℕ) (ds : List (Option ℕ)) (h : Embedded) : Type 0 where
  pub size : length ds ≡ edges g
  pub plain : (e : ℕ) → e < edges g → (IsTransitiveEdge g e → ⊥) → dummy_at ds e ≡ None
  pub split : (e : ℕ) → e < edges g → IsTransitiveEdge g e → (w : ℕ) × (dummy_at ds e ≡ Some w)
  pub keeps : KeepsPlanar g h s t outer
  pub more : g.vertices ≤ h.vertices
  pub none : (e : ℕ) → e < edges h → IsTransitiveEdge h e → ⊥

-- each planar st-graph has a reduced graph, and each such is a planar st-graph without transitive edges
abbrev pub ReducedLaw : Type 0
ReducedLaw = (g : Embedded) (s t outer : ℕ) → IsPlanarSt g s t outer
    → ((ds : List (Option ℕ)) × (h : Embedded) × IsReduced g ds h) × ((ds : List (Option ℕ)) (h : Embedded) → IsReduced g ds h → ReducedIs g s t outer ds h)

-- two reduced graphs of one graph are the same, and so are their dummies
abbrev pub OneReducedLaw : Type 0
OneReducedLaw = (g : Embedded) (ds ds' : List (Option ℕ)) (h h' : Embedded) → IsReduced g ds h → IsReduced g ds' h' → (ds ≡ ds') × (h ≡ h')
