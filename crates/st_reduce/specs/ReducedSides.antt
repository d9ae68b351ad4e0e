-- The sides of a graph and of its reduced graph, compared.
-- Letters: g graph with its lists, ds dummies of its edges, x sides of g, r sides of the reduced graph, e and f edges of g,
-- w new vertex, v vertex of g, a edge of the reduced graph.
--   last_of g ds e           the edge of the reduced graph that comes to the head of e: the new edge where e is split, else e
--   ComesFrom x dummy last a     a leads from the new vertex of an edge to that edge's head
--   IsReducedSides x r dummy last    r is x with the new vertices and the new edges
--   ReducedSidesLaw          the sides of the reduced graph are like this
use Rattle.std.specs.Prelude.{◌≡◌, ◌+◌, ◌-◌, ◌<◌, ◌≤◌, ◌⊎◌, ℕ, List, map, Option, Some, None}
use Rattle.st_map.specs.Embedded.{Embedded, edges}
use Rattle.st_test.specs.Planar.{IsPlanarSt}
use Rattle.st_sides.specs.Sides.{SidesValue, edge_count, edge_tail, edge_head, outs, ins}
use Rattle.st_sides.specs.SidesOf.{IsSidesOf}
use Rattle.st_reduce.specs.Reduced.{IsReduced, dummy_at}

-- new edges stand in the order of the new vertices, after m edges as these after n vertices
abbrev pub last_with : ℕ → ℕ → ℕ → Option ℕ → ℕ
last_with n m e None = e
last_with n m e (Some w) = m + (w - n)

-- the edge that comes to the head of e: the new edge where e is split, else e itself
unfoldable pub last_of : Embedded → List (Option ℕ) → ℕ → ℕ
last_of g ds e = last_with g.vertices (edges g) e (dummy_at ds e)

-- a leads from the new vertex of an edge to that edge's head
pub record ComesFrom (x : SidesValue) (dummy : ℕ → Option ℕ) (last : ℕ → ℕ) (a : ℕ) : Type 0 where
  pub e : ℕ
  pub w : ℕ
  pub there : e < edge_count x
  pub split : dummy e ≡ Some w
  pub is : a ≡ last e

-- r is x with the new vertex dummy e, where there is one, in the middle of e: e goes from its old tail to it, and the edge
-- last e from there to the old head, in the place of e there. Without a new vertex last e is e.
pub record IsReducedSides (x r : SidesValue) (dummy : ℕ → Option ℕ) (last : ℕ → ℕ) : Type 0 where
  pub vertices : x.vertices ≤ r.vertices
  pub edges_in : edge_count x ≤ edge_count r
  pub last_in : (e : ℕ) → e < edge_count x → last e < edge_count r
  pub source : r.source ≡ x.source
  pub sink : r.sink ≡ x.sink
  pub tail_is : (e : ℕ) → e < edge_count x → edge_tail r e ≡ edge_tail x e
  pub head_is : (e : ℕ) → e < edge_count x → edge_head r (last e) ≡ edge_head x e
  pub plain : (e : ℕ) → e < edge_count x → dummy e ≡ None → last e ≡ e
  pub new_edge : (e w : ℕ) → e < edge_count x → dummy e ≡ Some w → edge_count x ≤ last e
  pub new_vertex : (e w : ℕ) → e < edge_count x → dummy e ≡ Some w → (x.vertices ≤ w) × (w < r.vertices)
  pub into_dummy : (e w : ℕ) → e < edge_count x → dummy e ≡ Some w → edge_head r e ≡ w
  pub out_of_dummy : (e w : ℕ) → e < edge_count x → dummy e ≡ Some w → edge_tail r (last e) ≡ w
  -- there is no other edge, and no new vertex is that of two edges
  pub all : (a : ℕ) → a < edge_count r → (a < edge_count x) ⊎ ComesFrom x dummy last a
  pub one_edge : (e f w : ℕ) → e < edge_count x → f < edge_count x → dummy e ≡ Some w → dummy f ≡ Some w → e ≡ f
  pub outs_are : (v : ℕ) → v < x.vertices → outs r v ≡ outs x v
  pub ins_are : (v : ℕ) → v < x.vertices → ins r v ≡ map last (ins x v)

-- the sides of the reduced graph are those of the graph, with the new vertices and the new edges
abbrev pub ReducedSidesLaw : Type 0
ReducedSidesLaw = (g h : Embedded) (s t outer : ℕ) (ds : List (Option ℕ)) (x r : SidesValue) → IsPlanarSt g s t outer → IsReduced g ds h
    → IsSidesOf g s t outer x → IsSidesOf h s t outer r → IsReducedSides x r (dummy_at ds) (last_of g ds)
