-- Edges turned round, and when turning some edges makes a planar st-graph.
-- Letters: g graph, e edge, d end, b which edges are turned, s and t the poles, outer the end that names the outer
-- face.
--   turned_end b d      the number of the end d after the edges have been turned
--   turned g b          the graph with the edges turned: each edge keeps its number, and each list its ends
--   IsTurned g h b      h is such a graph
--   IsOrientation       and it is a planar st-graph with these poles and this outer face
--   falls g r           the edges that lead to the smaller number
--   IsPlane             an embedded graph of undirected edges, two of its vertices, and an end
--   OrientLaw           numbers of the vertices give an orientation, and an orientation shows that no fault is
use Rattle.std.specs.Prelude.{ℕ, map, ◌≡◌, ◌≢◌, ◌<◌, ◌+◌, Bool, cond, nat_lt}
use Rattle.std.specs.List.{range_with_len}
use Rattle.st_ids.specs.Ends.{edge_of, twin}
use Rattle.st_ids.specs.Graph.{HasEnds}
use Rattle.st_map.specs.Embedded.{Embedded, HasOrders, Touches, bare, darts, edges, faces, head, order, tail}
use Rattle.st_map.specs.Orders.{HasNoLoop}
use Rattle.st_test.specs.Planar.{IsPlanarSt}
use Rattle.st_ids.specs.Undirected.{IsConnected}
use Rattle.st_bipolar.specs.Cuts.{CutsOff, IsStNumbering}

-- the number of an end after the edges e with b e have been turned
abbrev pub turned_end : (ℕ → Bool) → ℕ → ℕ
turned_end b d = cond (b (edge_of d)) (twin d) d

-- each edge keeps its number, and each list its ends
abbrev pub turned : Embedded → (ℕ → Bool) → Embedded
turned g b = record {
  vertices = g.vertices;
  ends = map (λ e. cond (b e) (head g e, tail g e) (tail g e, head g e)) (range_with_len 0 (edges g));
  orders = map (λ ds. map (turned_end b) ds) g.orders;
}

-- h is g with the edges turned: vertices, edges and lists as in `turned`
pub record IsTurned (g h : Embedded) (b : ℕ → Bool) : Type 0 where
  pub vertices : h.vertices ≡ g.vertices
  pub count : edges h ≡ edges g
  pub tails : (e : ℕ) → e < edges g → tail h e ≡ cond (b e) (head g e) (tail g e)
  pub heads : (e : ℕ) → e < edges g → head h e ≡ cond (b e) (tail g e) (head g e)
  pub orders : (v : ℕ) → v < g.vertices → order h v ≡ map (turned_end b) (order g v)

-- h is g with edges turned, and a planar st-graph with these poles and this outer face
pub record IsOrientation (g : Embedded) (s t outer : ℕ) (b : ℕ → Bool) (h : Embedded) : Type 0 where
  pub turned : IsTurned g h b
  pub planar : IsPlanarSt h s t (turned_end b outer)

-- an embedded graph of undirected edges, two of its vertices, and an end
pub record IsPlane (g : Embedded) (s t outer : ℕ) : Type 0 where
  pub ends_in : HasEnds (bare g)
  pub orders : HasOrders g
  pub no_loop : HasNoLoop (bare g)
  pub source_in : s < g.vertices
  pub sink_in : t < g.vertices
  pub poles : s ≢ t
  pub outer_in : outer < darts g

-- the edges that lead to the smaller number
abbrev pub falls : Embedded → (ℕ → ℕ) → ℕ → Bool
falls g r e = nat_lt (r (head g e)) (r (tail g e))

pub record OrientLaw (g : Embedded) (s t outer : ℕ) : Type 0 where
  -- there is a graph with the edges turned
  pub some : (b : ℕ → Bool) → IsTurned g (turned g b) b
  -- by numbers of the vertices there is an orientation
  pub by_numbers : (r : ℕ → ℕ) → IsStNumbering (bare g) s t r → g.vertices + faces g ≡ edges g + 2 → Touches g outer s → Touches g outer t
      → (h : Embedded) → IsTurned g h (falls g r) → IsOrientation g s t outer (falls g r) h
  -- where an orientation is, none of the faults is
  pub connected : (b : ℕ → Bool) (h : Embedded) → IsOrientation g s t outer b h → IsConnected (bare g) s
  pub euler : (b : ℕ → Bool) (h : Embedded) → IsOrientation g s t outer b h → g.vertices + faces g ≡ edges g + 2
  pub outer_s : (b : ℕ → Bool) (h : Embedded) → IsOrientation g s t outer b h → Touches g outer s
  pub outer_t : (b : ℕ → Bool) (h : Embedded) → IsOrientation g s t outer b h → Touches g outer t
  pub no_cut : (b : ℕ → Bool) (h : Embedded) → IsOrientation g s t outer b h → (c v : ℕ) → CutsOff (bare g) s t c v → ⊥
