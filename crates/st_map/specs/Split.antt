-- An edge split by a new vertex in its middle, which lies on the two parts alone.
-- Letters: g and h graphs with their lists, before and after; e and f edges, v vertex, d end.
--   moved g e d          the number that an end of g has afterwards: the end of e at its old head is the new edge's
--   split g e            g with the edge e split
--   SplitsEdge g h e     h is g with e split, by what the clockwise next of each end is
--   SplitLaw             the one is the other
use Rattle.std.specs.Prelude.{ℕ, suc, ◌≡◌, ◌≢◌, ◌+◌, ◌*◌, ◌<◌, ◌==◌, cond, [], ◌∷◌, ◌++◌, map, slice_set}
use Rattle.std.specs.List.{range_with_len}
use Rattle.st_map.specs.Embedded.{Embedded, HasOrders, IsRotation, edges, darts, tail, head, order, next}

-- the end of e at its old head becomes that of the new edge, and all others keep their numbers
abbrev pub moved : Embedded → ℕ → ℕ → ℕ
moved g e d = cond (d == 2 * e + 1) (suc (darts g)) d

-- The edge e ends at a new last vertex, and a new last edge leads from there to e's old head, where its end stands in the
-- place of e's. The list of the new vertex is the new edge's end, then e's. All else stays.
abbrev pub split : Embedded → ℕ → Embedded
split g e = record {
  vertices = suc g.vertices;
  ends = slice_set g.ends e (tail g e, g.vertices) ++ (g.vertices, head g e) ∷ [];
  orders = map (λ v. map (moved g e) (order g v)) (range_with_len 0 g.vertices) ++ (darts g ∷ (2 * e + 1) ∷ []) ∷ [];
}

-- h is g with e ending at a new last vertex, and a new last edge from there to e's old head, in the place of e's old end
pub record SplitsEdge (g h : Embedded) (e : ℕ) : Type 0 where
  pub there : e < edges g
  pub vertices : h.vertices ≡ suc g.vertices
  pub count : edges h ≡ suc (edges g)
  pub tail_old : (f : ℕ) → f < edges g → tail h f ≡ tail g f
  pub head_old : (f : ℕ) → f < edges g → f ≢ e → head h f ≡ head g f
  pub head_split : head h e ≡ g.vertices
  pub tail_new : tail h (edges g) ≡ g.vertices
  pub head_new : head h (edges g) ≡ head g e
  pub orders : HasOrders h
  pub next_in : next h (2 * e + 1) ≡ darts g
  pub next_out : next h (darts g) ≡ 2 * e + 1
  pub next_old : (d : ℕ) → d < darts g → next h (moved g e d) ≡ moved g e (next g d)

-- an edge of a graph with lawful lists can be split, and the graph afterwards has lawful lists
abbrev pub SplitLaw : Type 0
SplitLaw = (g : Embedded) (e : ℕ) → IsRotation g → e < edges g → SplitsEdge g (split g e) e × IsRotation (split g e)
