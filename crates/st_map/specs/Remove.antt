-- An edge left out, whose number the last edge takes.
-- Letters: g and h graphs with their lists, before and after; e and f edges, d end, m how many edges are left.
--   without_edge e l      the list without the ends of e
--   old_edge m e f        the number that an edge of h has in g
--   exchanged m e d       the number that an end of h has in g, and back: the ends of e and of the last edge exchanged
--   removed g e           g without e
--   passed g e d          the clockwise next of d that is no end of e
--   RemovesEdge g h e     h is g without e, by what the clockwise next of each end is
--   RemoveLaw             the one is the other
use Rattle.std.specs.Prelude.{ℕ, suc, ◌≡◌, ◌≢◌, ◌<◌, ◌+◌, ◌-◌, ◌*◌, ◌==◌, cond, List, [], ◌∷◌, map}
use Rattle.std.specs.List.{range_with_len}
use Rattle.st_ids.specs.Ends.{edge_of, is_out}
use Rattle.st_map.specs.Embedded.{Embedded, HasOrders, IsRotation, edges, darts, tail, head, order, next}

-- the list without the ends of e
abbrev pub without_edge : ℕ → List ℕ → List ℕ
without_edge e [] = []
without_edge e (d ∷ ds) = cond (edge_of d == e) (without_edge e ds) (d ∷ without_edge e ds)

-- where the last of m + 1 edges takes the number e
abbrev pub old_edge : ℕ → ℕ → ℕ → ℕ
old_edge m e f = cond (f == e) m f

abbrev pub exchanged : ℕ → ℕ → ℕ → ℕ
exchanged m e d = cond (edge_of d == e) (cond (is_out d) (2 * m) (suc (2 * m))) (cond (edge_of d == m) (cond (is_out d) (2 * e) (2 * e + 1)) d)

-- The ends of e leave their lists, so that where one was first, the clockwise next is. The last edge takes the number of e.
abbrev pub removed : Embedded → ℕ → Embedded
removed g e = record {
  vertices = g.vertices;
  ends = map (λ f. (tail g (old_edge (edges g - 1) e f), head g (old_edge (edges g - 1) e f))) (range_with_len 0 (edges g - 1));
  orders = map (λ v. map (exchanged (edges g - 1) e) (without_edge e (order g v))) (range_with_len 0 g.vertices);
}

abbrev pub passed : Embedded → ℕ → ℕ → ℕ
passed g e d = cond (edge_of (next g d) == e) (next g (next g d)) (next g d)

-- h is g without e
pub record RemovesEdge (g h : Embedded) (e : ℕ) : Type 0 where
  pub there : e < edges g
  pub vertices : h.vertices ≡ g.vertices
  pub count : edges g ≡ suc (edges h)
  pub tail_old : (f : ℕ) → f < edges h → tail h f ≡ tail g (old_edge (edges h) e f)
  pub head_old : (f : ℕ) → f < edges h → head h f ≡ head g (old_edge (edges h) e f)
  pub orders : HasOrders h
  pub next_old : (d : ℕ) → d < darts h → exchanged (edges h) e (next h d) ≡ passed g e (exchanged (edges h) e d)

-- an edge that is no loop can be left out, and the graph afterwards has lawful lists
abbrev pub RemoveLaw : Type 0
RemoveLaw = (g : Embedded) (e : ℕ) → IsRotation g → e < edges g → tail g e ≢ head g e → RemovesEdge g (removed g e) e × IsRotation (removed g e)
