-- An edge put in between two vertices, whose ends stand clockwise next after two given ends.
-- Letters: g and h graphs with their lists, before and after; p and q ends at two vertices.
--   put_after p n l        the list with n after p
--   insert g p q           g with the new edge
--   InsertsEdge g h p q    h is g with the new edge, by what the clockwise next of each end is
--   InsertLaw              the one is the other
use Rattle.std.specs.Prelude.{ℕ, suc, ◌≡◌, ◌≢◌, ◌<◌, ◌==◌, cond, List, [], ◌∷◌, ◌++◌, map}
use Rattle.std.specs.List.{range_with_len}
use Rattle.st_map.specs.Embedded.{Embedded, HasOrders, IsRotation, edges, darts, tail, head, order, at, next}

-- the list with n after p
abbrev pub put_after : ℕ → ℕ → List ℕ → List ℕ
put_after p n [] = []
put_after p n (d ∷ ds) = cond (d == p) (d ∷ n ∷ ds) (d ∷ put_after p n ds)

-- A new last edge leads from the vertex of p to that of q. Its end at the tail stands after p, and its end at the head
-- after q. All else stays.
abbrev pub insert : Embedded → ℕ → ℕ → Embedded
insert g p q = record {
  vertices = g.vertices;
  ends = g.ends ++ (at g p, at g q) ∷ [];
  orders = map (λ v. put_after p (darts g) (put_after q (suc (darts g)) (order g v))) (range_with_len 0 g.vertices);
}

-- h is g with a new last edge from the vertex of p to that of q, whose ends are the clockwise next after p and q
pub record InsertsEdge (g h : Embedded) (p q : ℕ) : Type 0 where
  pub p_in : p < darts g
  pub q_in : q < darts g
  pub vertices : h.vertices ≡ g.vertices
  pub count : edges h ≡ suc (edges g)
  pub tail_old : (e : ℕ) → e < edges g → tail h e ≡ tail g e
  pub head_old : (e : ℕ) → e < edges g → head h e ≡ head g e
  pub tail_new : tail h (edges g) ≡ at g p
  pub head_new : head h (edges g) ≡ at g q
  pub orders : HasOrders h
  pub next_p : next h p ≡ darts g
  pub next_tail : next h (darts g) ≡ next g p
  pub next_q : next h q ≡ suc (darts g)
  pub next_head : next h (suc (darts g)) ≡ next g q
  pub next_old : (d : ℕ) → d < darts g → d ≢ p → d ≢ q → next h d ≡ next g d

-- an edge can be put in after two ends, and the graph afterwards has lawful lists
abbrev pub InsertLaw : Type 0
InsertLaw = (g : Embedded) (p q : ℕ) → IsRotation g → p < darts g → q < darts g → p ≢ q → InsertsEdge g (insert g p q) p q × IsRotation (insert g p q)
