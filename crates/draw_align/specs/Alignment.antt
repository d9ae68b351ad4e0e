-- Paths that each stand in one column, and the graph of their columns.
-- Letters: g sides, ps the listed paths, P all paths, p and q numbers of paths, e edge.
--   Paths                  lists of edges, and the list of each edge
--   path_count, path_of    how many lists, and in which an edge is
--   AreValid g P           each edge is on one path, and no two paths cross
--   AreCompleted g ps P    the listed paths, followed by a path for each edge that is in none of them
--   node_of_path           the node of a path in the alignment graph, after those of the dual
--   alignment              the alignment graph; alignment_weight, the weights of its arcs
--   AlignmentLaw g P       it has no cycle, and each node has one greatest weight of walks from node 0
use Rattle.std.specs.Prelude.{ℕ, List, [], ◌∷◌, ◌≡◌, ◌≢◌, ◌<◌, ◌≤◌, ◌+◌, ◌-◌, length, slice_index_or, cond, nat_lt}
use Rattle.st_ids.specs.Lists.{In}
use Rattle.st_ids.specs.Walks.{Arcs, IsAcyclic}
use Rattle.st_sides.specs.Sides.{SidesValue, edge_count, face_left, face_right}
use Rattle.st_number.specs.Greatest.{GreatestLaw}
use Rattle.draw_align.specs.Listed.{path_at, IsPath, CrossRightward}

-- Lists of edges, and for each edge the number of the list that has it.
pub record Paths : Type 0 where
  pub lists : List (List ℕ)
  pub homes : List ℕ

-- how many paths there are
unfoldable pub path_count : Paths → ℕ
path_count P = length P.lists

-- the path of the edge e
unfoldable pub path_of : Paths → ℕ → ℕ
path_of P e = slice_index_or P.homes e 0

-- Each edge is on one path, each path is a walk of at least one edge, and no two different ones cross.
pub record AreValid (g : SidesValue) (P : Paths) : Type 0 where
  pub home_in : (e : ℕ) → e < edge_count g → path_of P e < path_count P
  pub home : (e : ℕ) → e < edge_count g → In e (path_at P.lists (path_of P e))
  pub only_home : (p e : ℕ) → p < path_count P → In e (path_at P.lists p) → path_of P e ≡ p
  pub walks : (p : ℕ) → p < path_count P → IsPath g (path_at P.lists p)
  pub apart : (p q v : ℕ) → p < path_count P → q < path_count P → p ≢ q → v < g.vertices
      → CrossRightward g (path_at P.lists p) (path_at P.lists q) v → ⊥

-- The listed paths, and after them a path of its own for each edge that is in none of them, in the order of the edges.
pub record AreCompleted (g : SidesValue) (ps : List (List ℕ)) (P : Paths) : Type 0 where
  pub listed : (p : ℕ) → p < length ps → path_at P.lists p ≡ path_at ps p
  pub size : length ps ≤ path_count P
  pub alone : (p : ℕ) → length ps ≤ p → p < path_count P → (e : ℕ) × (e < edge_count g) × (path_at P.lists p ≡ e ∷ [])
  pub in_order : (e f : ℕ) → e < f → f < edge_count g → length ps ≤ path_of P e → length ps ≤ path_of P f → path_of P e < path_of P f
  pub home_in : (e : ℕ) → e < edge_count g → path_of P e < path_count P
  pub home : (e : ℕ) → e < edge_count g → In e (path_at P.lists (path_of P e))
  pub only_home : (p e : ℕ) → p < path_count P → In e (path_at P.lists p) → path_of P e ≡ p

-- the node of path p
abbrev pub node_of_path : SidesValue → ℕ → ℕ
node_of_path g p = g.t_star + 1 + p

-- Arc e leads from the left of edge e to its path, and arc E + e from its path to its right; E is the number of edges.
abbrev pub alignment : SidesValue → Paths → Arcs
alignment g P = record {
  count = edge_count g + edge_count g;
  from = λ a. cond (nat_lt a (edge_count g)) (face_left g a) (node_of_path g (path_of P (a - edge_count g)));
  to = λ a. cond (nat_lt a (edge_count g)) (node_of_path g (path_of P a)) (face_right g (a - edge_count g));
}

-- the arcs to paths weigh 0, those from paths 1
abbrev pub alignment_weight : SidesValue → ℕ → ℕ
alignment_weight g a = cond (nat_lt a (edge_count g)) 0 1

-- The alignment graph has no cycle, and each of its nodes has one greatest weight of walks from node 0.
pub record AlignmentLaw (g : SidesValue) (P : Paths) : Type 0 where
  pub acyclic : IsAcyclic (alignment g P)
  pub greatest : GreatestLaw (alignment g P) (g.t_star + 1 + path_count P) (alignment_weight g) 0
