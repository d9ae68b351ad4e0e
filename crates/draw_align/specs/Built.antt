-- The alignment graph as code has it.
-- Letters: g sides, homes the path of each edge, n how many nodes, m how many arcs, D graph, a arc.
--   arc_from, arc_to        where each arc of the alignment graph leads from and to
--   HasHomes g homes n      each edge has a path whose node is below n
--   IsBuilt g homes n m D   D has the first m arcs
--   AreArcWeights g m ws    ws are the weights of the first m arcs
use Rattle.std.specs.Prelude.{ℕ, ℤ, pos, List, ◌≡◌, ◌<◌, ◌≤◌, ◌+◌, ◌-◌, cond, nat_lt, length, slice_index, slice_index_or}
use Rattle.st_ids.specs.Graph.{Graph, tail_of, head_of}
use Rattle.st_sides.specs.Sides.{SidesValue, edge_count, face_left, face_right}
use Rattle.st_number.specs.Greatest.{IsGreatest}
use Rattle.draw_align.specs.Alignment.{alignment, alignment_weight, node_of_path}
use Rattle.draw_align.specs.Homes.{HasPaths}

-- where arc a leads from
abbrev pub arc_from : SidesValue → List ℕ → ℕ → ℕ
arc_from g homes a = cond (nat_lt a (edge_count g)) (face_left g a) (node_of_path g (slice_index_or homes (a - edge_count g) 0))

-- where arc a leads to
abbrev pub arc_to : SidesValue → List ℕ → ℕ → ℕ
arc_to g homes a = cond (nat_lt a (edge_count g)) (node_of_path g (slice_index_or homes a 0)) (face_right g (a - edge_count g))

-- each edge has a path whose node is below n
pub record HasHomes (g : SidesValue) (homes : List ℕ) (n : ℕ) : Type 0 where
  pub size : length homes ≡ edge_count g
  pub first : g.t_star < n
  pub within : (e : ℕ) → e < edge_count g → node_of_path g (slice_index homes e) < n

-- the first m arcs of the alignment graph
pub record IsBuilt (g : SidesValue) (homes : List ℕ) (n m : ℕ) (D : Graph) : Type 0 where
  pub vertices : D.vertices ≡ n
  pub count : length D.ends ≡ m
  pub tails : (a : ℕ) → a < m → tail_of D.ends a ≡ arc_from g homes a
  pub heads : (a : ℕ) → a < m → head_of D.ends a ≡ arc_to g homes a

-- the weights of the first m arcs
pub record AreArcWeights (g : SidesValue) (m : ℕ) (ws : List ℕ) : Type 0 where
  pub size : length ws ≡ m
  pub each : (a : ℕ) → a < m → slice_index ws a ≡ alignment_weight g a

-- The columns of the nodes of the alignment graph: each is the greatest weight of a walk from node 0.
pub record AreNodeColumns (g : SidesValue) (ps : List (List ℕ)) (homes : List ℕ) (next : ℕ) (h : List ℕ) : Type 0 where
  pub paths : HasPaths g ps homes next
  pub size : length h ≡ g.t_star + 1 + next
  pub greatest : (f : ℕ) → f < g.t_star + 1 + next → IsGreatest (alignment g paths.paths) (alignment_weight g) 0 f (slice_index h f)
  pub few : (f : ℕ) → f < g.t_star + 1 + next → slice_index h f ≤ edge_count g

-- The line of each edge stands in the column of its path.
pub record AreLines (g : SidesValue) (homes : List ℕ) (columns : List ℤ) (m : ℕ) (lines : List ℤ) : Type 0 where
  pub size : length lines ≡ m
  pub each : (e : ℕ) → e < m → slice_index_or lines e (pos 0) ≡ slice_index_or columns (node_of_path g (slice_index homes e)) (pos 0)
