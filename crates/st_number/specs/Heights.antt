-- Heights and columns as lists.
--   AreTaken post w ws               the weights that a call took, one for each edge
--   AreSums g s w most hs            hs are the greatest weights of walks from s
--   AreHeights post g s most hs      hs are the heights of the vertices of g under weights that were taken
--   AreColumns x cs                  cs are the columns of the nodes of x
-- Letters: post what the closure may answer, g embedded graph, s its source, x sides, e edge, v vertex, f node.
use Rattle.std.specs.Prelude.{ℕ, ℤ, pos, ◌≡◌, ◌+◌, ◌-◌, ◌*◌, ◌^◌, ◌<◌, ◌≤◌, List, length, slice_get, slice_index, Some}
use Rattle.st_ids.specs.Graph.{arcs_of}
use Rattle.st_ids.specs.declared.ids.EdgeId.{EdgeId}
use Rattle.st_map.specs.Embedded.{Embedded, bare, edges}
use Rattle.st_sides.specs.Sides.{SidesValue, edge_count}
use Rattle.st_number.specs.Greatest.{IsGreatest, IsColumn}

-- A weight for each of n edges, which the closure may answer, from 1 to most.
pub record AreTaken (post : EdgeId → ℕ → Type 0) (n most : ℕ) (weights : List ℕ) : Type 0 where
  pub size : length weights ≡ n
  pub answers : (e : ℕ) → e < n → post (record { 0 = e }) (slice_index weights e)
  pub from_one : (e : ℕ) → e < n → 1 ≤ slice_index weights e
  pub to_most : (e : ℕ) → e < n → slice_index weights e ≤ most

-- The greatest weight of a walk from s to each vertex, where no weight is more than most.
pub record AreSums (g : Embedded) (s : ℕ) (w : ℕ → ℕ) (most : ℕ) (sums : List ℕ) : Type 0 where
  pub size : length sums ≡ g.vertices
  pub room : g.vertices < 2 ^ 30
  pub greatest : (v : ℕ) → v < g.vertices → IsGreatest (arcs_of (bare g)) w s v (slice_index sums v)
  pub few : (v : ℕ) → v < g.vertices → slice_index sums v ≤ (g.vertices - 1) * most

-- The heights that a call gave, with the weights that it took: each is the greatest weight of a walk from the source.
pub record AreHeights (post : EdgeId → ℕ → Type 0) (g : Embedded) (s most : ℕ) (heights : List ℤ) : Type 0 where
  pub weight : ℕ → ℕ
  pub taken : (e : ℕ) → e < edges g → post (record { 0 = e }) (weight e)
  pub from_one : (e : ℕ) → e < edges g → 1 ≤ weight e
  pub to_most : (e : ℕ) → e < edges g → weight e ≤ most
  pub height : ℕ → ℕ
  pub size : length heights ≡ g.vertices
  pub at : (v : ℕ) → v < g.vertices → slice_get heights v ≡ Some (pos (height v))
  pub greatest : (v : ℕ) → v < g.vertices → IsGreatest (arcs_of (bare g)) weight s v (height v)
  pub few : (v : ℕ) → v < g.vertices → height v ≤ (g.vertices - 1) * most

-- The columns of all nodes: each is the greatest number of arcs of a walk of the dual from the left half of the outer face.
pub record AreColumns (x : SidesValue) (columns : List ℤ) : Type 0 where
  pub column : ℕ → ℕ
  pub size : length columns ≡ x.t_star + 1
  pub at : (f : ℕ) → f ≤ x.t_star → slice_get columns f ≡ Some (pos (column f))
  pub greatest : (f : ℕ) → f ≤ x.t_star → IsColumn x f (column f)
  pub few : (f : ℕ) → f ≤ x.t_star → column f ≤ edge_count x
