-- A table that tells for each edge its path and the next edge on it.
-- Letters: g sides, ps the listed paths, n how many of them, T table, e edge, s what the table tells of an edge.
--   step_in_table T e         what the table tells of e
--   IsStep ps e s             s has a path that has e, and the edge after e on it
--   AreSteps g ps n T         the table tells of the edges on the first n paths, and of these alone
--   AreNoted g ps n T         the same, where the first n paths are walks that share no edges
--   PassesThrough g ps q x y  path q comes by the edge x, and goes on by y
use Rattle.std.specs.Prelude.{ℕ, suc, List, Option, Some, None, ◌≡◌, ◌<◌, ◌≤◌, length, slice_index, slice_index_or}
use Rattle.st_ids.specs.declared.ids.EdgeId.{EdgeId}
use Rattle.st_ids.specs.Lists.{In}
use Rattle.st_sides.specs.Sides.{SidesValue, edge_count, edge_tail, edge_head}
use Rattle.draw_align.specs.declared.steps.Step.{Step}
use Rattle.draw_align.specs.Faults.{AreDisjoint}
use Rattle.draw_align.specs.Listed.{path_at}

-- what the table tells of e
unfoldable pub step_in_table : List (Option Step) → ℕ → Option Step
step_in_table T e = slice_index_or T e None

-- e stands at a place of the path that s names, and s has the edge at the place after it
pub record IsStep (ps : List (List ℕ)) (e : ℕ) (s : Step) : Type 0 where
  pub place : ℕ
  pub there : place < length (path_at ps s.path)
  pub is : slice_index (path_at ps s.path) place ≡ e
  pub next : (d : EdgeId) → s.next ≡ Some d → (suc place < length (path_at ps s.path)) × (slice_index (path_at ps s.path) (suc place) ≡ d.0)
  pub last : s.next ≡ None → length (path_at ps s.path) ≤ suc place

-- The table tells of the edges on the first n paths, and of these alone.
pub record AreSteps (g : SidesValue) (ps : List (List ℕ)) (n : ℕ) (T : List (Option Step)) : Type 0 where
  pub size : length T ≡ edge_count g
  pub told : (e : ℕ) (s : Step) → step_in_table T e ≡ Some s → (s.path < n) × IsStep ps e s
  pub full : (q e : ℕ) → q < n → In e (path_at ps q) → step_in_table T e ≡ None → ⊥

-- The same while path p is noted: of its edges the first k are.
pub record IsNoting (g : SidesValue) (ps : List (List ℕ)) (p k : ℕ) (T : List (Option Step)) : Type 0 where
  pub size : length T ≡ edge_count g
  pub told : (e : ℕ) (s : Step) → step_in_table T e ≡ Some s → (s.path ≤ p) × IsStep ps e s
  pub full : (q e : ℕ) → q < p → In e (path_at ps q) → step_in_table T e ≡ None → ⊥
  pub noted : (i : ℕ) → i < k → step_in_table T (slice_index (path_at ps p) i) ≡ None → ⊥

-- The table tells of the edges on the first n paths, which are walks that share no edges.
pub record AreNoted (g : SidesValue) (ps : List (List ℕ)) (n : ℕ) (T : List (Option Step)) : Type 0 where
  pub within : n ≤ length ps
  pub disjoint : AreDisjoint g ps n
  pub steps : AreSteps g ps n T

-- path q has the edges x and y, and y begins where x ends
pub record PassesThrough (g : SidesValue) (ps : List (List ℕ)) (q x y : ℕ) : Type 0 where
  pub x_on : In x (path_at ps q)
  pub y_on : In y (path_at ps q)
  pub joined : edge_tail g y ≡ edge_head g x
