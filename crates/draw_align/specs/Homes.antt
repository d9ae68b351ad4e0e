-- A table of the path of each edge, and how many paths there are.
-- Letters: g sides, ps the listed paths, n how many edges the table has, next how many paths there are, e edge, p path.
--   HasPaths g ps homes next    the table is that of all paths
--   IsHoming g ps n homes next  the same of the first n edges
use Rattle.std.specs.Prelude.{ℕ, List, [], ◌∷◌, ◌≡◌, ◌<◌, ◌≤◌, ◌+◌, length, slice_index}
use Rattle.st_ids.specs.Lists.{In}
use Rattle.st_sides.specs.Sides.{SidesValue, edge_count}
use Rattle.draw_align.specs.Alignment.{Paths, AreCompleted, path_count}
use Rattle.draw_align.specs.Listed.{path_at}

-- the table is that of the listed paths and of those of the other edges
pub record HasPaths (g : SidesValue) (ps : List (List ℕ)) (homes : List ℕ) (next : ℕ) : Type 0 where
  pub paths : Paths
  pub completed : AreCompleted g ps paths
  pub homes_are : paths.homes ≡ homes
  pub size : length homes ≡ edge_count g
  pub count : path_count paths ≡ next
  pub few : next ≤ length ps + edge_count g

-- the listed paths and those of the first n edges that are in none of them
pub record IsHoming (g : SidesValue) (ps : List (List ℕ)) (n : ℕ) (homes : List ℕ) (next : ℕ) : Type 0 where
  pub lists : List (List ℕ)
  pub size : length homes ≡ n
  pub count : length lists ≡ next
  pub from : length ps ≤ next
  pub to : next ≤ length ps + n
  pub listed : (p : ℕ) → p < length ps → path_at lists p ≡ path_at ps p
  pub alone : (p : ℕ) → length ps ≤ p → p < next → (e : ℕ) × (e < n) × (path_at lists p ≡ e ∷ [])
  pub in_order : (e f : ℕ) → e < f → f < n → length ps ≤ slice_index homes e → length ps ≤ slice_index homes f → slice_index homes e < slice_index homes f
  pub home_in : (e : ℕ) → e < n → slice_index homes e < next
  pub home : (e : ℕ) → e < n → In e (path_at lists (slice_index homes e))
  pub only_home : (p e : ℕ) → p < next → e < n → In e (path_at lists p) → slice_index homes e ≡ p
