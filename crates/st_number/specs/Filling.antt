-- The columns of nodes, filled in along a sweep.
--   AreLeftColumns x cs f      cs has the column of each node from which an arc leads to f
--   IsReaching x cs f k n      n is the greatest of what the first k edges of the left path of f bring to it
--   IsColumnTable x cs         cs has the column of each node
--   IsFilling x fs cs k        cs has the columns of the first k nodes of fs
-- Letters: x sides, f node, fs nodes in order, cs the numbers of the nodes, e edge, k place.
use Rattle.std.specs.Prelude.{ℕ, ◌≡◌, ◌⊎◌, ◌+◌, ◌^◌, ◌<◌, ◌≤◌, List, length, slice_index}
use Rattle.st_sides.specs.Sides.{SidesValue, edge_count, face_left, face_right, left_path}
use Rattle.st_number.specs.Greatest.{IsColumn}

-- the node on the left of each edge that has f on its right has its column in the table
abbrev pub AreLeftColumns : SidesValue → List ℕ → ℕ → Type 0
AreLeftColumns x cs f = (e : ℕ) → e < edge_count x → face_right x e ≡ f → IsColumn x (face_left x e) (slice_index cs (face_left x e))

-- n is no less than what each of the first k edges of the left path brings, and one of them brings it unless it is 0
pub record IsReaching (x : SidesValue) (cs : List ℕ) (f k n : ℕ) : Type 0 where
  pub enough : (j : ℕ) → j < k → slice_index cs (face_left x (slice_index (left_path x f) j)) + 1 ≤ n
  pub brought : (n ≡ 0) ⊎ ((j : ℕ) × (j < k) × (n ≡ slice_index cs (face_left x (slice_index (left_path x f) j)) + 1))

-- each node has its column
pub record IsColumnTable (x : SidesValue) (cs : List ℕ) : Type 0 where
  pub size : length cs ≡ x.t_star + 1
  pub room : x.t_star < 2 ^ 31
  pub each : (f : ℕ) → f ≤ x.t_star → IsColumn x f (slice_index cs f)

-- each of the first k nodes has its column
pub record IsFilling (x : SidesValue) (fs cs : List ℕ) (k : ℕ) : Type 0 where
  pub size : length cs ≡ x.t_star + 1
  pub done : (j : ℕ) → j < k → IsColumn x (slice_index fs j) (slice_index cs (slice_index fs j))
