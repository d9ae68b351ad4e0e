-- Lists of dual nodes that are closed to the left, their boundaries, and the sweep.
-- Letters: g sides, xs list of dual nodes, e edge, f dual node.
--   IsLeftPart g xs      xs begins with the left half of the outer face, lacks the right half, and has the left of each
--                        edge before a right that is in it
--   OnBoundary, Boundary the edges with their left in xs and their right outside, and a walk that has them
--   NextFace             an inner face outside whose whole left path is on the boundary
--   BoundaryLaw g        each such list has a boundary, and a next face while an inner face is outside
--   IsSweep, SweepLaw    an order of all nodes with the left of each edge before its right; there is one, and the dual
--                        has no cycle
--   AreSwept g xs        the same of xs by places
--   node_numbers         the numbers of the nodes of a list
--   AreDualArcs g n as   as are the nodes on the left and right of each of the first n edges
use Rattle.std.specs.Prelude.{ℕ, List, ◌≡◌, ◌≢◌, ◌+◌, ◌<◌, ◌≤◌, length, map, slice_index}
use Rattle.st_ids.specs.Graph.{tail_of, head_of}
use Rattle.st_ids.specs.declared.ids.FaceId.{FaceId}
use Rattle.st_ids.specs.Lists.{In, NoRepeat, Precedes, FirstIs, Lists}
use Rattle.st_ids.specs.Walks.{Walk, IsAcyclic}
use Rattle.st_sides.specs.Sides.{SidesValue, edge_count, face_left, face_right, left_path, primal, dual, IsInner}

-- A list of dual nodes without repeats, which begins with s*, lacks t*, and has the left of each edge before a right that is in it.
pub record IsLeftPart (g : SidesValue) (xs : List ℕ) : Type 0 where
  pub first : FirstIs (λ f. f ≡ 0) xs
  pub once : NoRepeat xs
  pub nodes : (f : ℕ) → In f xs → f < g.t_star
  pub ordered : (e : ℕ) → e < edge_count g → In (face_right g e) xs → Precedes (face_left g e) (face_right g e) xs

-- an edge with its left in the list and its right outside
pub record OnBoundary (g : SidesValue) (xs : List ℕ) (e : ℕ) : Type 0 where
  pub arc : e < edge_count g
  pub left_in : In (face_left g e) xs
  pub right_out : In (face_right g e) xs → ⊥

-- these edges as a walk from source to sink
pub record Boundary (g : SidesValue) (xs : List ℕ) : Type 0 where
  pub way : List ℕ
  pub walk : Walk (primal g) g.source way g.sink
  pub are : Lists way (OnBoundary g xs)

-- an inner face outside the list whose whole left path is on the boundary
pub record NextFace (g : SidesValue) (xs : List ℕ) : Type 0 where
  pub face : ℕ
  pub inner : IsInner g face
  pub outside : In face xs → ⊥
  pub left_path_on : (e : ℕ) → In e (left_path g face) → OnBoundary g xs e

-- Each such list has a boundary, and a next face while an inner face is outside.
pub record BoundaryLaw (g : SidesValue) : Type 0 where
  pub boundary : (xs : List ℕ) → IsLeftPart g xs → Boundary g xs
  pub grows : (xs : List ℕ) → IsLeftPart g xs → (f : ℕ) → IsInner g f → (In f xs → ⊥) → NextFace g xs

-- an order of all dual nodes with the left of each edge before its right
pub record IsSweep (g : SidesValue) (xs : List ℕ) : Type 0 where
  pub nodes : Lists xs (λ f. f ≤ g.t_star)
  pub ordered : (e : ℕ) → e < edge_count g → Precedes (face_left g e) (face_right g e) xs

-- the same by places
pub record AreSwept (g : SidesValue) (xs : List ℕ) : Type 0 where
  pub count : length xs ≡ g.t_star + 1
  pub within : (k : ℕ) → k < length xs → slice_index xs k ≤ g.t_star
  pub place : (f : ℕ) → f ≤ g.t_star → (k : ℕ) × (k < length xs) × (slice_index xs k ≡ f)
  pub apart : (i k : ℕ) → i < k → k < length xs → slice_index xs i ≢ slice_index xs k
  -- the left of each edge with the node at a place on its right stands at an earlier place
  pub after : (k e : ℕ) → k < length xs → e < edge_count g → face_right g e ≡ slice_index xs k
      → (i : ℕ) × (i < k) × (slice_index xs i ≡ face_left g e)

-- There is a sweep, and the dual has no cycle.
pub record SweepLaw (g : SidesValue) : Type 0 where
  pub items : List ℕ
  pub sweep : IsSweep g items
  pub acyclic : IsAcyclic (dual g)

-- the numbers of the nodes of a list
abbrev pub node_numbers : List FaceId → List ℕ
node_numbers fs = map (λ f. f.0) fs

-- the nodes on the left and right of each of the first n edges, as arcs
pub record AreDualArcs (g : SidesValue) (n : ℕ) (arcs : List (ℕ × ℕ)) : Type 0 where
  pub count : length arcs ≡ n
  pub tails : (e : ℕ) → e < n → tail_of arcs e ≡ face_left g e
  pub heads : (e : ℕ) → e < n → head_of arcs e ≡ face_right g e
