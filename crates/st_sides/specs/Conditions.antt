-- The sides of a planar st-graph: the dual nodes, the edges round each vertex from left to right, and the two paths of
-- each face.
-- Frame: edges go up, lists of ends are clockwise. Letters: g graph with its lists, s source, t sink, outer an end on the
-- outer face, v vertex, e edge, d end, f dual node.
--   is_inner_face g outer d             d stands for an inner face: it is the least end of a face that isn't outer's
--   node g outer d                      the node of the inner face of d
--   left_face, right_face               the node on the left and on the right of an edge
--   ListsOnce n P es                    es has the numbers below n with P, each once
--   AreOuts, AreIns                     the edges out of a vertex and into it, from left to right
--   IsSidePath                          a walk that has the edges with a property, each once
--   AreSides                            all of these, for every vertex and every node
-- The outer face is cut in two nodes, the left half and the right half of what lies round the drawing. The lists are
-- given by conditions; how one finds them is not said. After Di Battista, Eades, Tamassia, Tollis, Graph Drawing
-- (1999), ch. 4.
use Rattle.std.specs.Prelude.{ℕ, ◌≡◌, ◌≢◌, ◌+◌, ◌-◌, ◌*◌, ◌<◌, ◌≤◌, ◌==◌, ◌&&◌, Bool, true, false, cond, List, [], length, slice_index}
use Rattle.std.specs.Prelude.{not}
use Rattle.st_map.specs.Counting.{count_below}
use Rattle.st_ids.specs.Ends.{is_out}
use Rattle.st_map.specs.Embedded.{Embedded, edges, darts, tail, head, next, face, faces}
use Rattle.st_sides.specs.GraphWalks.{IsWalk}

-- d is the least end of an inner face
abbrev pub is_inner_face : Embedded → ℕ → ℕ → Bool
is_inner_face g outer d = (face g d == d) && not (face g outer == d)

-- The inner faces are the nodes 1, 2, .. in the order of their least ends; this is the node of the inner face of d.
unfoldable pub node : Embedded → ℕ → ℕ → ℕ
node g outer d = 1 + count_below (face g d) (is_inner_face g outer)

-- The outer face is cut in two nodes: its left half is 0, its right half is the number of faces.
-- the node on the left of e
unfoldable pub left_face : Embedded → ℕ → ℕ → ℕ
left_face g outer e = cond (face g (2 * e) == face g outer) 0 (node g outer (2 * e))

-- the node on the right of e
unfoldable pub right_face : Embedded → ℕ → ℕ → ℕ
right_face g outer e = cond (face g (2 * e + 1) == face g outer) (faces g) (node g outer (2 * e + 1))

-- es has the numbers below n with P, each once
pub record ListsOnce (n : ℕ) (P : ℕ → Type 0) (es : List ℕ) : Type 0 where
  pub only : (i : ℕ) → i < length es → (slice_index es i < n) × P (slice_index es i)
  pub each : (e : ℕ) → e < n → P e → (i : ℕ) × (i < length es) × (slice_index es i ≡ e)
  pub once : (i j : ℕ) → i < j → j < length es → slice_index es i ≢ slice_index es j

-- the edges out of v from left to right
pub record AreOuts (g : Embedded) (s outer v : ℕ) (es : List ℕ) : Type 0 where
  pub has : ListsOnce (edges g) (λ e. tail g e ≡ v) es
  pub follow : (i : ℕ) → i + 1 < length es → next g (2 * slice_index es i) ≡ 2 * slice_index es (i + 1)
  pub begins : v ≢ s → 0 < length es → (d : ℕ) → d < darts g → next g d ≡ 2 * slice_index es 0 → is_out d ≡ false
  pub begins_s : v ≡ s → 0 < length es → face g (2 * slice_index es 0) ≡ face g outer

-- the edges into v from left to right
pub record AreIns (g : Embedded) (t outer v : ℕ) (es : List ℕ) : Type 0 where
  pub has : ListsOnce (edges g) (λ e. head g e ≡ v) es
  pub follow : (i : ℕ) → i + 1 < length es → next g (2 * slice_index es (i + 1) + 1) ≡ 2 * slice_index es i + 1
  pub begins : v ≢ t → 0 < length es → is_out (next g (2 * slice_index es 0 + 1)) ≡ true
  pub ends_t : v ≡ t → 0 < length es → face g (2 * slice_index es (length es - 1) + 1) ≡ face g outer

-- a walk from low to high that has the edges with P, each once
pub record IsSidePath (g : Embedded) (P : ℕ → Type 0) (low high : ℕ) (es : List ℕ) : Type 0 where
  pub walk : IsWalk g low es high
  pub has : ListsOnce (edges g) P es

-- all lists and paths at once
pub record AreSides (g : Embedded) (s t outer : ℕ) (outs ins : ℕ → List ℕ) (low high : ℕ → ℕ) (left_path right_path : ℕ → List ℕ) : Type 0 where
  pub outs_are : (v : ℕ) → v < g.vertices → AreOuts g s outer v (outs v)
  pub ins_are : (v : ℕ) → v < g.vertices → AreIns g t outer v (ins v)
  -- the nodes from 1 to faces - 1 have two paths, node 0 has only a right one, node faces only a left one
  pub left_none : left_path 0 ≡ []
  pub right_none : right_path (faces g) ≡ []
  pub left_is : (f : ℕ) → 0 < f → f ≤ faces g → IsSidePath g (λ e. right_face g outer e ≡ f) (low f) (high f) (left_path f)
  pub right_is : (f : ℕ) → f < faces g → IsSidePath g (λ e. left_face g outer e ≡ f) (low f) (high f) (right_path f)
  pub low_first : low 0 ≡ s
  pub high_first : high 0 ≡ t
  pub low_last : low (faces g) ≡ s
  pub high_last : high (faces g) ≡ t
