-- The sides of a planar st-graph as a value: its faces as nodes of the dual, and the edges in order round vertices and
-- faces. Letters: g value of sides, v vertex, e edge, f dual node.
--   SidesValue                     the lists; the words below read them
--   edge_count                     how many edges
--   edge_tail, edge_head           where an edge leads from and to
--   face_left, face_right          the nodes on the left and on the right of an edge
--   outs, ins                      the edges out of a vertex and into it, from left to right
--   low, high                      the lowest and the highest vertex of a node
--   left_path, right_path          the two walks of a node, from low to high
--   left_of, right_of              the nodes on the left and on the right of a vertex
--   primal, dual                   the edges as arcs between vertices, and between nodes
--   IsInner g f                    f is an inner face
--   MeetsLow, MeetsHigh            of two neighbouring edges: the face between them has its low, or its high, there
--   IsSides                        all that holds near each vertex and each face; boundaries, sweep and order of objects follow from it
use Rattle.std.specs.Prelude.{ℕ, List, [], ◌≡◌, ◌≢◌, ◌<◌, ◌≤◌, length, slice_index_or}
use Rattle.st_ids.specs.Graph.{tail_of, head_of}
use Rattle.st_ids.specs.Lists.{In, Linked, FirstIs, LastIs, Lists}
use Rattle.st_ids.specs.Walks.{Arcs, Walk, IsAcyclic}

-- The dual nodes are s* = 0, the left half of the outer face, the inner faces 1 to t_star - 1, and t* = t_star, its
-- right half.
pub record SidesValue : Type 0 where
  pub vertices : ℕ
  pub ends : List (ℕ × ℕ)
  pub source : ℕ
  pub sink : ℕ
  pub t_star : ℕ
  pub lefts_of_edges : List ℕ
  pub rights_of_edges : List ℕ
  pub out_lists : List (List ℕ)
  pub in_lists : List (List ℕ)
  pub lows : List ℕ
  pub highs : List ℕ
  pub left_paths : List (List ℕ)
  pub right_paths : List (List ℕ)
  pub lefts_of_vertices : List ℕ
  pub rights_of_vertices : List ℕ

unfoldable pub edge_count : SidesValue → ℕ
edge_count g = length g.ends

unfoldable pub edge_tail : SidesValue → ℕ → ℕ
edge_tail g e = tail_of g.ends e

unfoldable pub edge_head : SidesValue → ℕ → ℕ
edge_head g e = head_of g.ends e

-- the dual nodes on the left and on the right of an edge
unfoldable pub face_left : SidesValue → ℕ → ℕ
face_left g e = slice_index_or g.lefts_of_edges e 0

unfoldable pub face_right : SidesValue → ℕ → ℕ
face_right g e = slice_index_or g.rights_of_edges e 0

unfoldable pub outs : SidesValue → ℕ → List ℕ
outs g v = slice_index_or g.out_lists v []

unfoldable pub ins : SidesValue → ℕ → List ℕ
ins g v = slice_index_or g.in_lists v []

unfoldable pub low : SidesValue → ℕ → ℕ
low g f = slice_index_or g.lows f 0

unfoldable pub high : SidesValue → ℕ → ℕ
high g f = slice_index_or g.highs f 0

unfoldable pub left_path : SidesValue → ℕ → List ℕ
left_path g f = slice_index_or g.left_paths f []

unfoldable pub right_path : SidesValue → ℕ → List ℕ
right_path g f = slice_index_or g.right_paths f []

-- the dual nodes on the left and on the right of a vertex
unfoldable pub left_of : SidesValue → ℕ → ℕ
left_of g v = slice_index_or g.lefts_of_vertices v 0

unfoldable pub right_of : SidesValue → ℕ → ℕ
right_of g v = slice_index_or g.rights_of_vertices v 0

-- the graph, and its dual
abbrev pub primal : SidesValue → Arcs
primal g = record { count = edge_count g; from = edge_tail g; to = edge_head g }

abbrev pub dual : SidesValue → Arcs
dual g = record { count = edge_count g; from = face_left g; to = face_right g }

-- an inner face
pub record IsInner (g : SidesValue) (f : ℕ) : Type 0 where
  pub not_s : 0 < f
  pub not_t : f < g.t_star

-- Two neighbours in the list of edges out of v: an inner face with low v lies between them.
pub record MeetsLow (g : SidesValue) (v e e' : ℕ) : Type 0 where
  pub same : face_right g e ≡ face_left g e'
  pub inner : IsInner g (face_right g e)
  pub at : low g (face_right g e) ≡ v

-- The same in the list of edges into v.
pub record MeetsHigh (g : SidesValue) (v e e' : ℕ) : Type 0 where
  pub same : face_right g e ≡ face_left g e'
  pub inner : IsInner g (face_right g e)
  pub at : high g (face_right g e) ≡ v

-- What holds near each vertex and each face of a planar st-graph.
pub record IsSides (g : SidesValue) : Type 0 where
  pub two_vertices : 2 ≤ g.vertices
  pub tail_in : (e : ℕ) → e < edge_count g → edge_tail g e < g.vertices
  pub head_in : (e : ℕ) → e < edge_count g → edge_head g e < g.vertices
  pub acyclic : IsAcyclic (primal g)
  pub source_in : g.source < g.vertices
  -- the source alone has no edge in, the sink alone none out
  pub source_first : (e : ℕ) → e < edge_count g → edge_head g e ≢ g.source
  pub sink_last : (e : ℕ) → e < edge_count g → edge_tail g e ≢ g.sink
  pub has_in : (v : ℕ) → v < g.vertices → v ≢ g.source → (e : ℕ) × (e < edge_count g) × (edge_head g e ≡ v)
  pub has_out : (v : ℕ) → v < g.vertices → v ≢ g.sink → (e : ℕ) × (e < edge_count g) × (edge_tail g e ≡ v)
  -- the edges out of v and into v, from left to right
  pub outs_are : (v : ℕ) → v < g.vertices → Lists (outs g v) (λ e. (e < edge_count g) × (edge_tail g e ≡ v))
  pub ins_are : (v : ℕ) → v < g.vertices → Lists (ins g v) (λ e. (e < edge_count g) × (edge_head g e ≡ v))
  pub outs_meet : (v : ℕ) → v < g.vertices → Linked (MeetsLow g v) (outs g v)
  pub ins_meet : (v : ℕ) → v < g.vertices → Linked (MeetsHigh g v) (ins g v)
  -- left and right of a vertex
  pub left_out : (v : ℕ) → v < g.vertices → v ≢ g.source → v ≢ g.sink → FirstIs (λ e. left_of g v ≡ face_left g e) (outs g v)
  pub left_in : (v : ℕ) → v < g.vertices → v ≢ g.source → v ≢ g.sink → FirstIs (λ e. left_of g v ≡ face_left g e) (ins g v)
  pub right_out : (v : ℕ) → v < g.vertices → v ≢ g.source → v ≢ g.sink → LastIs (λ e. right_of g v ≡ face_right g e) (outs g v)
  pub right_in : (v : ℕ) → v < g.vertices → v ≢ g.source → v ≢ g.sink → LastIs (λ e. right_of g v ≡ face_right g e) (ins g v)
  pub left_source : left_of g g.source ≡ 0
  pub left_sink : left_of g g.sink ≡ 0
  pub right_source : right_of g g.source ≡ g.t_star
  pub right_sink : right_of g g.sink ≡ g.t_star
  -- an edge has no t* on its left and no s* on its right
  pub has_t : 0 < g.t_star
  pub left_before : (e : ℕ) → e < edge_count g → face_left g e < g.t_star
  pub right_after : (e : ℕ) → e < edge_count g → 0 < face_right g e
  pub right_within : (e : ℕ) → e < edge_count g → face_right g e ≤ g.t_star
  -- the two paths of a face, with s* and t* from source to sink
  pub low_s : low g 0 ≡ g.source
  pub high_s : high g 0 ≡ g.sink
  pub low_t : low g g.t_star ≡ g.source
  pub high_t : high g g.t_star ≡ g.sink
  pub left_path_walk : (f : ℕ) → 0 < f → f ≤ g.t_star → Walk (primal g) (low g f) (left_path g f) (high g f)
  pub left_path_are : (f : ℕ) → 0 < f → f ≤ g.t_star → Lists (left_path g f) (λ e. (e < edge_count g) × (face_right g e ≡ f))
  pub right_path_walk : (f : ℕ) → f < g.t_star → Walk (primal g) (low g f) (right_path g f) (high g f)
  pub right_path_are : (f : ℕ) → f < g.t_star → Lists (right_path g f) (λ e. (e < edge_count g) × (face_left g e ≡ f))
  pub left_path_some : (f : ℕ) → IsInner g f → (e : ℕ) × In e (left_path g f)
