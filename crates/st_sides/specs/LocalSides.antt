-- How the sides of a planar st-graph fit together, at each vertex and at each face.
--   first, last              of a list of edges
--   Between                  one inner face lies between two neighbouring edges
--   AtVertices, AtFaces      what holds round each vertex, and along the two paths of each face
--   AtLeftEnd, AtRightEnd    how a path passes a vertex: by the first edge in and the first out, or by the last ones
use Rattle.std.specs.Prelude.{ℕ, ◌≡◌, ◌≢◌, ◌+◌, ◌-◌, ◌<◌, ◌≤◌, List, length, slice_index}
use Rattle.st_map.specs.Embedded.{Embedded, head, faces}
use Rattle.st_sides.specs.Conditions.{left_face, right_face}

abbrev pub first : List ℕ → ℕ
first es = slice_index es 0

abbrev pub last : List ℕ → ℕ
last es = slice_index es (length es - 1)

-- the edges e and f out of v, or into v, stand side by side: one inner face lies between them
pub record Between (g : Embedded) (outer e f : ℕ) : Type 0 where
  pub one : right_face g outer e ≡ left_face g outer f
  pub positive : 0 < right_face g outer e
  pub below : right_face g outer e < faces g

-- round a vertex
pub record AtVertices (g : Embedded) (s t outer : ℕ) (outs ins : ℕ → List ℕ) (low high : ℕ → ℕ) : Type 0 where
  pub outs_next : (v i : ℕ) → v < g.vertices → i + 1 < length (outs v)
      → Between g outer (slice_index (outs v) i) (slice_index (outs v) (i + 1)) × (low (right_face g outer (slice_index (outs v) i)) ≡ v)
  pub ins_next : (v i : ℕ) → v < g.vertices → i + 1 < length (ins v)
      → Between g outer (slice_index (ins v) i) (slice_index (ins v) (i + 1)) × (high (right_face g outer (slice_index (ins v) i)) ≡ v)
  pub some_out : (v : ℕ) → v < g.vertices → v ≢ t → 0 < length (outs v)
  pub some_in : (v : ℕ) → v < g.vertices → v ≢ s → 0 < length (ins v)
  -- the left face of the leftmost out is that of the leftmost in, the right face of the rightmost out that of the rightmost in
  pub left_one : (v : ℕ) → v < g.vertices → v ≢ s → v ≢ t → left_face g outer (first (outs v)) ≡ left_face g outer (first (ins v))
  pub right_one : (v : ℕ) → v < g.vertices → v ≢ s → v ≢ t → right_face g outer (last (outs v)) ≡ right_face g outer (last (ins v))
  -- at the poles these are the outer face's two nodes
  pub left_s : left_face g outer (first (outs s)) ≡ 0
  pub right_s : right_face g outer (last (outs s)) ≡ faces g
  pub left_t : left_face g outer (first (ins t)) ≡ 0
  pub right_t : right_face g outer (last (ins t)) ≡ faces g

-- e enters and f leaves v at its right end: the end of e is the last of the ins, that of f the last of the outs
pub record AtRightEnd (outs ins : ℕ → List ℕ) (v e f : ℕ) : Type 0 where
  pub in_last : last (ins v) ≡ e
  pub out_last : last (outs v) ≡ f

pub record AtLeftEnd (outs ins : ℕ → List ℕ) (v e f : ℕ) : Type 0 where
  pub in_first : first (ins v) ≡ e
  pub out_first : first (outs v) ≡ f

-- round a face
pub record AtFaces (g : Embedded) (outer : ℕ) (outs ins : ℕ → List ℕ) (low high : ℕ → ℕ) (left_path right_path : ℕ → List ℕ) : Type 0 where
  pub some_left : (f : ℕ) → 0 < f → f ≤ faces g → 0 < length (left_path f)
  pub some_right : (f : ℕ) → f < faces g → 0 < length (right_path f)
  -- the two lowest edges of an inner face stand side by side, and so do the two highest
  pub lowest : (f : ℕ) → 0 < f → f < faces g → (i : ℕ) × (i + 1 < length (outs (low f)))
      × (slice_index (outs (low f)) i ≡ first (left_path f)) × (slice_index (outs (low f)) (i + 1) ≡ first (right_path f))
  pub highest : (f : ℕ) → 0 < f → f < faces g → (i : ℕ) × (i + 1 < length (ins (high f)))
      × (slice_index (ins (high f)) i ≡ last (left_path f)) × (slice_index (ins (high f)) (i + 1) ≡ last (right_path f))
  -- at each vertex inside its left path the face lies on the right end of the vertex, and the other way round
  pub left_inner : (f i : ℕ) → 0 < f → f ≤ faces g → i + 1 < length (left_path f)
      → AtRightEnd outs ins (head g (slice_index (left_path f) i)) (slice_index (left_path f) i) (slice_index (left_path f) (i + 1))
  pub right_inner : (f i : ℕ) → f < faces g → i + 1 < length (right_path f)
      → AtLeftEnd outs ins (head g (slice_index (right_path f) i)) (slice_index (right_path f) i) (slice_index (right_path f) (i + 1))
