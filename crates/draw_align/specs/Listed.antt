-- Listed paths of a planar st-graph, and what may be wrong with them.
-- Letters: g sides, ps paths, p and q numbers of paths from 0, es and fs lists of edges, e edge, v vertex.
--   path_at ps p                the edges of path p
--   IsPath g es                 the edges are a walk, and there is one at least
--   CrossRightward, Cross       two walks cross at v
--   IsShared ps p e             e is in a path before path p
--   IsSoundPath g ps p          path p is a walk that shares no edge with an earlier path and crosses none
--   AreSound g ps n             each of the first n paths is
--   IsFirstShared ps p e        e is the first edge of path p that is in an earlier path
--   IsFirstCrossing g ps p q v  v is the first vertex along path p at which it crosses an earlier path, and q the least such
use Rattle.std.specs.Prelude.{ℕ, List, [], ◌≡◌, ◌<◌, ◌⊎◌, length, slice_index, slice_index_or}
use Rattle.st_ids.specs.Lists.{In, Precedes}
use Rattle.st_ids.specs.Walks.{Walk}
use Rattle.st_sides.specs.Sides.{SidesValue, edge_head, outs, ins, primal}

-- the edges of path p
unfoldable pub path_at : List (List ℕ) → ℕ → List ℕ
path_at ps p = slice_index_or ps p []

-- The edges are a walk, and there is one at least.
pub record IsPath (g : SidesValue) (es : List ℕ) : Type 0 where
  pub from : ℕ
  pub to : ℕ
  pub walk : Walk (primal g) from es to
  pub some : (e : ℕ) × In e es

-- Two walks cross at v: each has an edge into v and an edge out of v, and from left to right their edges into v have the
-- other order than their edges out of v. Here es is on the left below v, and on the right above it.
pub record CrossRightward (g : SidesValue) (es fs : List ℕ) (v : ℕ) : Type 0 where
  pub x : ℕ
  pub y : ℕ
  pub x' : ℕ
  pub y' : ℕ
  pub x_on : In x es
  pub y_on : In y es
  pub x'_on : In x' fs
  pub y'_on : In y' fs
  pub in_order : Precedes x x' (ins g v)
  pub out_order : Precedes y' y (outs g v)

-- Two walks cross at v, in one way or the other.
abbrev pub Cross : SidesValue → List ℕ → List ℕ → ℕ → Type 0
Cross g es fs v = CrossRightward g es fs v ⊎ CrossRightward g fs es v

-- e is in a path before path p
pub record IsShared (ps : List (List ℕ)) (p e : ℕ) : Type 0 where
  pub other : ℕ
  pub earlier : other < p
  pub on : In e (path_at ps other)

-- Path p is a walk of at least one edge; it shares no edge with an earlier path, and crosses none.
pub record IsSoundPath (g : SidesValue) (ps : List (List ℕ)) (p : ℕ) : Type 0 where
  pub is_path : IsPath g (path_at ps p)
  pub unshared : (e : ℕ) → In e (path_at ps p) → IsShared ps p e → ⊥
  pub uncrossed : (q v : ℕ) → q < p → v < g.vertices → Cross g (path_at ps p) (path_at ps q) v → ⊥

-- each of the first n paths is sound
abbrev pub AreSound : SidesValue → List (List ℕ) → ℕ → Type 0
AreSound g ps n = (p : ℕ) → p < n → IsSoundPath g ps p

-- e is the first edge along path p that is in an earlier path
pub record IsFirstShared (ps : List (List ℕ)) (p e : ℕ) : Type 0 where
  pub place : ℕ
  pub there : place < length (path_at ps p)
  pub is : slice_index (path_at ps p) place ≡ e
  pub shared : IsShared ps p e
  pub none : (i : ℕ) → i < place → IsShared ps p (slice_index (path_at ps p) i) → ⊥

-- v is the first vertex along path p at which it crosses an earlier path, and q is the least path that it crosses there
pub record IsFirstCrossing (g : SidesValue) (ps : List (List ℕ)) (p q v : ℕ) : Type 0 where
  pub place : ℕ
  pub there : place < length (path_at ps p)
  pub at : edge_head g (slice_index (path_at ps p) place) ≡ v
  pub earlier : q < p
  pub cross : Cross g (path_at ps p) (path_at ps q) v
  pub least : (r : ℕ) → r < q → Cross g (path_at ps p) (path_at ps r) v → ⊥
  pub none : (i r : ℕ) → i < place → r < p → Cross g (path_at ps p) (path_at ps r) (edge_head g (slice_index (path_at ps p) i)) → ⊥
