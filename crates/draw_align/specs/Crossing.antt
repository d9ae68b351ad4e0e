-- How code finds crossings: by the columns of the nodes on the left of edges, which order the edges at a vertex.
-- Letters: g sides, c columns of the dual nodes, ps paths, p, q and r numbers of paths, x and x' edges into a vertex, y and y'
-- edges out of it.
--   IsRanked g c           the columns grow along the arcs of the dual
--   rank_of g c e          the column of the node on the left of e
--   Turned                 the edges x and x' lie in the other order than y and y'
--   TurnedBy               path q comes by x', and goes on by an edge y', so that the order turns
--   IsLeast P r            r is the least number with the property, or nothing where there is none
--   EarlierBy, EarlierAt   a path before p turns at an edge, or at one of the first k edges into the head of x
--   lesser_of              the lesser of two numbers
--   Follows                of two passings the later goes on to the right of the earlier
--   PassesAt, IsSorted     passings by the first k edges into v, and whether they go on in order
use Rattle.std.specs.Prelude.{ℕ, ℤ, List, Option, Some, None, ◌≡◌, ◌<◌, ◌≤◌, ◌+◌, ◌⊎◌, cond, nat_lt, slice_index, IfSome}
use Rattle.st_sides.specs.Sides.{SidesValue, edge_count, edge_head, face_left, ins}
use Rattle.st_picture.specs.Bars.{number_at, HasNaturals}
use Rattle.st_picture.specs.Growing.{GrowsRight}
use Rattle.draw_align.specs.declared.steps.Passage.{Passage}
use Rattle.draw_align.specs.Steps.{PassesThrough}

-- columns that grow along the arcs of the dual
pub record IsRanked (g : SidesValue) (c : List ℤ) : Type 0 where
  pub columns_are : HasNaturals c (g.t_star + 1)
  pub rightward : GrowsRight g (number_at c)

-- the column of the node on the left of e
abbrev pub rank_of : SidesValue → List ℤ → ℕ → ℕ
rank_of g c e = number_at c (face_left g e)

-- the edges x and x' lie in the other order than y and y'
abbrev pub Turned : SidesValue → List ℤ → ℕ → ℕ → ℕ → ℕ → Type 0
Turned g c x y x' y' = ((rank_of g c x < rank_of g c x') × (rank_of g c y' < rank_of g c y))
    ⊎ ((rank_of g c x' < rank_of g c x) × (rank_of g c y < rank_of g c y'))

-- path q comes by x' and goes on by y', so that the order turns
pub record TurnedBy (g : SidesValue) (c : List ℤ) (ps : List (List ℕ)) (q x y x' : ℕ) : Type 0 where
  pub y' : ℕ
  pub passes : PassesThrough g ps q x' y'
  pub turned : Turned g c x y x' y'

-- r is the least number with the property, or nothing where there is none
abbrev pub IsLeast : (ℕ → Type 0) → Option ℕ → Type 0
IsLeast P (Some q) = P q × ((r : ℕ) → r < q → P r → ⊥)
IsLeast P None = (r : ℕ) → P r → ⊥

-- path q is before p and turns at x'
abbrev pub EarlierBy : SidesValue → List ℤ → List (List ℕ) → ℕ → ℕ → ℕ → ℕ → ℕ → Type 0
EarlierBy g c ps p x y x' q = (q < p) × TurnedBy g c ps q x y x'

-- path q is before p and turns at one of the first k edges into the head of x
pub record EarlierAt (g : SidesValue) (c : List ℤ) (ps : List (List ℕ)) (p x y k q : ℕ) : Type 0 where
  pub place : ℕ
  pub there : place < k
  pub by : EarlierBy g c ps p x y (slice_index (ins g (edge_head g x)) place) q

-- the lesser of two numbers, where there are some
abbrev pub lesser_of : Option ℕ → Option ℕ → Option ℕ
lesser_of (Some m) (Some n) = Some (cond (nat_lt n m) n m)
lesser_of (Some m) None = Some m
lesser_of None found = found

-- of two passings, where there are both, the later goes on to the right of the earlier
abbrev pub Follows : SidesValue → List ℤ → Option Passage → Option Passage → Type 0
Follows g c (Some a) (Some b) = rank_of g c a.next.0 < rank_of g c b.next.0
Follows g c (Some a) None = Unit {0}
Follows g c None found = Unit {0}

-- a path before n comes to v by one of its first k edges in, and goes on as s says
pub record PassesAt (g : SidesValue) (ps : List (List ℕ)) (n v k : ℕ) (s : Passage) : Type 0 where
  pub place : ℕ
  pub there : place < k
  pub before : s.path < n
  pub passes : PassesThrough g ps s.path (slice_index (ins g v) place) s.next.0

-- Those of the first n paths that come to v by its first k edges in go on in the order in which they come; the last of them
-- is known.
pub record IsSorted (g : SidesValue) (c : List ℤ) (ps : List (List ℕ)) (n v k : ℕ) (last : Option Passage) : Type 0 where
  pub there : IfSome last (λ s. s.next.0 < edge_count g)
  pub held : (s : Passage) → last ≡ Some s → PassesAt g ps n v k s
  pub most : (i q y : ℕ) → i < k → q < n → PassesThrough g ps q (slice_index (ins g v) i) y → (s : Passage) × (last ≡ Some s) × (rank_of g c y ≤ rank_of g c s.next.0)
  pub sorted : (i j q r y z : ℕ) → i < j → j < k → q < n → r < n → PassesThrough g ps q (slice_index (ins g v) i) y → PassesThrough g ps r (slice_index (ins g v) j) z → rank_of g c y < rank_of g c z
