-- A directed graph: the number of its vertices, and the tail and head of each edge.
-- Letters: v vertex, e edge, both by number.
--   tail_of ends e, head_of ends e   where edge e leads from and to
--   arcs_of g                        the edges as arcs, for walks and reaching
use Rattle.std.specs.Prelude.{ℕ, ◌<◌, List, length, slice_index_or}
use Rattle.st_ids.specs.Walks.{Arcs}

pub record Graph : Type 0 where
  pub vertices : ℕ
  -- the tail and the head of each edge
  pub ends : List (ℕ × ℕ)

-- where the edge leads from
unfoldable pub tail_of : List (ℕ × ℕ) → ℕ → ℕ
tail_of ends e = (slice_index_or ends e (0, 0)).0

-- where the edge leads to
unfoldable pub head_of : List (ℕ × ℕ) → ℕ → ℕ
head_of ends e = (slice_index_or ends e (0, 0)).1

-- the ends of each edge are among n vertices
abbrev pub AreWithin : ℕ → List (ℕ × ℕ) → Type 0
AreWithin n ends = (e : ℕ) → e < length ends → (tail_of ends e < n) × (head_of ends e < n)

-- the ends of each edge are vertices
abbrev pub HasEnds : Graph → Type 0
HasEnds g = AreWithin g.vertices g.ends

-- the edges as arcs
abbrev pub arcs_of : Graph → Arcs
arcs_of g = record { count = length g.ends; from = tail_of g.ends; to = head_of g.ends }
