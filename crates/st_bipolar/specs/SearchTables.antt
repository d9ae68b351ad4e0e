-- The tables of a depth-first search over a map.
-- Letters: g graph, v vertex, i place in its list, all by number.
--   deg_of g v, nbr_of g v i   how many ends v has, and the vertex at the other end of the edge at place i
--   unvisited                  what stands for a vertex that wasn't visited
--   AreCursors                 the next end of each vertex whose ends aren't all done
--   IsGoing                    the tables hold what a search holds at every step
--   IsGoingBy                  the same of the record of the tables
--   work                       it falls with each step
use Rattle.std.specs.Prelude.{ℕ, ◌≡◌, ◌+◌, ◌-◌, ◌*◌, ◌^◌, ◌<◌, List, length, slice_index, sum}
use Rattle.st_ids.specs.Ends.{twin}
use Rattle.st_map.specs.Embedded.{Embedded, order, at}
use Rattle.st_bipolar.specs.declared.searching.Tables.{Tables}
use Rattle.st_bipolar.specs.SearchState.{IsSearching}

abbrev pub deg_of : Embedded → ℕ → ℕ
deg_of g v = length (order g v)

abbrev pub nbr_of : Embedded → ℕ → ℕ → ℕ
nbr_of g v i = at g (twin (slice_index (order g v) i))

abbrev pub unvisited : ℕ
unvisited = 2 ^ 32 - 1

pub record AreSearchDegrees (g : Embedded) (m : ℕ) (left : List ℕ) : Type 0 where
  pub size : length left ≡ m
  pub each : (v : ℕ) → v < m → slice_index left v ≡ deg_of g v

pub record AreSearchFirsts (g : Embedded) (m : ℕ) (next : List ℕ) : Type 0 where
  pub size : length next ≡ m
  pub each : (v : ℕ) → v < m → 0 < deg_of g v → slice_index next v ≡ slice_index (order g v) 0

pub record AreCursors (g : Embedded) (left next : List ℕ) : Type 0 where
  pub left_size : length left ≡ g.vertices
  pub next_size : length next ≡ g.vertices
  pub each : (v i : ℕ) → v < g.vertices → i + slice_index left v ≡ deg_of g v → i < deg_of g v → slice_index next v ≡ slice_index (order g v) i

pub record IsGoing (g : Embedded) (vs parents lows place left next : List ℕ) (top : ℕ) : Type 0 where
  pub parents_size : length parents ≡ length vs
  pub lows_size : length lows ≡ length vs
  pub place_size : length place ≡ g.vertices
  pub cursors : AreCursors g left next
  pub searching : IsSearching g.vertices (deg_of g) (nbr_of g) unvisited (length vs) (slice_index vs) (slice_index parents) (slice_index lows) (slice_index place) (slice_index left) top

abbrev pub IsGoingBy : Embedded → Tables → ℕ → Type 0
IsGoingBy g t top = IsGoing g t.vertices.items t.parents.items t.lows.items t.place.items t.left.items t.next.items top

abbrev pub work : ℕ → List ℕ → ℕ → ℕ
work n left top = sum left * (n + 1) + top

-- the first two vertices stay
abbrev pub SamePoles : List ℕ → List ℕ → Type 0
SamePoles old new = (slice_index new 0 ≡ slice_index old 0) × (slice_index new 1 ≡ slice_index old 1)
