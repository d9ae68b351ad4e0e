-- What holds while the vertices are taken away.
-- Letters: n number of vertices, order the vertices taken away so far, es the edges gone so far, degree how many edges
-- still come to each vertex, place the place in the order that is looked at, link one more than the next edge that goes.
--   member, left_into        whether a number is in a list; whether an edge comes to a vertex and is not gone
--   StripState               the order and the degrees fit the edges that are gone
--   IsTurn, Released         which edges are gone: those out of earlier places, and the later ones out of this place
--   IsFront                  a list is the front of another
--   IsReleasing, AreGoing    what holds between two vertices, and between two edges out of one vertex
--   AreZeros, IsBefore       what the lists of vertices without an edge in, and of links, have
use Rattle.std.specs.Prelude.{ℕ, ◌≡◌, ◌≢◌, ◌⊎◌, ◌<◌, ◌≤◌, ◌==◌, ◌&&◌, ◌||◌, Bool, true, false, List, [], ◌∷◌, length, slice_index}
use Rattle.std.specs.Prelude.{not}
use Rattle.st_ids.specs.Graph.{tail_of, head_of}
use Rattle.st_map.specs.Counting.{count_below}
use Rattle.st_map.specs.Tables.{enters, leaves}
use Rattle.st_test.specs.Stripping.{last_below}

-- whether x is in the list
abbrev pub member : List ℕ → ℕ → Bool
member [] x = false
member (y ∷ ys) x = (y == x) || member ys x

-- the edge comes to v and is not in the list
abbrev pub left_into : List (ℕ × ℕ) → List ℕ → ℕ → ℕ → Bool
left_into ends es v e = enters ends v e && not (member es e)

-- The edges of es are gone. The order has the vertices to which none of the others comes.
pub record StripState (n : ℕ) (ends : List (ℕ × ℕ)) (order es degree : List ℕ) : Type 0 where
  pub size : length degree ≡ n
  pub degrees : (v : ℕ) → v < n → slice_index degree v ≡ count_below (length ends) (left_into ends es v)
  pub zeros : (v : ℕ) → v < n → slice_index degree v ≡ 0 → (k : ℕ) × (k < length order) × (slice_index order k ≡ v)
  pub vertices : (k : ℕ) → k < length order → (slice_index order k < n) × (slice_index degree (slice_index order k) ≡ 0)
  pub apart : (i k : ℕ) → i < k → k < length order → slice_index order i ≢ slice_index order k
  pub before : (k e : ℕ) → k < length order → e < length ends → head_of ends e ≡ slice_index order k → (i : ℕ) × (i < k) × (slice_index order i ≡ tail_of ends e)
  pub edges : (k : ℕ) → k < length es → slice_index es k < length ends
  pub edges_apart : (i k : ℕ) → i < k → k < length es → slice_index es i ≢ slice_index es k
  pub edges_before : (k d : ℕ) → k < length es → d < length ends → head_of ends d ≡ tail_of ends (slice_index es k) → (i : ℕ) × (i < k) × (slice_index es i ≡ d)

-- the edge e, out of the vertex at place j, is one that is gone: j is before i, or it is i and e is not below k
abbrev pub IsTurn : ℕ → ℕ → ℕ → ℕ → Type 0
IsTurn i k j e = (j < i) ⊎ ((j ≡ i) × (k ≤ e))

pub record Released (ends : List (ℕ × ℕ)) (i k : ℕ) (order es : List ℕ) : Type 0 where
  pub tails : (p : ℕ) → p < length es → (j : ℕ) × (j < length order) × (slice_index order j ≡ tail_of ends (slice_index es p)) × IsTurn i k j (slice_index es p)
  pub all : (j e : ℕ) → j < length order → e < length ends → slice_index order j ≡ tail_of ends e → IsTurn i k j e → member es e ≡ true

-- xs are the first of ys
pub record IsFront (xs ys : List ℕ) : Type 0 where
  pub shorter : length xs ≤ length ys
  pub same : (k : ℕ) → k < length xs → slice_index ys k ≡ slice_index xs k

-- what holds before the edges out of the vertex at place i, and what holds after them
pub record IsReleasing (n : ℕ) (ends : List (ℕ × ℕ)) (i : ℕ) (order es degree : List ℕ) : Type 0 where
  pub state : StripState n ends order es degree
  pub released : Released ends i (length ends) order es

-- the vertices with degree 0, from the first to the last
pub record AreZeros (n : ℕ) (degree vs : List ℕ) : Type 0 where
  pub only : (k : ℕ) → k < length vs → (slice_index vs k < n) × (slice_index degree (slice_index vs k) ≡ 0)
  pub each : (v : ℕ) → v < n → slice_index degree v ≡ 0 → (k : ℕ) × (k < length vs) × (slice_index vs k ≡ v)
  pub ordered : (i k : ℕ) → i < k → k < length vs → slice_index vs i < slice_index vs k

-- the links from each edge to the one before it out of the same vertex
pub record IsBefore (ends : List (ℕ × ℕ)) (before : List ℕ) : Type 0 where
  pub size : length before ≡ length ends
  pub each : (e : ℕ) → e < length ends → slice_index before e ≡ last_below e (leaves ends (tail_of ends e))

-- What holds while the edges out of the vertex at a place go: those from link on are gone.
pub record AreGoing (n : ℕ) (ends : List (ℕ × ℕ)) (place : ℕ) (first order es degree : List ℕ) (link : ℕ) : Type 0 where
  pub state : StripState n ends order es degree
  pub released : Released ends place link order es
  pub front : IsFront first order
  pub within : link ≤ length ends
  pub chained : link ≡ last_below link (leaves ends (slice_index order place))
