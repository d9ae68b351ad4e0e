-- Lists of edges at each vertex, and the lists of ends that they stand for.
--   IsEdgeAt ends v e      e is an edge and has an end at v
--   IsOrderAt ends v es    es is a permutation of the edges at v
--   order_at orders v      the list of v
--   HasEdges g orders      every listed edge is there
--   HasNoLoop g            no edge leads from a vertex to itself
--   end_at ends v e        the end of e at v
--   embed g orders         the graph whose lists have the ends in the order of the lists of edges
use Rattle.std.specs.Prelude.{ℕ, ◌≡◌, ◌≢◌, ◌⊎◌, ◌+◌, ◌*◌, ◌<◌, ◌==◌, cond, List, [], map, length, slice_index_or}
use Rattle.std.specs.List.{All, range_with_len}
use Rattle.st_ids.specs.Graph.{Graph, tail_of, head_of}
use Rattle.st_ids.specs.Lists.{Lists}
use Rattle.st_map.specs.Embedded.{Embedded}

-- e is an edge and has an end at v
abbrev pub IsEdgeAt : List (ℕ × ℕ) → ℕ → ℕ → Type 0
IsEdgeAt ends v e = (e < length ends) × ((tail_of ends e ≡ v) ⊎ (head_of ends e ≡ v))

-- the list has the edges at v, each once, and no other
abbrev pub IsOrderAt : List (ℕ × ℕ) → ℕ → List ℕ → Type 0
IsOrderAt ends v es = Lists es (IsEdgeAt ends v)

-- the list of v
abbrev pub order_at : List (List ℕ) → ℕ → List ℕ
order_at orders v = slice_index_or orders v []

-- every listed edge is there
abbrev pub HasEdges : Graph → List (List ℕ) → Type 0
HasEdges g orders = All (All (λ e. e < length g.ends)) orders

-- no edge leads from a vertex to itself
abbrev pub HasNoLoop : Graph → Type 0
HasNoLoop g = (e : ℕ) → e < length g.ends → tail_of g.ends e ≢ head_of g.ends e

-- the end of e at v
abbrev pub end_at : List (ℕ × ℕ) → ℕ → ℕ → ℕ
end_at ends v e = cond (tail_of ends e == v) (2 * e) (2 * e + 1)

-- the ends at v in the order of the edges
abbrev pub ends_at : List (ℕ × ℕ) → List (List ℕ) → ℕ → List ℕ
ends_at ends orders v = map (end_at ends v) (order_at orders v)

-- the graph whose lists have the ends in the order of the lists of edges
abbrev pub embed : Graph → List (List ℕ) → Embedded
embed g orders = record { vertices = g.vertices; ends = g.ends; orders = map (ends_at g.ends orders) (range_with_len 0 g.vertices) }
