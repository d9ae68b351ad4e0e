-- When the file of a graph can be written and read again.
--   HasNoQuote o   a label, where there is one, has no quotation mark, which would end its string
--   IsWritable g   so few vertices and edges, and so short orders, that a list can hold them, and no label with a
--                  quotation mark
-- Letters: g graph, v vertex.
use Rattle.std.specs.Prelude.{ℕ, ◌≢◌, ◌+◌, ◌<◌, ◌^◌, List, [], length, slice_index_or, Option, None, Some, All}
use Rattle.st_input.specs.InputGraph.{InputGraph}

-- a label without a quotation mark
abbrev pub HasNoQuote : Option (List ℕ) → Type 0
HasNoQuote None = Unit {0}
HasNoQuote (Some bs) = All (λ b. b ≢ 34) bs

pub record IsWritable (g : InputGraph) : Type 0 where
  pub few : g.graph.vertices + length g.graph.ends + 2 < 2 ^ 31
  pub short : (v : ℕ) → length (slice_index_or g.orders v []) < 2 ^ 31
  pub quotes : (v : ℕ) → HasNoQuote (slice_index_or g.labels v None)
