-- Edges as numbers.
use Rattle.std.specs.Prelude.{ℕ, List, map}
use Rattle.st_ids.specs.declared.ids.EdgeId.{EdgeId}

-- the numbers of the edges of a list
abbrev pub numbers : List EdgeId → List ℕ
numbers es = map (λ e. e.0) es
