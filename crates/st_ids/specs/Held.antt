-- What a short list holds in itself, and a long one in a block.
use Rattle.std.specs.Prelude.{ℕ, List}
use Rattle.st_ids.specs.EdgeNumbers.{numbers}
use Rattle.st_ids.specs.declared.text.Bytes.{Bytes}
use Rattle.st_ids.specs.declared.text.Bytes.TheVariants.{Short, Long}
use Rattle.st_ids.specs.declared.edges.Edges.{Edges}
use Rattle.st_ids.specs.declared.edges.Edges.TheVariants.{Few, Many}

-- the bytes of a text
abbrev pub held_bytes : Bytes → List ℕ
held_bytes (Short few) = few
held_bytes (Long block) = block.value.items

-- the numbers of the edges of a list
abbrev pub held_edges : Edges → List ℕ
held_edges (Few few) = few
held_edges (Many list) = numbers list.items
