-- The names that an index of edges knows.
use Rattle.std.specs.Prelude.{ℤ, List}
use Rattle.st_input.specs.Names.{positions}
use Rattle.st_input.specs.declared.edges.EdgeNames.{EdgeNames}
use Rattle.st_input.specs.declared.edges.EdgeNames.TheVariants.{Ids, Positions}

unfoldable pub known_names : EdgeNames → List ℤ
known_names (Ids ids) = ids
known_names (Positions count) = positions count
