-- What a search delivers, as the record that holds it.
--   first_pole visit     the vertex that the search began at; second_pole the one that it took for its first child
--   IsVisitBy g visit    a depth-first search of g from the first two of the visited vertices
--   HasNoJointBy visit   by its low points no vertex cuts off another one
use Rattle.std.specs.Prelude.{ℕ, length, slice_index}
use Rattle.st_ids.specs.Graph.{Graph}
use Rattle.st_bipolar.specs.declared.searching.Visit.{Visit}
use Rattle.st_bipolar.specs.Search.{HasNoJoint}
use Rattle.st_bipolar.specs.Cuts.{IsVisited}

abbrev pub first_pole : Visit → ℕ
first_pole visit = slice_index visit.vertices.items 0

abbrev pub second_pole : Visit → ℕ
second_pole visit = slice_index visit.vertices.items 1

abbrev pub IsVisitBy : Graph → Visit → Type 0
IsVisitBy g visit = IsVisited g (first_pole visit) (second_pole visit) visit.vertices.items visit.parents.items visit.lows.items

abbrev pub HasNoJointBy : Visit → Type 0
HasNoJointBy visit = HasNoJoint (length visit.vertices.items) (slice_index visit.parents.items) (slice_index visit.lows.items)
