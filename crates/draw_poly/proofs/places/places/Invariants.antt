use Rattle.std.proofs.Common.{◌≤◌}
use Rattle.st_picture.specs.Bars.{number_at}
use Rattle.draw_poly.specs.Tables.{ArePlaces}
use Rattle.draw_poly.proofs.places.places.Given as goal

abbrev pub invariant-loop-v : goal.invariant-loop-v
invariant-loop-v g l = record {
  in_range : l.v ≤ l.sides.vertices;
  places_are : ArePlaces (goal.G-post g l.placer.closure) l.sides (number_at l.columns) l.v l.places;
}
