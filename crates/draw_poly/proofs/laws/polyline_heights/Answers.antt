use Rattle.draw_poly.proofs.HeightLemmas.{polyline_heights}
use Rattle.draw_poly.proofs.laws.polyline_heights.Goals as goal

pub returns : goal.returns
returns c = polyline_heights
