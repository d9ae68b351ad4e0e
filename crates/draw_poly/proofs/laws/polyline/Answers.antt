use Rattle.draw_poly.proofs.NumberLemmas.{polyline_drawn}
use Rattle.draw_poly.proofs.laws.polyline.Goals as goal

pub returns : goal.returns
returns c = polyline_drawn
