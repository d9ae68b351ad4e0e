use Rattle.draw_poly.proofs.TrackLemmas.{tracks_law}
use Rattle.draw_poly.proofs.laws.tracks.Goals as goal

pub returns : goal.returns
returns c = tracks_law
