use Rattle.st_sides.proofs.ExampleLemmas.{two_edges_planar}
use Rattle.st_sides.proofs.laws.example.Goals as goal

pub returns : goal.returns
returns c = two_edges_planar
