use Rattle.draw_align.proofs.AlignmentLemmas.{alignment_law}
use Rattle.draw_align.proofs.laws.alignment.Goals as goal

pub returns : goal.returns
returns c = alignment_law
