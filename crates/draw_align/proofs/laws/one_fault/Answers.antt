use Rattle.draw_align.proofs.FaultLemmas.{fault_law}
use Rattle.draw_align.proofs.laws.one_fault.Goals as goal

pub returns : goal.returns
returns c = fault_law
