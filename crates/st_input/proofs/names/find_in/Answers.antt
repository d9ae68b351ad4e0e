use Rattle.st_input.specs.Names.{number_of}
use Rattle.st_input.proofs.names.find_in.Goals as goal

pub returns-in-Some-clause-number : goal.returns-in-Some-clause-number
unfolding number_of
returns-in-Some-clause-number c = c.in-Some.ensures.index

pub returns-in-None-clause-number : goal.returns-in-None-clause-number
unfolding number_of
returns-in-None-clause-number c = c.in-None.ensures.index
