use Rattle.st_test.proofs.OneAnswer.{answer_same}
use Rattle.st_test.proofs.laws.one_poles_answer.Goals as goal

pub returns : goal.returns
returns c = answer_same
