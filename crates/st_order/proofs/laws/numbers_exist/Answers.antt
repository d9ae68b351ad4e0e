use Rattle.st_order.proofs.NumberLemmas.{numbers_law}
use Rattle.st_order.proofs.laws.numbers_exist.Goals as goal

pub returns : goal.returns
returns c = numbers_law
