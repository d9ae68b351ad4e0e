use Rattle.st_number.proofs.NumberLemmas.{numbers_law}
use Rattle.st_number.proofs.laws.numbers.Goals as goal

pub returns : goal.returns
returns c = numbers_law c.args.sides.now c.local.ensures
