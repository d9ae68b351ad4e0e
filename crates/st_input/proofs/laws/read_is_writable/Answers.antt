use Rattle.st_input.proofs.WritableLemmas.{read_writable}
use Rattle.st_input.proofs.laws.read_is_writable.Goals as goal

pub returns : goal.returns
returns c = read_writable
