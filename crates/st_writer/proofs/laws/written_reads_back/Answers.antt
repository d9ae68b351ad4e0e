use Rattle.st_writer.proofs.WrittenBack.{written_back}
use Rattle.st_writer.proofs.laws.written_reads_back.Goals as goal

pub returns : goal.returns
returns c = written_back
