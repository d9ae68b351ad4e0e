use Rattle.st_words.proofs.OneTask.{one_task_law}
use Rattle.st_words.proofs.laws.one_task.Goals as goal

pub returns : goal.returns
returns c = one_task_law
