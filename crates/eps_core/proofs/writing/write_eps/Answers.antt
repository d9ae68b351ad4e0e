use Rattle.st_port.proofs.Public.{Queues-finish}
use Rattle.eps_core.proofs.writing.write_eps.Goals as goal

pub returns-clause-prefix : goal.returns-clause-prefix
returns-clause-prefix g c =
    let puts = rw c.new-out.ensures at c.in_ok-put_picture.ensures in
    let rest = rw c.finish.ensures.none at c.finish.ensures.queues in
    (Queues-finish _ _ _ _ _ _ _ puts rest).front
