use Rattle.st_port.proofs.BufferLemmas.{queues_through}
use Rattle.st_port.proofs.buffered.Buffered.put.Goals as goal

pub returns-then-piece-gt-ROOM : goal.returns-then-piece-gt-ROOM
returns-then-piece-gt-ROOM g c = queues_through _ _ _ _ _ _ _ _ c.finish.ensures.none c.in_ok-finish.ensures.queues c.write_all.ensures.writes
