use Rattle.stdraw_core.proofs.RunLemmas.{failed_read, file_found, length_refused, takes_at_most}
use Rattle.st_ids.specs.declared.limits.TheConstants.{MOST_BYTES}
use Rattle.stdraw_core.proofs.top.graph_of_source.Goals as goal

pub graph_from-requires : goal.graph_from-requires
graph_from-requires g c = (c.in-Ok.ensures.reads.taken, c.in-Ok.ensures.reads.ends.2)

pub returns-in-Err-Failed-clause-finds : goal.returns-in-Err-Failed-clause-finds
returns-in-Err-Failed-clause-finds g c = failed_read _ _ _ MOST_BYTES _ (rw c.in-Err-Failed.field-0-is at c.in-Err-Failed.ensures.reads)

pub returns-in-Err-Failed-clause-taken : goal.returns-in-Err-Failed-clause-taken
returns-in-Err-Failed-clause-taken g c = takes_at_most _ _ _ MOST_BYTES _ _ c.in-Err-Failed.ensures.reads

pub returns-in-Err-TooLong-clause-finds : goal.returns-in-Err-TooLong-clause-finds
returns-in-Err-TooLong-clause-finds g c = length_refused _ _ _ _ (rw c.in-Err-TooLong.field-0-is at c.in-Err-TooLong.ensures.reads)

pub returns-in-Err-TooLong-clause-taken : goal.returns-in-Err-TooLong-clause-taken
returns-in-Err-TooLong-clause-taken g c = takes_at_most _ _ _ MOST_BYTES _ _ c.in-Err-TooLong.ensures.reads

pub returns-in-Err-NoMemory-clause-taken : goal.returns-in-Err-NoMemory-clause-taken
returns-in-Err-NoMemory-clause-taken g c = takes_at_most _ _ _ MOST_BYTES _ _ c.in-Err-NoMemory.ensures.reads

pub returns-clause-finds : goal.returns-clause-finds
returns-clause-finds g c = file_found _ _ _ _ c.in-Ok.reader c.in-Ok.ensures.reads c.graph_from.result c.graph_from.ensures.gives

pub returns-clause-taken : goal.returns-clause-taken
returns-clause-taken g c = takes_at_most _ _ _ MOST_BYTES _ _ c.in-Ok.ensures.reads
