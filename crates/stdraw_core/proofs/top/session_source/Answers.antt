use Rattle.st_ids.specs.declared.limits.TheConstants.{MOST_BYTES}
use Rattle.stdraw_core.proofs.RunLemmas.{takes_at_most}
use Rattle.stdraw_core.proofs.SessionSteps.{session_decided, session_failed, session_for_words, session_too_long}
use Rattle.stdraw_core.proofs.top.session_source.Goals as goal

pub answer_session-requires : goal.answer_session-requires
answer_session-requires g c = (c.in-Ok.ensures.reads.taken, c.in-Ok.ensures.reads.ends.2)

pub returns-in-Err-Failed-clause-decides : goal.returns-in-Err-Failed-clause-decides
returns-in-Err-Failed-clause-decides g c = λ words asked. session_failed _ _ _ words asked _ (rw c.in-Err-Failed.field-0-is at c.in-Err-Failed.ensures.reads)

pub returns-in-Err-Failed-clause-taken : goal.returns-in-Err-Failed-clause-taken
returns-in-Err-Failed-clause-taken g c = takes_at_most _ _ _ MOST_BYTES _ _ c.in-Err-Failed.ensures.reads

pub returns-in-Err-TooLong-clause-decides : goal.returns-in-Err-TooLong-clause-decides
returns-in-Err-TooLong-clause-decides g c = λ words asked. session_too_long _ _ _ words asked _ (rw c.in-Err-TooLong.field-0-is at c.in-Err-TooLong.ensures.reads)

pub returns-in-Err-TooLong-clause-taken : goal.returns-in-Err-TooLong-clause-taken
returns-in-Err-TooLong-clause-taken g c = takes_at_most _ _ _ MOST_BYTES _ _ c.in-Err-TooLong.ensures.reads

pub returns-in-Err-NoMemory-clause-taken : goal.returns-in-Err-NoMemory-clause-taken
returns-in-Err-NoMemory-clause-taken g c = takes_at_most _ _ _ MOST_BYTES _ _ c.in-Err-NoMemory.ensures.reads

pub returns-clause-decides : goal.returns-clause-decides
returns-clause-decides g c = λ words asked. session_decided _ _ _ words asked _ c.in-Ok.reader c.in-Ok.ensures.reads c.answer_session.result c.answer_session.ensures

pub returns-clause-never_words : goal.returns-clause-never_words
returns-clause-never_words g c = session_for_words c.in-Ok.ensures.reads.taken c.answer_session.result (c.answer_session.ensures c.in-Ok.ensures.reads.taken c.in-Ok.ensures.reads.ends.2)

pub returns-clause-taken : goal.returns-clause-taken
returns-clause-taken g c = takes_at_most _ _ _ MOST_BYTES _ _ c.in-Ok.ensures.reads
