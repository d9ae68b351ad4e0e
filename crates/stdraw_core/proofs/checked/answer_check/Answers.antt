use Rattle.std.proofs.Common.{◌≡◌, ◌≤◌, ap, arith, length}
use Rattle.st_ids.specs.declared.limits.TheConstants.{MOST_DRAWING_BYTES}
use Rattle.stdraw_core.proofs.CheckLemmas.{check_decided, check_failed, check_too_long, checked_for_words}
use Rattle.stdraw_core.proofs.RunLemmas.{takes_at_most}
use Rattle.stdraw_core.proofs.checked.answer_check.Goals as goal

pub answer_text-requires : goal.answer_text-requires
answer_text-requires g c =
    let few : length c.in-Ok.ensures.reads.taken ≤ MOST_DRAWING_BYTES = c.in-Ok.ensures.reads.ends.3 in
    let same : length c.in-Ok.bytes ≡ length c.in-Ok.ensures.reads.taken = ap length c.in-Ok.ensures.reads.ends.2 in
    omega (arith, few, same)

pub returns-in-Err-Failed-clause-decides : goal.returns-in-Err-Failed-clause-decides
returns-in-Err-Failed-clause-decides g c = λ words asked. check_failed _ _ _ words asked _ (rw c.in-Err-Failed.field-0-is at c.in-Err-Failed.ensures.reads)

pub returns-in-Err-TooLong-clause-decides : goal.returns-in-Err-TooLong-clause-decides
returns-in-Err-TooLong-clause-decides g c = λ words asked. check_too_long _ _ _ words asked _ (rw c.in-Err-TooLong.field-0-is at c.in-Err-TooLong.ensures.reads)

pub returns-clause-decides : goal.returns-clause-decides
returns-clause-decides g c = λ words asked. check_decided _ _ _ words asked c.in-Ok.bytes c.in-Ok.ensures.reads c.answer_text.result c.answer_text.ensures

pub returns-clause-never_words : goal.returns-clause-never_words
returns-clause-never_words g c = checked_for_words c.in-Ok.bytes c.answer_text.result c.answer_text.ensures

pub returns-in-Err-Failed-clause-taken : goal.returns-in-Err-Failed-clause-taken
returns-in-Err-Failed-clause-taken g c = takes_at_most _ _ _ MOST_DRAWING_BYTES _ _ c.in-Err-Failed.ensures.reads

pub returns-in-Err-TooLong-clause-taken : goal.returns-in-Err-TooLong-clause-taken
returns-in-Err-TooLong-clause-taken g c = takes_at_most _ _ _ MOST_DRAWING_BYTES _ _ c.in-Err-TooLong.ensures.reads

pub returns-in-Err-NoMemory-clause-taken : goal.returns-in-Err-NoMemory-clause-taken
returns-in-Err-NoMemory-clause-taken g c = takes_at_most _ _ _ MOST_DRAWING_BYTES _ _ c.in-Err-NoMemory.ensures.reads

pub returns-clause-taken : goal.returns-clause-taken
returns-clause-taken g c = takes_at_most _ _ _ MOST_DRAWING_BYTES _ _ c.in-Ok.ensures.reads
