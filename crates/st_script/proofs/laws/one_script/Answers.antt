use Rattle.st_script.proofs.AnswerLemmas as answers
use Rattle.st_script.proofs.laws.one_script.Goals as goal

pub returns-clause-some : goal.returns-clause-some
returns-clause-some c = answers.answer

pub returns-clause-script : goal.returns-clause-script
returns-clause-script c = answers.one_script

pub returns-clause-fault : goal.returns-clause-fault
returns-clause-fault c = answers.one_fault

pub returns-clause-apart : goal.returns-clause-apart
returns-clause-apart c = answers.not_both
