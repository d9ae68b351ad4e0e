use Rattle.gml_core.specs.Views.{view}
use Rattle.st_script.proofs.AnswerLemmas as answers
use Rattle.st_script.proofs.reading.read_script.Goals as goal

pub returns-clause-only_script : goal.returns-clause-only_script
returns-clause-only_script c = answers.only_script (view c.args.tree.now) c.scan.result c.scan.ensures.script c.scan.ensures.fault

pub returns-clause-only_fault : goal.returns-clause-only_fault
returns-clause-only_fault c = answers.only_fault (view c.args.tree.now) c.scan.result c.scan.ensures.script c.scan.ensures.fault
