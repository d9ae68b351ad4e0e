use Rattle.std.proofs.Common.{arith}
use Rattle.gml_core.proofs.Exact as exact
use Rattle.gml_core.proofs.TreeRead.{tree_fed}
use Rattle.gml_core.proofs.readers.TreeReader.finish.Goals as goal

pub returns-clause-only_text : goal.returns-clause-only_text
returns-clause-only_text c = λ b stands. exact.only_text b c.end.result (c.end.ensures.ok b stands) (c.end.ensures.err b stands)

pub returns-clause-only_fault : goal.returns-clause-only_fault
returns-clause-only_fault c = λ b stands. exact.only_fault b c.end.result (c.end.ensures.ok b stands) (c.end.ensures.err b stands)

pub returns-clause-again : goal.returns-clause-again
returns-clause-again c = λ b stands. exact.again b c.end.result (c.end.ensures.ok b stands) (c.end.ensures.err b stands)

pub returns-clause-sound : goal.returns-clause-sound
returns-clause-sound c = exact.sound c.requires.0 c.end.result (omega (arith, tree_fed c.args.self.fault c.args.self c.requires.0 c.requires.1.reads)) (c.end.ensures.ok c.requires.0 c.requires.1)
