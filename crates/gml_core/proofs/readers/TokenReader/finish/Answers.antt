use Rattle.gml_core.proofs.Exact as exact
use Rattle.gml_core.proofs.Faults.{faulty_kinds}
use Rattle.gml_core.proofs.readers.TokenReader.finish.Goals as goal

pub returns-clause-kind : goal.returns-clause-kind
returns-clause-kind c = λ b stands. faulty_kinds b c.cut.result (c.cut.ensures.fault b stands)

pub returns-clause-only_tokens : goal.returns-clause-only_tokens
returns-clause-only_tokens c = λ b stands. exact.only_tokens b c.cut.result (c.cut.ensures.tokens b stands) (c.cut.ensures.fault b stands)

pub returns-clause-only_fault : goal.returns-clause-only_fault
returns-clause-only_fault c = λ b stands. exact.only_faulty b c.cut.result (c.cut.ensures.tokens b stands) (c.cut.ensures.fault b stands)
