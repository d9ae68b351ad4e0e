use Rattle.std.proofs.Common.{[]}
use Rattle.gml_core.proofs.parsing.parse.Goals as goal

pub finish-requires : goal.finish-requires
finish-requires c = (c.args.bytes.now, c.in_ok-reader.ensures [] c.new.ensures)

pub returns-clause-text : goal.returns-clause-text
returns-clause-text c = c.finish.ensures.text c.args.bytes.now (c.in_ok-reader.ensures [] c.new.ensures)

pub returns-clause-fault : goal.returns-clause-fault
returns-clause-fault c = c.finish.ensures.fault c.args.bytes.now (c.in_ok-reader.ensures [] c.new.ensures)

pub returns-clause-only_text : goal.returns-clause-only_text
returns-clause-only_text c = c.finish.ensures.only_text c.args.bytes.now (c.in_ok-reader.ensures [] c.new.ensures)

pub returns-clause-only_fault : goal.returns-clause-only_fault
returns-clause-only_fault c = c.finish.ensures.only_fault c.args.bytes.now (c.in_ok-reader.ensures [] c.new.ensures)

pub returns-clause-again : goal.returns-clause-again
returns-clause-again c = c.finish.ensures.again c.args.bytes.now (c.in_ok-reader.ensures [] c.new.ensures)
