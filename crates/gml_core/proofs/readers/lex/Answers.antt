use Rattle.std.proofs.Common.{[]}
use Rattle.gml_core.proofs.readers.lex.Goals as goal

pub finish-requires : goal.finish-requires
finish-requires c = (c.args.bytes.now, c.in_ok-reader.ensures [] c.new.ensures)

pub returns-clause-fault : goal.returns-clause-fault
returns-clause-fault c = c.finish.ensures.fault c.args.bytes.now (c.in_ok-reader.ensures [] c.new.ensures)

pub returns-clause-kind : goal.returns-clause-kind
returns-clause-kind c = c.finish.ensures.kind c.args.bytes.now (c.in_ok-reader.ensures [] c.new.ensures)

pub returns-clause-only_tokens : goal.returns-clause-only_tokens
returns-clause-only_tokens c = c.finish.ensures.only_tokens c.args.bytes.now (c.in_ok-reader.ensures [] c.new.ensures)

pub returns-clause-only_fault : goal.returns-clause-only_fault
returns-clause-only_fault c = c.finish.ensures.only_fault c.args.bytes.now (c.in_ok-reader.ensures [] c.new.ensures)
