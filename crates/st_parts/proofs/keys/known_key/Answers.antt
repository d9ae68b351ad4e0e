use Rattle.std.proofs.Common.{arith}
use Rattle.st_parts.proofs.KeyLemmas.{is_source, is_target, is_minlen}
use Rattle.st_parts.proofs.keys.known_key.Goals as goal

pub returns-in-115 : goal.returns-in-115
returns-in-115 c = is_source c.args.bytes.now (omega arith) (omega arith) (omega arith) (omega arith) (omega arith) (omega arith) (omega arith) (omega arith)

pub returns-in-116 : goal.returns-in-116
returns-in-116 c = is_target c.args.bytes.now (omega arith) (omega arith) (omega arith) (omega arith) (omega arith) (omega arith) (omega arith) (omega arith)

pub returns-in-109 : goal.returns-in-109
returns-in-109 c = is_minlen c.args.bytes.now (omega arith) (omega arith) (omega arith) (omega arith) (omega arith) (omega arith) (omega arith) (omega arith)
