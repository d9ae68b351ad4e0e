use Rattle.std.proofs.Common.{◌≤◌, length, sym, arith}
use Rattle.std.proofs.lemmas.List.{take_all}
use Rattle.st_parts.proofs.labels.front.Goals as goal

pub returns-then-bytes-lt80 : goal.returns-then-bytes-lt80
returns-then-bytes-lt80 c = let short : length c.args.bytes.now ≤ 80 = omega arith in sym (take_all 80 c.args.bytes.now short)
