use Rattle.std.proofs.Common.{◌≡◌, ◌+◌, ◌-◌, ◌++◌, length, drop, ap, arith, rules, to_z-of_z}
use Rattle.std.proofs.lemmas.Fmt.{length-decimal-le}
use Rattle.std.proofs.lemmas.List.{drop-set}
use Rattle.std.specs.Fmt.{decimal, signed_decimal}
use Rattle.eps_core.proofs.Spelled.{minus_first, minus_length}
use Rattle.eps_core.proofs.line.spell.Goals as goal

pub write_digits-start-requires : goal.write_digits-start-requires
write_digits-start-requires c = (omega (arith, length-decimal-le 19 c.unsigned_abs.result (omega arith) (omega arith) (omega arith)), search rules)

pub returns-then-n-ge0-clause-some : goal.returns-then-n-ge0-clause-some
returns-then-n-ge0-clause-some c = omega (arith, length-decimal-le 19 c.unsigned_abs.result (omega arith) (omega arith) (omega arith))

pub overflow_sub-bytes : goal.overflow_sub-bytes
overflow_sub-bytes c = omega (arith, length-decimal-le 19 c.unsigned_abs.result (omega arith) (omega arith) (omega arith))

pub overflow_sub-result : goal.overflow_sub-result
overflow_sub-result c = omega (arith, length-decimal-le 19 c.unsigned_abs.result (omega arith) (omega arith) (omega arith))

pub returns-clause-some : goal.returns-clause-some
returns-clause-some c = omega (arith, length-decimal-le 19 c.unsigned_abs.result (omega arith) (omega arith) (omega arith))

pub returns-clause-start : goal.returns-clause-start
returns-clause-start c =
    let w = c.write_digits-start in
    let long = length-decimal-le 19 c.unsigned_abs.result (omega arith) (omega arith) (omega arith) in
    let back = to_z-of_z c.ranges.n in
    let e : length (decimal c.unsigned_abs.result) + 1 ≡ length (signed_decimal c.args.n) =
    rw (c.unsigned_abs.ensures.value, back) (minus_length c.args.n (rw back at c.if-n-ge0.false)) in
    omega (arith, w.ensures.start, long, e)

pub returns-clause-text : goal.returns-clause-text
returns-clause-text c =
    let w = c.write_digits-start in
    let long = length-decimal-le 19 c.unsigned_abs.result (omega arith) (omega arith) (omega arith) in
    let e : w.result - 1 + 1 ≡ w.result = omega arith in
    let back = to_z-of_z c.ranges.n in
    rw (drop-set w.new.buf (w.result - 1) 45 (omega arith), e, w.ensures.written, c.unsigned_abs.ensures.value, back)
    (ap (λ l. l ++ drop 21 c.args.bytes.now) (minus_first c.args.n (rw back at c.if-n-ge0.false)))
