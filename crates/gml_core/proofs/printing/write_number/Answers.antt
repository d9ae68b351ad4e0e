use Rattle.std.proofs.Common.{◌≡◌, ℕ, ◌+◌, ◌-◌, ℤ, pos, negsuc, true≢false, false, int_le, unsigned_abs, List, [], ◌∷◌, ◌++◌, refl, sym, ap, ◌∙◌, arith, rules, to_z-of_z}
use Rattle.std.specs.Fmt.{decimal, signed_decimal}
use lib.Dec.{leb-zero}
use Rattle.std.proofs.lemmas.Fmt.{length-decimal-le}
use Rattle.std.proofs.lemmas.List.{drop-set}
use Rattle.gml_core.proofs.printing.write_number.Goals as goal

minus_first : (z : ℤ) → int_le (pos 0) z ≡ false → 45 ∷ decimal (unsigned_abs z) ≡ signed_decimal z
minus_first (pos n) e = absurd (true≢false (sym (leb-zero n) ∙ e))
minus_first (negsuc n) e = refl

pub write_digits-start-requires : goal.write_digits-start-requires
write_digits-start-requires c = (omega (arith, length-decimal-le 19 c.unsigned_abs.result (omega arith) (omega arith) (omega arith)), search rules)

pub overflow_sub-line : goal.overflow_sub-line
overflow_sub-line c = omega (arith, length-decimal-le 19 c.unsigned_abs.result (omega arith) (omega arith) (omega arith))

pub overflow_sub-result : goal.overflow_sub-result
overflow_sub-result c = omega (arith, length-decimal-le 19 c.unsigned_abs.result (omega arith) (omega arith) (omega arith))

pub returns-clause-written : goal.returns-clause-written
returns-clause-written c =
    let w = c.write_digits-start in
    let long = length-decimal-le 19 c.unsigned_abs.result (omega arith) (omega arith) (omega arith) in
    let e : w.result - 1 + 1 ≡ w.result = omega arith in
    let back = to_z-of_z c.ranges.n in
    rw (drop-set w.new.buf (w.result - 1) 45 (omega arith), e, w.ensures.written, c.requires, c.unsigned_abs.ensures.value, back)
    (ap (λ (ds : List ℕ). ds ++ 10 ∷ []) (minus_first c.args.n (rw back at c.if-n-ge0.false)))

pub returns-then-n-ge0-clause-behind : goal.returns-then-n-ge0-clause-behind
returns-then-n-ge0-clause-behind c = omega (arith, c.write_digits-start.ensures.start, length-decimal-le 19 c.unsigned_abs.result (omega arith) (omega arith) (omega arith))

pub returns-clause-behind : goal.returns-clause-behind
returns-clause-behind c = omega (arith, c.write_digits-start.ensures.start, length-decimal-le 19 c.unsigned_abs.result (omega arith) (omega arith) (omega arith))
