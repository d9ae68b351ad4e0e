use Rattle.std.proofs.Common.{◌≡◌, ◌+◌, ◌-◌, ◌≤◌, length, drop, eqb}
use Rattle.std.specs.List.{position_or_len}
use Rattle.eps_core.proofs.cutting.line_len.Given as goal

abbrev pub invariant-loop-n : goal.invariant-loop-n
invariant-loop-n l = (l.n ≤ length l.s) × (l.n + position_or_len (λ b. eqb b 10) (drop l.n l.s) ≡ position_or_len (λ b. eqb b 10) l.s)

abbrev pub decreases-loop-n : goal.decreases-loop-n
decreases-loop-n l = length l.s - l.n
