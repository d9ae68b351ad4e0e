use Rattle.std.proofs.Common.{◌≡◌, true, false, rules}
use Rattle.eps_core.proofs.Cuts.{lines_more, not_so, misses_none, misses_other}
use Rattle.eps_core.proofs.cutting.match_lines.Goals as goal

pub loop-k-preserved : goal.loop-k-preserved
loop-k-preserved c =
    let t : c.is_line.result ≡ true = search rules in
    lines_more c.args.lines.now c.loop-k.k c.index-lines-k.result c.args.bytes.now c.loop-k.rest.now c.in-Some.found.now c.in-Some.behind.now
    c.loop-k-test.true c.index-lines-k.is c.loop-k.invariant c.in-Some.ensures.ended (c.is_line.ensures.0 t)

pub returns-then-not-is_line-clause-misses : goal.returns-then-not-is_line-clause-misses
returns-then-not-is_line-clause-misses c =
    let f : c.is_line.result ≡ false = search rules in
    misses_other c.args.bytes.now c.loop-k.rest.now c.in-Some.found.now c.in-Some.behind.now c.index-lines-k.result c.args.lines.now c.loop-k.k c.loop-k.invariant
    c.in-Some.ensures.ended c.in-Some.ensures.plain c.loop-k-test.true c.index-lines-k.is (λ e. not_so c.is_line.result f (c.is_line.ensures.1 e))

pub returns-in-None-clause-misses : goal.returns-in-None-clause-misses
returns-in-None-clause-misses c = misses_none c.args.bytes.now c.loop-k.rest.now c.args.lines.now c.loop-k.k c.loop-k.invariant c.in-None.ensures.none
