use Rattle.std.proofs.Common.{◌∷◌, sym, arith, to_z-of_z}
use Rattle.std.specs.Fmt.{signed_decimal}
use Rattle.eps_core.proofs.Spelled.{word_put}
use Rattle.eps_core.proofs.line.Line.number.Goals as goal

pub returns-clause-text : goal.returns-clause-text
returns-clause-text c =
    let s = c.spell_spaced-start in
    let back = to_z-of_z c.ranges.n in
    let text = rw back at s.ensures.text in
    let start = rw back at s.ensures.start in
    rw (sym c.self.view_is)
    (word_put _ _ s.new.bytes (32 ∷ signed_decimal c.args.n) _ _ c.self.inside.len _ s.result (omega (arith, c.self.invariant)) text (omega (arith, start)) (omega arith) c.copy_from_slice.ensures.after)
