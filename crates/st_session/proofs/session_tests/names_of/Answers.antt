use Rattle.std.proofs.Common.{◌≡◌, ◌+◌, ◌++◌, ◌∷◌, [], ℤ, List, length, pos, ap, ◌∙◌, FitsSigned, w64, to_z, of_z, rules}
use Rattle.std.proofs.lemmas.Int.{to_z-of_z}
use Rattle.std.proofs.lemmas.List.{length_push}
use Rattle.st_session.proofs.CountedLemmas.{counted_push}
use Rattle.st_session.proofs.session_tests.names_of.Goals as goal

pub loop-i-preserved : goal.loop-i-preserved
loop-i-preserved g c =
    let fit : FitsSigned w64 c.from.result = search rules in
    let is : to_z w64 (of_z w64 c.from.result) ≡ pos (c.args.first + c.loop-i.i) = to_z-of_z w64 c.from.result fit ∙ c.from.ensures in
    let e : c.push.new.self ≡ c.loop-i.names ++ to_z w64 (of_z w64 c.from.result) ∷ [] = c.in-Ok.ensures.ok in (
      ap (λ (l : List ℤ). length l) e ∙ length_push c.loop-i.names (to_z w64 (of_z w64 c.from.result)) ∙ ap (λ z. z + 1) c.loop-i.invariant.0,
      counted_push c.args.first c.loop-i.i c.loop-i.names c.push.new.self (to_z w64 (of_z w64 c.from.result)) c.loop-i.invariant.1 c.loop-i.invariant.0 is e,
    )
