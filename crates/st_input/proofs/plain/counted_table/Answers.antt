use Rattle.std.proofs.Common.{◌≡◌, ◌+◌, ℤ, List, length, pos, ap, ◌∙◌, FitsSigned, w64, to_z, of_z, rules}
use Rattle.std.proofs.lemmas.Int.{to_z-of_z}
use Rattle.st_input.specs.Plain.{counted}
use Rattle.st_input.proofs.PlainLemmas.{counted_pushed, counted_length}
use Rattle.st_input.proofs.plain.counted_table.Goals as goal

pub loop-v-preserved : goal.loop-v-preserved
loop-v-preserved c =
    let fit : FitsSigned w64 c.from.result = search rules in
    let name : to_z w64 (of_z w64 c.from.result) ≡ pos (c.loop-v.v + 1) = to_z-of_z w64 c.from.result fit ∙ c.from.ensures in
    let names : c.push.new.self ≡ counted (c.loop-v.v + 1) = counted_pushed c.loop-v.v (to_z w64 (of_z w64 c.from.result)) c.loop-v.names c.push.new.self c.loop-v.invariant.0 name c.in_ok-push.ensures.ok in
    (names, ap (λ (l : List ℤ). length l) names ∙ counted_length (c.loop-v.v + 1))
