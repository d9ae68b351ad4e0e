use Rattle.std.proofs.Common.{rules, w64, ◌∙◌, ◌<◌, pos, sym, ap, subst, arith, length, slice_index_or, ◌≤ℤ◌}
use Rattle.std.specs.Prelude.{FitsSigned}
use Rattle.std.proofs.lemmas.Int.{to_z-of_z}
use Rattle.st_picture.specs.Bars.{number_at}
use Rattle.draw_align.proofs.crossing.rank.Goals as goal

pub number_in-requires-clause-there : goal.number_in-requires-clause-there
number_in-requires-clause-there c = (let size = c.requires.ranked.columns_are.size in subst (λ z. c.face_left.result.0 < length z) (sym c.items.ensures) (omega arith))

pub number_in-requires-clause-natural : goal.number_in-requires-clause-natural
number_in-requires-clause-natural c = subst (λ z. pos 0 ≤ℤ slice_index_or z c.face_left.result.0 (pos 0)) (sym c.items.ensures) (c.requires.ranked.columns_are.natural c.face_left.result.0 (omega arith))

pub returns : goal.returns
returns c =
    let fit : FitsSigned w64 c.number_in.result = search rules in
    to_z-of_z w64 c.number_in.result fit
    ∙ c.number_in.ensures ∙ ap (λ z. pos (number_at z c.face_left.result.0)) c.items.ensures ∙ ap (λ z. pos (number_at c.args.columns.now z)) c.face_left.ensures.value
