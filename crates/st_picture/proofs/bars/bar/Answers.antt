use Rattle.std.proofs.Common.{rules, ◌-◌, ◌≤◌, pos, w64, FitsSigned, subst, sym, ap, ◌∙◌}
use Rattle.std.proofs.lemmas.Int.{to_z-of_z}
use Rattle.st_picture.specs.Bars.{number_at}
use Rattle.st_picture.proofs.LabelLemmas.{name_is}
use Rattle.st_picture.proofs.TableLemmas.{bar_is, left_at, right_at, right_positive}
use Rattle.st_picture.proofs.bars.bar.Goals as goal

pub number_in-requires-2-clause-there : goal.number_in-requires-2-clause-there
number_in-requires-2-clause-there c = (left_at c.args.sides.now c.local.ensures c.args.columns.now c.requires.columns c.requires.rightward c.args.v.0 c.left.result.0 c.requires.there c.left.ensures.value).there

pub number_in-requires-2-clause-natural : goal.number_in-requires-2-clause-natural
number_in-requires-2-clause-natural c = (left_at c.args.sides.now c.local.ensures c.args.columns.now c.requires.columns c.requires.rightward c.args.v.0 c.left.result.0 c.requires.there c.left.ensures.value).natural

pub number_before-requires-clause-there : goal.number_before-requires-clause-there
number_before-requires-clause-there c = (right_at c.args.sides.now c.local.ensures c.args.columns.now c.requires.columns c.requires.rightward c.args.v.0 c.right.result.0 c.requires.there c.right.ensures.value).there

pub number_before-requires-clause-natural : goal.number_before-requires-clause-natural
number_before-requires-clause-natural c = (right_at c.args.sides.now c.local.ensures c.args.columns.now c.requires.columns c.requires.rightward c.args.v.0 c.right.result.0 c.requires.there c.right.ensures.value).natural

pub number_before-requires-clause-positive : goal.number_before-requires-clause-positive
number_before-requires-clause-positive c = subst (λ z. 1 ≤ number_at c.args.columns.now z) (sym c.right.ensures.value) (right_positive c.args.sides.now c.local.ensures c.args.columns.now c.requires.columns c.requires.rightward c.args.v.0 c.requires.there)

pub returns : goal.returns
returns c =
    let y = number_at c.args.heights.now in
    let x = number_at c.args.columns.now in
    let fit_n : FitsSigned w64 c.get.result.now = search rules in
    let fit_y : FitsSigned w64 c.number_in.result = search rules in
    let fit_l : FitsSigned w64 c.number_in-2.result = search rules in
    let fit_r : FitsSigned w64 c.number_before.result = search rules in
    let n = to_z-of_z w64 c.get.result.now fit_n ∙ sym (name_is c.args.names.now c.args.v.0 c.get.result.now c.get.ensures.value) in
    let h = to_z-of_z w64 c.number_in.result fit_y ∙ c.number_in.ensures in
    let l = to_z-of_z w64 c.number_in-2.result fit_l ∙ c.number_in-2.ensures ∙ ap (λ z. pos (number_at c.args.columns.now z)) c.left.ensures.value in
    let r = to_z-of_z w64 c.number_before.result fit_r ∙ c.number_before.ensures ∙ ap (λ z. pos (number_at c.args.columns.now z - 1)) c.right.ensures.value in
    bar_is n h l r
