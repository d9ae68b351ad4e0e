use Rattle.std.proofs.Common.{rules, ◌∙◌, w64, pos, ◌-ℤ◌, ◌≤ℤ◌, sym, ap, subst, to_z, of_z}
use Rattle.std.specs.Prelude.{FitsSigned}
use Rattle.std.proofs.lemmas.Int.{to_z-of_z}
use Rattle.st_picture.specs.Bars.{number_at}
use Rattle.draw_poly.specs.Placing.{AreEnds}
use Rattle.draw_poly.specs.Tables.{IsPlace}
use Rattle.draw_poly.proofs.TableLemmas.{Ends, ends_of, left_there, right_there, are_ends, is_place, last_fits}
use Rattle.draw_poly.proofs.places.place.Goals as goal

pub get-lo-requires : goal.get-lo-requires
get-lo-requires g c = left_there c.args.sides.now c.local.ensures c.args.columns.now c.requires.columns c.args.v.0 c.left.result.0 c.requires.there c.left.ensures.value

pub get-requires : goal.get-requires
get-requires g c = right_there c.args.sides.now c.local.ensures c.args.columns.now c.requires.columns c.args.v.0 c.right.result.0 c.requires.there c.right.ensures.value

pub overflow_sub-hi : goal.overflow_sub-hi
overflow_sub-hi g c =
    let E : Ends c.args.sides.now (number_at c.args.columns.now) c.args.v.0 c.get-lo.result.now c.get.result.now = ends_of c.args.sides.now c.local.ensures c.args.columns.now c.requires.columns c.requires.wide c.args.v.0 c.left.result.0 c.right.result.0 c.get-lo.result.now c.get.result.now c.requires.there c.left.ensures.value c.right.ensures.value c.get-lo.ensures.value c.get.ensures.value in
    let fit : FitsSigned w64 c.get.result.now = search rules in
    subst (λ z. FitsSigned w64 (z -ℤ pos 1)) (sym (to_z-of_z w64 c.get.result.now fit)) (last_fits c.args.sides.now (number_at c.args.columns.now) c.args.v.0 c.get-lo.result.now c.get.result.now E)

pub place-requires-clause-ends : goal.place-requires-clause-ends
place-requires-clause-ends g c =
    let lo = c.get-lo.result.now in
    let hi = c.get.result.now in
    let E : Ends c.args.sides.now (number_at c.args.columns.now) c.args.v.0 lo hi = ends_of c.args.sides.now c.local.ensures c.args.columns.now c.requires.columns c.requires.wide c.args.v.0 c.left.result.0 c.right.result.0 lo hi c.requires.there c.left.ensures.value c.right.ensures.value c.get-lo.ensures.value c.get.ensures.value in
    let f : FitsSigned w64 lo = search rules in
    let h : FitsSigned w64 hi = search rules in
    let a = to_z-of_z w64 lo f in
    let b = ap (λ z. to_z w64 (of_z w64 (z -ℤ pos 1))) (to_z-of_z w64 hi h) ∙ to_z-of_z w64 (hi -ℤ pos 1) (last_fits c.args.sides.now (number_at c.args.columns.now) c.args.v.0 lo hi E) in
    subst (λ z. AreEnds z (to_z w64 (of_z w64 (to_z w64 (of_z w64 hi) -ℤ pos 1)))) (sym a) (subst (AreEnds lo) (sym b) (are_ends c.args.sides.now (number_at c.args.columns.now) c.args.v.0 lo hi E))

pub returns : goal.returns
returns g c =
    let lo = c.get-lo.result.now in
    let hi = c.get.result.now in
    let E : Ends c.args.sides.now (number_at c.args.columns.now) c.args.v.0 lo hi = ends_of c.args.sides.now c.local.ensures c.args.columns.now c.requires.columns c.requires.wide c.args.v.0 c.left.result.0 c.right.result.0 lo hi c.requires.there c.left.ensures.value c.right.ensures.value c.get-lo.ensures.value c.get.ensures.value in
    let f : FitsSigned w64 lo = search rules in
    let h : FitsSigned w64 hi = search rules in
    let r : FitsSigned w64 c.place.result = search rules in
    let a = to_z-of_z w64 lo f in
    let b = ap (λ z. to_z w64 (of_z w64 (z -ℤ pos 1))) (to_z-of_z w64 hi h) ∙ to_z-of_z w64 (hi -ℤ pos 1) (last_fits c.args.sides.now (number_at c.args.columns.now) c.args.v.0 lo hi E) in
    subst (IsPlace _ c.args.sides.now (number_at c.args.columns.now) c.args.v.0) (sym (to_z-of_z w64 c.place.result r))
    (is_place _ c.args.sides.now (number_at c.args.columns.now) c.args.v.0 lo hi c.place.result E
    (subst (λ z. goal.G-post g c.args.placer.now.closure z (hi -ℤ pos 1) c.place.result) a (subst (λ z. goal.G-post g c.args.placer.now.closure (to_z w64 (of_z w64 lo)) z c.place.result) b c.place.ensures.answer))
    (subst (λ z. z ≤ℤ c.place.result) a c.place.ensures.from)
    (subst (λ z. c.place.result ≤ℤ z) b c.place.ensures.to))
