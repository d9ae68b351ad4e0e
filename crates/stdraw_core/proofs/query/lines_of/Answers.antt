use Rattle.std.proofs.Common.{ℤ, ◌+◌, ◌<◌, List, length, get_or, take, drop, pos, sym, subst, arith, rules, zero, w64, FitsSigned, to_z, of_z}
use Rattle.std.proofs.lemmas.Int.{to_z-of_z}
use Rattle.stdraw_core.specs.Query.{IsFirstUnknown, names_of, no_line}
use Rattle.stdraw_core.proofs.QueryLemmas.{AreAnswered, answered_push, stops_first, stops_second, split_at, take_push, unknown_stop}
use Rattle.stdraw_core.proofs.query.lines_of.Goals as goal

pub loop-i-init : goal.loop-i-init
loop-i-init c = record { known = tt; lines = no_line c.new-text.ensures }

pub returns-in_default : goal.returns-in_default
returns-in_default c =
    let there : c.loop-i.i < length c.args.pairs.now = omega arith in
    let fit : FitsSigned w64 (get_or c.args.pairs.now c.loop-i.i (pos zero, pos zero)).0 = search rules in
    unknown_stop c.args.spec.now c.args.points.now c.args.pairs.now _ _ c.unknown.ensures
    (subst (λ (z : List (ℤ × ℤ)). IsFirstUnknown c.args.spec.now (names_of z) (to_z w64 (of_z w64 (get_or c.args.pairs.now c.loop-i.i (pos zero, pos zero)).0))) (sym (split_at c.args.pairs.now c.loop-i.i (pos zero, pos zero) there))
    (stops_first c.args.spec.now (take c.loop-i.i c.args.pairs.now) (drop (c.loop-i.i + 1) c.args.pairs.now) (get_or c.args.pairs.now c.loop-i.i (pos zero, pos zero)) _
    (to_z-of_z w64 (get_or c.args.pairs.now c.loop-i.i (pos zero, pos zero)).0 fit) c.loop-i.invariant.known c.in_default.ensures.vertex))

pub returns-in_default-vertex_of : goal.returns-in_default-vertex_of
returns-in_default-vertex_of c =
    let there : c.loop-i.i < length c.args.pairs.now = omega arith in
    let fit : FitsSigned w64 (get_or c.args.pairs.now c.loop-i.i (pos zero, pos zero)).0 = search rules in
    let fit' : FitsSigned w64 (get_or c.args.pairs.now c.loop-i.i (pos zero, pos zero)).1 = search rules in
    unknown_stop c.args.spec.now c.args.points.now c.args.pairs.now _ _ c.unknown-in_default-vertex_of.ensures
    (subst (λ (z : List (ℤ × ℤ)). IsFirstUnknown c.args.spec.now (names_of z) (to_z w64 (of_z w64 (get_or c.args.pairs.now c.loop-i.i (pos zero, pos zero)).1))) (sym (split_at c.args.pairs.now c.loop-i.i (pos zero, pos zero) there))
    (stops_second c.args.spec.now (take c.loop-i.i c.args.pairs.now) (drop (c.loop-i.i + 1) c.args.pairs.now) (get_or c.args.pairs.now c.loop-i.i (pos zero, pos zero)) _ _
    (to_z-of_z w64 (get_or c.args.pairs.now c.loop-i.i (pos zero, pos zero)).0 fit) (to_z-of_z w64 (get_or c.args.pairs.now c.loop-i.i (pos zero, pos zero)).1 fit')
    c.loop-i.invariant.known (c.in-Some.u.0, c.in-Some.ensures.vertex) c.in_default-vertex_of.ensures.vertex))

pub loop-i-preserved : goal.loop-i-preserved
loop-i-preserved c =
    let there : c.loop-i.i < length c.args.pairs.now = omega arith in
    let fit : FitsSigned w64 (get_or c.args.pairs.now c.loop-i.i (pos zero, pos zero)).0 = search rules in
    let fit' : FitsSigned w64 (get_or c.args.pairs.now c.loop-i.i (pos zero, pos zero)).1 = search rules in
    subst (λ (z : List (ℤ × ℤ)). AreAnswered c.args.spec.now c.args.points.now z c.append_line.new.text) (sym (take_push c.args.pairs.now c.loop-i.i (pos zero, pos zero) there))
    (answered_push c.args.spec.now c.args.points.now (take c.loop-i.i c.args.pairs.now) (get_or c.args.pairs.now c.loop-i.i (pos zero, pos zero)) c.loop-i.text c.append_line.new.text _ _
    c.in-Some.u.0 c.in-Some-vertex_of.v.0 c.reaches_by-reached.result c.get-p.result.now c.get-q.result.now
    c.loop-i.invariant (to_z-of_z w64 (get_or c.args.pairs.now c.loop-i.i (pos zero, pos zero)).0 fit) (to_z-of_z w64 (get_or c.args.pairs.now c.loop-i.i (pos zero, pos zero)).1 fit')
    (record {
      from = c.in-Some.ensures.vertex;
      to = c.in-Some-vertex_of.ensures.vertex;
      at_most = c.reaches_by-reached.ensures;
      decides = c.requires.reaching c.in-Some.u.0 c.in-Some-vertex_of.v.0 c.in-Some.ensures.within c.in-Some-vertex_of.ensures.within;
      first = c.get-p.ensures.value;
      second = c.get-q.ensures.value;
    })
    (search rules))
