use Rattle.std.proofs.Common.{◌<◌, length, ap, sym, ◌∙◌, subst, arith}
use Rattle.st_ids.specs.Lists.{In}
use Rattle.st_sides.specs.Sides.{left_path, IsInner}
use Rattle.st_ids.specs.EdgeNumbers.{numbers}
use Rattle.st_reduce.specs.Marks.{marked}
use Rattle.st_reduce.proofs.MarkLemmas.{length-marked, marks_none, marks_next, marks_all}
use Rattle.st_reduce.proofs.marks.mark_transitive.Goals as goal

pub loop-f-init : goal.loop-f-init
loop-f-init c = marks_none c.args.sides.now c.local.ensures c.in_ok-marks.marks c.edges.result c.in_ok-marks.ensures c.edges.ensures.value

pub mark-requires : goal.mark-requires
mark-requires c = λ e i.
    subst (λ z. e < z) (sym c.loop-f.invariant.size)
    ((c.local.ensures.left_path_are c.loop-f.f c.loop-f.auto.f (omega (arith, c.loop-f-test.true, c.faces-last.ensures.value))).only e (subst (In e) c.left_path.ensures.value i)).0

pub mark-requires-in-loop-f : goal.mark-requires-in-loop-f
mark-requires-in-loop-f c = λ e i.
    subst (λ z. e < z) (sym (ap (λ z. length z) c.mark.ensures ∙ length-marked c.loop-f.marks (numbers c.left_path.result.now) ∙ c.loop-f.invariant.size))
    ((c.local.ensures.right_path_are c.loop-f.f (omega (arith, c.loop-f-test.true, c.faces-last.ensures.value))).only e (subst (In e) c.right_path.ensures.value i)).0

pub loop-f-preserved : goal.loop-f-preserved
loop-f-preserved c =
    let i : IsInner c.args.sides.now c.loop-f.f = record { not_s = c.loop-f.auto.f; not_t = omega (arith, c.loop-f-test.true, c.faces-last.ensures.value) } in
    marks_next c.args.sides.now c.local.ensures c.loop-f.marks c.mark-in-loop-f.new.marks c.loop-f.f i
    (c.mark-in-loop-f.ensures ∙ ap (λ z. marked z (numbers c.right_path.result.now)) c.mark.ensures
    ∙ ap (λ z. marked (marked c.loop-f.marks z) (numbers c.right_path.result.now)) c.left_path.ensures.value
    ∙ ap (λ z. marked (marked c.loop-f.marks (left_path c.args.sides.now c.loop-f.f)) z) c.right_path.ensures.value)
    c.loop-f.invariant

pub returns : goal.returns
returns c = marks_all c.args.sides.now c.local.ensures c.loop-f.marks c.loop-f.f (omega (arith, c.loop-f-test.false, c.faces-last.ensures.value)) c.loop-f.invariant
