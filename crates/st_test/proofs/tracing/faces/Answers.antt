use Rattle.std.proofs.Common.{◌≡◌, ℕ, ◌+◌, ◌-◌, ◌^◌, ◌<◌, List, get_or, sym, ◌∙◌, subst, arith}
use Rattle.std.proofs.lemmas.List.{get_or_default}
use Rattle.st_map.specs.Embedded.{Embedded, darts}
use Rattle.st_map.specs.Laws.{FacesAre}
use Rattle.st_map.proofs.Public.{count-le, faces_law}
use Rattle.st_test.specs.FaceNumbers.{AreFaces, FaceNumbers, is_least}
use Rattle.st_test.specs.Tracing.{AreTracedBelow}
use Rattle.st_test.proofs.TracingLemmas.{traced_more, traced_same, traced_all}
use Rattle.st_test.proofs.tracing.faces.Goals as goal
use Rattle.st_test.proofs.tracing.faces.Goals.{then-get, else-get}

moved : (g : Embedded) (mark d n m : ℕ) (xs ys : List ℕ) → xs ≡ ys → n ≡ m → AreTracedBelow g mark d ys m → AreTracedBelow g mark d xs n
moved g mark d n m xs ys p q h = subst (λ z. AreTracedBelow g mark d xs z) (sym q) (subst (λ z. AreTracedBelow g mark d z m) (sym p) h)

pub trace-requires-clause-permutes : goal.trace-requires-clause-permutes
trace-requires-clause-permutes c = (faces_law c.args.map.now.graph c.edges-ends.ensures.rotation).permutes

pub overflow_add-count : goal.overflow_add-count
overflow_add-count c =
    omega (arith, c.loop-d.invariant.so_far, count-le c.loop-d.d (is_least c.args.map.now.graph), c.edges-ends.ensures.value, c.edges-ends.ensures.few, c.loop-d-test.true)

pub loop-d-preserved : goal.loop-d-preserved
loop-d-preserved c =
    let g : Embedded = c.args.map.now.graph in
    let are : FacesAre c.args.map.now.graph = faces_law c.args.map.now.graph c.edges-ends.ensures.rotation in
    let there : c.loop-d.d < darts c.args.map.now.graph = omega (arith, c.edges-ends.ensures.value, c.loop-d-test.true) in
    let read : c.get.result.now ≡ get_or c.loop-d.orbit c.loop-d.d 0 =
    c.get.ensures.read ∙ get_or_default c.loop-d.orbit c.loop-d.d c.get.result.now 0 (omega (arith, c.loop-d.invariant.size)) in
    elim c.if-get.branch [
      | then-get w ↦
          moved g (2 ^ 32 - 1) (c.loop-d.d + 1) c.if-get.count (c.loop-d.count + 1) c.if-get.orbit w.trace.new.orbit w.orbit-is w.count-is
          (traced_more g are (2 ^ 32 - 1) c.loop-d.d c.loop-d.count c.loop-d.orbit w.trace.new.orbit (omega (arith, c.edges-ends.ensures.few)) there
          c.loop-d.invariant (sym read ∙ w.if-get.true) w.trace.ensures)
      | else-get w ↦
          moved g (2 ^ 32 - 1) (c.loop-d.d + 1) c.if-get.count c.loop-d.count c.if-get.orbit c.loop-d.orbit w.orbit-is w.count-is
          (traced_same g are (2 ^ 32 - 1) c.loop-d.d c.loop-d.count c.loop-d.orbit there c.loop-d.invariant (λ e. w.if-get.false (read ∙ e)))
    ]

pub returns : goal.returns
returns c =
    let e : c.loop-d.d ≡ darts c.args.map.now.graph = omega (arith, c.edges-ends.ensures.value, c.loop-d-test.false, c.loop-d.auto.d-end) in
    subst (λ (z : FaceNumbers). AreFaces c.args.map.now.graph z) (sym c.of.ensures)
    (traced_all c.args.map.now.graph (faces_law c.args.map.now.graph c.edges-ends.ensures.rotation) (2 ^ 32 - 1) c.loop-d.count c.loop-d.orbit
    (subst (λ d. AreTracedBelow c.args.map.now.graph (2 ^ 32 - 1) d c.loop-d.orbit c.loop-d.count) e c.loop-d.invariant))
