use Rattle.std.proofs.Common.{◌≡◌, ◌+◌, ◌<◌, length, refl, sym, subst, arith, get_or}
use Rattle.st_sides.specs.Sides.{edge_count}
use Rattle.draw_align.specs.Listed.{path_at}
use Rattle.draw_align.specs.Steps.{IsNoting, IsStep}
use Rattle.draw_align.proofs.StepLemmas.{noting_start, noting_more, noting_end, edge_is, size_is, is_step, at_there}
use Rattle.draw_align.proofs.steps.note.Goals as goal

pub loop-k-init : goal.loop-k-init
loop-k-init c = noting_start c.args.sides.now c.args.paths.now c.args.p c.args.steps.now c.requires.steps

pub loop-k-preserved : goal.loop-k-preserved
loop-k-preserved c =
    let ps = c.args.paths.now in
    let p = c.args.p in
    let es = c.path_in-path.result.now in
    let V = c.path_in-path.ensures.value in
    let k = c.loop-k.k in
    let size : length c.path_in-path.result.now ≡ length (path_at c.args.paths.now c.args.p) = size_is ps p es V in
    let l : c.loop-k.k < length (path_at c.args.paths.now c.args.p) = omega (arith, c.loop-k-test.true, size) in
    let q = sym (edge_is ps p es V k) in
    subst (IsNoting c.args.sides.now ps p (k + 1)) (sym c.set.ensures)
    (noting_more c.args.sides.now ps p c.loop-k.steps k (record { path = p; next = c.next_edge-next.result }) c.loop-k.invariant (get_or es k (record { 0 = 0 })).0 q
    (subst (λ z. z < edge_count c.args.sides.now) q (at_there c.args.sides.now ps c.requires.edges p c.requires.there k l)) refl
    (subst (λ z. IsStep ps z (record { path = p; next = c.next_edge-next.result })) q (is_step ps p es V k c.next_edge-next.result l c.next_edge-next.ensures.some c.next_edge-next.ensures.none)))

pub returns : goal.returns
returns c = noting_end c.args.sides.now c.args.paths.now c.args.p c.loop-k.steps c.loop-k.k c.loop-k.invariant
    (let size : length c.path_in-path.result.now ≡ length (path_at c.args.paths.now c.args.p) = size_is c.args.paths.now c.args.p c.path_in-path.result.now c.path_in-path.ensures.value in omega (arith, c.loop-k-test.false, size))
