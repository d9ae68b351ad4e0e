use Rattle.std.proofs.Common.{ℕ, suc, ◌≡◌, ◌-◌, ◌<◌, ◌≤◌, inl, inr, length, sym, ap, subst, arith, get_or, ◌∙◌}
use Rattle.std.proofs.lemmas.Bool.{cases_eq}
use Rattle.st_sides.specs.Sides.{edge_tail, edge_head}
use Rattle.draw_align.specs.Listed.{path_at}
use Rattle.draw_align.proofs.StepLemmas.{edge_is, size_is, at_there, walk_of, path_joined}
use Rattle.draw_align.proofs.walking.is_path.Goals as goal

pub returns-then-head-tail-clause-no : goal.returns-then-head-tail-clause-no
returns-then-head-tail-clause-no c =
    let g = c.args.sides.now in
    let ps = c.args.paths.now in
    let p = c.args.p in
    let es = c.path_in-path.result.now in
    let V = c.path_in-path.ensures.value in
    let k : ℕ = c.loop-k.k in
    let low : 1 ≤ c.loop-k.k = c.loop-k.invariant.low in
    let size : length c.path_in-path.result.now ≡ length (path_at c.args.paths.now c.args.p) = size_is ps p es V in
    let l : c.loop-k.k < length (path_at c.args.paths.now c.args.p) = omega (arith, c.loop-k-test.true, size) in
    let s : suc (c.loop-k.k - 1) ≡ c.loop-k.k = omega arith in
    λ q P.
    let j = path_joined g (path_at ps p) P (k - 1) (omega arith) in
    let t : c.tail.result.0 ≡ edge_tail g (get_or (path_at ps p) k 0) = c.tail.ensures.value ∙ ap (edge_tail g) (edge_is ps p es V k) in
    let h : c.head.result.0 ≡ edge_head g (get_or (path_at ps p) (k - 1) 0) = c.head.ensures.value ∙ ap (edge_head g) (edge_is ps p es V (k - 1)) in
    let w : edge_tail g (get_or (path_at ps p) k 0) ≡ edge_head g (get_or (path_at ps p) (k - 1) 0) = subst (λ z. edge_tail g (get_or (path_at ps p) z 0) ≡ edge_head g (get_or (path_at ps p) (k - 1) 0)) s j in
    omega (arith, c.if-head-tail.true, t, h, w)

pub loop-k-preserved : goal.loop-k-preserved
loop-k-preserved c =
    let g = c.args.sides.now in
    let ps = c.args.paths.now in
    let p = c.args.p in
    let es = c.path_in-path.result.now in
    let V = c.path_in-path.ensures.value in
    let low : 1 ≤ c.loop-k.k = c.loop-k.invariant.low in
    record {
      low = omega arith;
      joined = λ i l. elim (cases_eq (suc i) c.loop-k.k) [
        | inl q ↦
            let r : c.loop-k.k - 1 ≡ i = omega arith in
            let t : c.tail.result.0 ≡ edge_tail g (get_or (path_at ps p) (suc i) 0) = c.tail.ensures.value ∙ ap (edge_tail g) (edge_is ps p es V c.loop-k.k ∙ ap (λ z. get_or (path_at ps p) z 0) (sym q)) in
            let h : c.head.result.0 ≡ edge_head g (get_or (path_at ps p) i 0) = c.head.ensures.value ∙ ap (edge_head g) (edge_is ps p es V (c.loop-k.k - 1) ∙ ap (λ z. get_or (path_at ps p) z 0) r) in
            omega (arith, c.if-head-tail.false, t, h)
        | inr d ↦ c.loop-k.invariant.joined i (omega arith)
      ];
    }

pub returns-clause-yes : goal.returns-clause-yes
returns-clause-yes c =
    let g = c.args.sides.now in
    let ps = c.args.paths.now in
    let p = c.args.p in
    let size : length c.path_in-path.result.now ≡ length (path_at c.args.paths.now c.args.p) = size_is ps p c.path_in-path.result.now c.path_in-path.ensures.value in
    let low : 1 ≤ c.loop-k.k = c.loop-k.invariant.low in
    λ q. walk_of g (path_at ps p) (omega (arith, c.loop-k-test.false, low, size, c.if-size-eq0.false)) (λ k l. at_there g ps c.requires.edges p c.requires.there k l)
    (λ k l. c.loop-k.invariant.joined k (omega (arith, c.loop-k-test.false, size, l)))
