use Rattle.std.proofs.Common.{ℕ, ◌≡◌, ◌<◌, inl, inr, length, sym, ap, subst, arith, get_or, ◌∙◌}
use Rattle.std.proofs.lemmas.Bool.{cases_eq}
use Rattle.st_sides.proofs.Public.{at_in}
use Rattle.draw_align.specs.Listed.{path_at, IsShared}
use Rattle.draw_align.proofs.StepLemmas.{edge_is, size_is, some_case, none_case, told_shared, shared_told}
use Rattle.draw_align.proofs.steps.first_shared.Goals as goal

pub returns-then-is_some-clause-some : goal.returns-then-is_some-clause-some
returns-then-is_some-clause-some c =
    let ps = c.args.paths.now in
    let p = c.args.p in
    let es = c.path_in-path.result.now in
    let V = c.path_in-path.ensures.value in
    let k = c.loop-k.k in
    let size : length c.path_in-path.result.now ≡ length (path_at c.args.paths.now c.args.p) = size_is ps p es V in
    let s = some_case c.step_of-found.result (sym c.is_some.ensures ∙ c.if-is_some.true) in
    record {
      place = k;
      there = omega (arith, c.loop-k-test.true, size);
      is = sym (edge_is ps p es V k);
      shared = told_shared c.args.sides.now ps p c.args.steps.now c.requires.steps (get_or es k (record { 0 = 0 })).0 s.0 (sym c.step_of-found.ensures ∙ s.1);
      none = c.loop-k.invariant;
    }

pub loop-k-preserved : goal.loop-k-preserved
loop-k-preserved c =
    let ps = c.args.paths.now in
    let p = c.args.p in
    let es = c.path_in-path.result.now in
    let V = c.path_in-path.ensures.value in
    let k = c.loop-k.k in
    λ i l. elim (cases_eq i k) [
      | inl q ↦ subst (λ z. IsShared ps p z → ⊥) (edge_is ps p es V k ∙ ap (λ z. get_or (path_at ps p) z 0) (sym q))
          (shared_told c.args.sides.now ps p c.args.steps.now c.requires.steps (get_or es k (record { 0 = 0 })).0 (sym c.step_of-found.ensures ∙ none_case c.step_of-found.result (sym c.is_some.ensures ∙ c.if-is_some.false)))
      | inr d ↦ c.loop-k.invariant i (omega arith)
    ]

pub returns-clause-none : goal.returns-clause-none
returns-clause-none c =
    let ps = c.args.paths.now in
    let p = c.args.p in
    let size : length c.path_in-path.result.now ≡ length (path_at c.args.paths.now c.args.p) = size_is ps p c.path_in-path.result.now c.path_in-path.ensures.value in
    λ q e i h.
    let at : (j : ℕ) × (j < length (path_at c.args.paths.now c.args.p)) × (get_or (path_at c.args.paths.now c.args.p) j 0 ≡ e) = at_in i in
    let l : at.0 < length (path_at c.args.paths.now c.args.p) = at.1 in
    c.loop-k.invariant at.0 (omega (arith, c.loop-k-test.false, size, l)) (subst (λ z. IsShared ps p z) (sym at.2) h)
