use Rattle.std.proofs.Common.{◌≡◌, ◌≤◌, ◌+◌, ◌-◌, ℕ, get_or, ap, sym, ◌∙◌, arith, rules}
use Rattle.draw_dom.specs.Compact.{steps}
use Rattle.draw_dom.proofs.AlongLemmas.{place_next, growth-le, more_items}
use Rattle.draw_dom.proofs.compaction.growing_steps.Goals as goal
use Rattle.draw_dom.proofs.compaction.growing_steps.Goals.{then-k-gt0, else-k-gt0}

pub loop-k-preserved : goal.loop-k-preserved
loop-k-preserved c =
    let f = λ (i : ℕ). get_or c.args.along.now i 0 in
    let k = c.loop-k.k in
    let zero_back : k ≡ 0 → k - 1 ≡ k = omega arith in
    let next : c.if-k-gt0.place ≡ steps f k =
    elim c.if-k-gt0.branch [
      | then-k-gt0 w ↦
          w.place-is ∙ ap (λ n. c.loop-k.place + n) w.growth_of-place.ensures
          ∙ place_next f k c.loop-k.place w.if-k-gt0.true c.loop-k.invariant.place
      | else-k-gt0 w ↦ w.place-is ∙ c.loop-k.invariant.place ∙ ap (steps f) (zero_back (omega arith))
    ] in
    let bound : c.if-k-gt0.place ≤ k =
    elim c.if-k-gt0.branch [
      | then-k-gt0 w ↦ omega (arith, w.place-is, w.growth_of-place.ensures, growth-le (f (k - 1)) (f k), c.loop-k.invariant.bound)
      | else-k-gt0 w ↦ omega (arith, w.place-is, c.loop-k.invariant.bound)
    ] in
    let back : k + 1 - 1 ≡ k = omega arith in
    record {
      len = search rules;
      items = λ j h.
          rw c.in_ok-push.ensures.items
          (more_items (steps f) c.loop-k.places.items k c.if-k-gt0.place (search rules) next c.loop-k.invariant.items j h);
      place = next ∙ ap (steps f) (sym back);
      bound = omega arith;
    }
