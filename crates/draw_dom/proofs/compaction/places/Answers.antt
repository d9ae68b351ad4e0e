use Rattle.std.proofs.Common.{◌≡◌, ◌<◌, get_or, length, vec_len, ap, sym, ◌∙◌, arith, rules}
use Rattle.std.proofs.lemmas.List.{get_or_read_under}
use Rattle.draw_dom.specs.Compact.{steps}
use Rattle.draw_dom.proofs.AlongLemmas.{more_items}
use Rattle.draw_dom.proofs.PictureLemmas.{steps_same}
use Rattle.draw_dom.proofs.compaction.places.Goals as goal

pub loop-number-preserved : goal.loop-number-preserved
loop-number-preserved c =
    let numbers = c.args.numbers.now in
    let others = c.args.others.now in
    let v = c.loop-number.number-index in
    let number = get_or numbers v 0 in
    let below : number < length numbers = c.requires.numbering.below v (omega arith) in
    let read =
    get_or_read_under c.in_ok-steps.steps.items number (vec_len c.in_ok-steps.steps) _ 0 c.index.ensures (search rules) c.in_ok-steps.steps.ok.0 in
    let steps_at : get_or c.in_ok-steps.steps.items number 0 ≡ steps (λ i. get_or c.deref.result.now i 0) number =
    c.in_ok-steps.ensures.items number (search rules) in
    record {
      len = search rules;
      items = λ at A u h.
          rw c.in_ok-push.ensures.items
          (more_items (λ w. steps (λ k. get_or others (at k) 0) (get_or numbers w 0)) c.loop-number.found.items v c.index.result.now (search rules)
          (read ∙ steps_at
          ∙ steps_same (λ i. get_or c.deref.result.now i 0) (λ k. get_or others (at k) 0) (length numbers) number
          (λ j l. ap (λ xs. get_or xs j 0) c.deref.ensures.value ∙ sym (ap (λ z. get_or c.in_ok-along.along.items z 0) (A.has j l)) ∙ c.in_ok-along.ensures.items (at j) (A.within j l))
          below)
          (c.loop-number.invariant.items at A) u h);
    }

pub returns : goal.returns
returns c = record {
  size = search rules;
  each = λ at A v l. c.loop-number.invariant.items at A v (search rules);
}
