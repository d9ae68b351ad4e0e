use Rattle.std.proofs.Common.{length, rules}
use Rattle.std.proofs.lemmas.List.Sorted.{IsNonDecreasingBy-from_sort_by_key}
use Rattle.eps_check.specs.Spans.{low_of}
use Rattle.eps_check.proofs.OverlapLemmas.{sorted_from, spanned_sorted}
use Rattle.eps_check.proofs.spans.sorted_spans.Goals as goal

pub returns-clause-has : goal.returns-clause-has
returns-clause-has c = spanned_sorted c.args.items.now (length c.args.items.now) _ _ c.sort_unstable_by_key.ensures.permutation c.in_ok-spans.ensures

pub returns-clause-sorted : goal.returns-clause-sorted
returns-clause-sorted c = sorted_from _ (IsNonDecreasingBy-from_sort_by_key low_of _ c.sort_unstable_by_key.ensures.sorted (λ a r q k. search rules))
