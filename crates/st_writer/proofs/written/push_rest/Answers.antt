use Rattle.std.proofs.Common.{◌≡◌, ◌++◌, ℕ, ℤ, List, length, slice_get, Option, Some, ap, ◌∙◌, sym, subst}
use Rattle.gml_core.specs.Trees.{listed}
use Rattle.gml_core.specs.Views.{view}
use Rattle.st_ids.specs.EdgeNumbers.{numbers}
use Rattle.st_writer.specs.Written.{rest_pairs}
use Rattle.st_writer.specs.declared.written.Extent.{Extent}
use Rattle.st_writer.proofs.WrittenLemmas.{rest_made, order_depth, order_within}
use Rattle.st_writer.proofs.written.push_rest.Goals as goal

pub order_tree-requires-clause-within : goal.order_tree-requires-clause-within
order_tree-requires-clause-within c =
    order_within c.args.spec.now c.args.v.0 c.items.result.now c.get.result.now c.names-names.result.now.edge c.orders.ensures.listed c.requires.there (ap (λ (l : List ℤ). length l) c.names-names.ensures.edge ∙ c.names-names.ensures.edges) c.items.ensures
    (ap (λ (l : List (List ℕ)). slice_get l c.args.v.0) (sym c.orders.ensures.value) ∙ c.get.ensures.value)

pub push_list-requires-clause-nests : goal.push_list-requires-clause-nests
push_list-requires-clause-nests c = order_depth _ _ (view c.in_ok-order-in-Whole.order) c.in_ok-order-in-Whole.ensures.pairs

pub returns-in_ok-push_list-in-Whole-clause-pairs : goal.returns-in_ok-push_list-in-Whole-clause-pairs
returns-in_ok-push_list-in-Whole-clause-pairs c =
    subst (λ (x : Extent). listed (view c.push_list.new.self) ≡ listed (view c.args.node.now) ++ rest_pairs x c.args.spec.now c.args.v.0) (sym c.in-Whole.is)
    (rest_made c.args.spec.now c.args.v.0 (view c.args.node.now) (view c.push_label.new.node) (view c.push_list.new.self) (view c.in_ok-order-in-Whole.order) c.names-names.result.now.edge c.get-in-Whole.result.now (numbers c.items.result.now)
    c.names-names.ensures.edge
    (ap (λ (l : List (Option (List ℕ))). slice_get l c.args.v.0) (sym c.names-names.ensures.label) ∙ c.get-in-Whole.ensures.value)
    (ap (λ (l : List (List ℕ)). slice_get l c.args.v.0) (sym c.orders.ensures.value) ∙ c.get.ensures.value ∙ ap (λ (l : List ℕ). Some l) (sym c.items.ensures))
    c.in_ok-push_label-in-Whole.ensures.pairs c.in_ok-order-in-Whole.ensures.pairs c.in_ok-push_list-in-Whole.ensures.ok)
