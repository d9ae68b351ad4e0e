-- The lemmas of this crate that others cite.
pub use Rattle.st_order.proofs.LabelLemmas.{by_labels}
pub use Rattle.st_order.proofs.NumberLemmas.{Chosen, chosen, numbers_law}
pub use Rattle.st_order.proofs.OrderLemmas.{left_trans, numberings_law, reached, reaching, x_vertices, y_vertices}
pub use Rattle.st_order.proofs.RankLemmas.{rank_grows}
pub use Rattle.st_order.proofs.StackLemmas.{entry, no_items, numbers_end, order_of, ordered_of, side_of, stacked, turned, turned-append}
pub use Rattle.st_order.proofs.TraversalLemmas.{IsOrdered, IsTraversal, number, pass, some, start}
