-- The lemmas of this crate that others cite.
pub use Rattle.st_sides.proofs.BoundLemmas.{euler_bound_law}
pub use Rattle.st_sides.proofs.BoundaryLemmas.{IsNext, Swept, boundary, closed_reach, grow, start, swept_below, swept_once, swept_zero}
pub use Rattle.st_sides.proofs.ExclusiveLemmas.{across, across_out, bottom_in, fit, from_source, left_below, not_before_after, not_before_left, not_before_right, not_left_from, not_left_right, own, own_walk, to_sink, top_in}
pub use Rattle.st_sides.proofs.FaceRuns.{perm_st, phi-twin}
pub use Rattle.st_sides.proofs.FanLemmas.{Beside, beside_in, beside_out, from_first, order_in, order_in_beside, order_out, order_out_beside, to_last}
pub use Rattle.st_sides.proofs.LawLemmas.{local_law}
pub use Rattle.st_sides.proofs.MeaningLemmas.{meaning_law}
pub use Rattle.st_sides.proofs.NormalLemmas.{order_law}
pub use Rattle.st_sides.proofs.OneValueLemmas.{one_value_law}
pub use Rattle.st_sides.proofs.PlaceLists.{at_in, in_at}
pub use Rattle.st_sides.proofs.ReaderLemmas.{left_within, right_within}
pub use Rattle.st_sides.proofs.SearchLemmas.{search}
pub use Rattle.st_sides.proofs.SweepLemmas.{dual_acyclic, next_face, within}
pub use Rattle.st_sides.proofs.TotalLemmas.{compared, same_object}
