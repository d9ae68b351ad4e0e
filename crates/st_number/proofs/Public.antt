-- The lemmas of this crate that others cite.
pub use Rattle.st_number.proofs.BoundLemmas.{bounds_law, to_sides}
pub use Rattle.st_number.proofs.GreatestLemmas.{dual_has_in, greatest_law, heights_law}
pub use Rattle.st_number.proofs.NumberLemmas.{numbers_law}
pub use Rattle.st_number.proofs.PassLemmas.{edge_order, number_at, numbers_size}
