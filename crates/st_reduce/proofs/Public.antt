-- The lemmas of this crate that others cite.
pub use Rattle.st_reduce.proofs.MarkedLemmas.{length-dummy_numbers}
pub use Rattle.st_reduce.proofs.OneLemmas.{one_reduced_law}
pub use Rattle.st_reduce.proofs.ReducedLemmas.{reduced_law}
pub use Rattle.st_reduce.proofs.ReducedSidesLemmas.{reduced_sides_law}
