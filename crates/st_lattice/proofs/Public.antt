-- The lemmas of this crate that others cite.
pub use Rattle.st_lattice.proofs.BoundLemmas.{lattice_law}
pub use Rattle.st_lattice.proofs.LeftmostLemmas.{leftmost_law}
