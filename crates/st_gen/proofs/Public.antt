-- The lemmas of this crate that others cite.
pub use Rattle.st_gen.proofs.MadeLemmas.{one_graph}
