-- The lemmas of this crate that others cite.
pub use Rattle.gml_core.proofs.RoundTrip.{reads_again}
pub use Rattle.gml_core.proofs.Unique.{not_both, one_first, one_tree}
