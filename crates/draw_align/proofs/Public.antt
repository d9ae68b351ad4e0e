-- The lemmas of this crate that others cite.
pub use Rattle.draw_align.proofs.FaultLemmas.{fault_law}
pub use Rattle.draw_align.proofs.PictureLemmas.{constrained_law}
pub use Rattle.draw_align.proofs.SameLemmas.{picture_law}
