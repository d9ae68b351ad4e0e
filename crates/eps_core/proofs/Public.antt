-- The lemmas of this crate that others cite.
pub use Rattle.eps_core.proofs.FirstBad.{one_bad_line}
pub use Rattle.eps_core.proofs.Pictures.{one_text}
