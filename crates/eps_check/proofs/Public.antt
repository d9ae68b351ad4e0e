-- The lemmas of this crate that others cite.
pub use Rattle.eps_check.proofs.VerdictLemmas.{one_verdict}
