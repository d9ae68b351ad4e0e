-- The lemmas of this crate that others cite.
pub use Rattle.st_report.proofs.LineLemmas.{six_pieces, spaced-push}
