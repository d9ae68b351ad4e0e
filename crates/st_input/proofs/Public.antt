-- The lemmas of this crate that others cite.
pub use Rattle.st_input.proofs.NameLemmas.{number_in, decided_false, other_pos}
pub use Rattle.st_input.proofs.FitLemmas.{or_none, names_push}
pub use Rattle.st_input.proofs.BuildLemmas.{made}
pub use Rattle.st_input.proofs.LawLemmas.{fits_together}
pub use Rattle.st_input.proofs.PathLemmas.{paths_within}
pub use Rattle.st_input.proofs.PlainLemmas.{counted_length, counted_get, counted_differ, ends_within}
pub use Rattle.st_input.proofs.EndsLemmas.{ends_fit}
