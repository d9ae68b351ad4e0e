-- The lemmas of this crate that others cite.
pub use Rattle.st_verdict.proofs.StageLemmas.{ok, err, same_ok, mixed, one_then, next_says, Found, value_found, told_one, same_bool}
pub use Rattle.st_verdict.proofs.AnswerLemmas.{stop_first, gives_next}
pub use Rattle.st_verdict.proofs.VerdictLemmas.{found, outer_same, item_within}
pub use Rattle.st_verdict.proofs.VerdictOne.{accepted_one, map_one}
pub use Rattle.st_verdict.proofs.FileOne.{few_one, graph_in_one, graph_within_one, consistent, consistent_in, consistent_within}
