-- The lemmas of this crate that others cite.
pub use Rattle.st_words.proofs.OneTask.{one_task_law}
