mod StageLemmas
mod AnswerLemmas
mod VerdictLemmas
mod VerdictOne
mod FileOne
mod FileSome
pub mod Public
