mod NameLemmas
mod RunLemmas
mod FitLemmas
mod PathLemmas
mod Fills
mod BuildLemmas
mod LawLemmas
mod RepeatLemmas
mod PlainLemmas
mod EndsLemmas
mod WritableLemmas
pub mod Public
