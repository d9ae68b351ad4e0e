mod GraphLemmas
mod ListLemmas
mod WalkLemmas
mod FiniteLemmas
mod PieceLemmas
pub mod Public
