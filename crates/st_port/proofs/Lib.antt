mod BufferLemmas
mod PieceLemmas
pub mod Public
