mod LineLemmas
pub mod Public
