mod BoundLemmas
mod FillLemmas
mod GreatestLemmas
mod LeastLemmas
mod MarkLemmas
mod NumberLemmas
mod PassLemmas
mod SpreadLemmas
pub mod Public
