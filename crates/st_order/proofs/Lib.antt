mod BranchLemmas
mod LabelLemmas
mod NumberLemmas
mod OrderLemmas
mod RankLemmas
mod StackLemmas
mod TraversalLemmas
pub mod Public
