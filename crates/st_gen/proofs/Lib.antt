mod ChunkLemmas
mod Ears
mod MadeLemmas
mod PlainLemmas
mod EarLists
mod DefaultOrders
mod FanLemmas
mod BesideLemmas
mod GrowthLemmas
mod AcceptedLemmas
pub mod Public
