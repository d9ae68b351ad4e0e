mod WordLemmas
mod OneTask
pub mod Public
