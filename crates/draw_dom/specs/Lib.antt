pub mod Compact
pub mod Dominance
pub mod Laws
pub mod Pictures
pub mod Points
pub mod Shown
pub mod Splitting
