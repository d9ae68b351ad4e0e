pub mod Accepted
pub mod Built
pub mod OverMemory
pub mod ReadBack
pub mod Reaching
pub mod Triangle
