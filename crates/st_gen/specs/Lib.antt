pub mod Made
pub mod Chunks
pub mod Accepted
