pub mod Faults
pub mod Streams
pub mod Writes
pub mod Memory
pub mod Reading
pub mod Edge
pub mod Sure
