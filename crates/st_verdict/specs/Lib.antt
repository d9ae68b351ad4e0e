pub mod Stages
pub mod Stops
pub mod File
pub mod Verdict
pub mod Every
