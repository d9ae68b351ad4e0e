pub mod Transitive
pub mod Reduced
pub mod Marks
pub mod ReducedSides
pub mod Dummies
