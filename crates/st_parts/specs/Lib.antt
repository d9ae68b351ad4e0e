pub mod Used
pub mod Keys
pub mod Kinds
pub mod WrongKinds
pub mod Parts
