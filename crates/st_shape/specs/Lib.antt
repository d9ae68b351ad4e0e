pub mod Boxes
pub mod Clean
pub mod Inside
pub mod Least
pub mod Meeting
pub mod Rules
pub mod Steps
pub mod Verdict
