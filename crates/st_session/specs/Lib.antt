pub mod Corners
pub mod Editing
pub mod States
pub mod Edits
pub mod Kept
pub mod Replies
pub mod Runs
