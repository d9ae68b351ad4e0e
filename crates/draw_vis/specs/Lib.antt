pub mod Heights
pub mod Laws
pub mod Rows
pub mod Tables
pub mod Tessellation
pub mod Visibility
