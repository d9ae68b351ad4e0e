pub mod Heights
pub mod Laws
pub mod Numbers
pub mod Placing
pub mod Polyline
pub mod Tables
pub mod Tracks
