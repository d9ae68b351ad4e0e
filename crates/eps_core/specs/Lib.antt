pub mod Decoding
pub mod Grid
pub mod Meaning
pub mod Reading
pub mod Size
pub mod Text
