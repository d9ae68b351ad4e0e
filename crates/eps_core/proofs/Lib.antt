mod BadLines
mod Bare
mod Cuts
mod Decodes
mod Endings
mod FirstBad
mod Grids
mod Items
mod Names
mod Numbers
mod Pictures
mod Plain
mod Readings
mod Short
mod Sizes
mod Spelled
pub mod Public
