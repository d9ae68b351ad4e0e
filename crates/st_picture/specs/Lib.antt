pub mod Bars
pub mod Composed
pub mod Drawn
pub mod Growing
pub mod Items
pub mod Naming
pub mod Order
pub mod Standing
