pub mod Labels
pub mod Laws
pub mod Numbers
pub mod Orders
