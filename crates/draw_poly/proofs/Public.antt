-- The lemmas of this crate that others cite.
pub use Rattle.draw_poly.proofs.NumberLemmas.{polyline_drawn}
pub use Rattle.draw_poly.proofs.SameLemmas.{one_placed}
