-- The lemmas of this crate that others cite.
pub use Rattle.draw_vis.proofs.NumberLemmas.{visibility_drawn}
pub use Rattle.draw_vis.proofs.SameLemmas.{pictures_law}
pub use Rattle.draw_vis.proofs.TileLemmas.{tessellation_drawn}
