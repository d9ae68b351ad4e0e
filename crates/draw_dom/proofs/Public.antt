-- The lemmas of this crate that others cite.
pub use Rattle.draw_dom.proofs.LaidLemmas.{none_there}
pub use Rattle.draw_dom.proofs.PictureLemmas.{pictures_law, same_points}
