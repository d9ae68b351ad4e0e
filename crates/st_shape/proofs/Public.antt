-- The lemmas of this crate that others cite.
pub use Rattle.st_shape.proofs.BoxLemmas.{grid_from}
pub use Rattle.st_shape.proofs.Climbing.{on_grid_at, one_point}
pub use Rattle.st_shape.proofs.LeastLemmas.{IsFault-clean, IsFault-unique, IsTilingFault-unique}
pub use Rattle.st_shape.proofs.MeetingLemmas.{coordinate_is, mean_is}
pub use Rattle.st_shape.proofs.SearchLemmas.{All-ordinary, FaultyAlone-read, picture_fits, picture_on_grid}
pub use Rattle.st_shape.proofs.Tiling.{NoPair-tiled, Sum-tiled, Tiled-from, fits_at}
