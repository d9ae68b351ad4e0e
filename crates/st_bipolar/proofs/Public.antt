-- The lemmas of this crate that others cite.
pub use Rattle.st_bipolar.proofs.OrientLemmas.{st_from_source}
pub use Rattle.st_bipolar.proofs.RebuildLemmas.{map_map}
pub use Rattle.st_bipolar.proofs.TurnLemmas.{ends_in_h, kept_ends, orders_h, q_in, q_q, turned_ends}
unfoldable pub use Rattle.st_bipolar.proofs.TurnLemmas.{q}
