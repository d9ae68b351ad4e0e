-- The lemmas of this crate that others cite.
pub use Rattle.st_map.proofs.EndLemmas.{at-head, at-in, at-out, at-tail, at_below, edge_of-below, edge_of-head, edge_of-tail, edge_of-twin, even_or_odd, in_is, is_out-head, is_out-tail, is_out-twin, out_is, twin-apart, twin-below, twin-head, twin-in, twin-out, twin-tail, twin-twin}
pub use Rattle.st_map.proofs.FaceLemmas.{faces_law}
pub use Rattle.st_map.proofs.OrbitLemmas.{before, change, change_between, first_place, iterate-add, iterate-mod, iterate-stays, iterate-step, least-at, least_period, orbit-refl, orbit-short, orbit-stays, orbit-step, orbit-sym, orbit-trans, period, pigeonhole, root-below, root-le, root-root, root-same, same-from_root, some_or_none, steps, turn_apart, turn_covers}
pub use Rattle.st_map.proofs.OrderLemmas.{at_place, count-le_length, lawful_of}
pub use Rattle.st_map.proofs.RotationLemmas.{at-iterate, at-next, at-phi, next-apart, next-at, next-last, next-permutes, phi-permutes, same_vertex}
pub use Rattle.st_map.proofs.SplitLemmas.{split_law, which}
pub use Rattle.st_map.proofs.SumLemmas.{bit_le, bit_positive, count-le, count_less, counted_place, cover, cover-exact, none_counted, once, same_counted, some_counted, total-add, total-le, total-one, total-same}
pub use Rattle.st_map.proofs.TableLemmas.{has_orders}
