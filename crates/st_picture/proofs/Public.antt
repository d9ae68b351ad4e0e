-- The lemmas of this crate that others cite.
pub use Rattle.st_picture.proofs.BarLemmas.{bars_law, on_level}
pub use Rattle.st_picture.proofs.FigureLemmas.{figures_law, reach_grows, reach_same}
pub use Rattle.st_picture.proofs.JoinLemmas.{bars_same, drawing_same}
pub use Rattle.st_picture.proofs.LabelLemmas.{name_is, place_is}
pub use Rattle.st_picture.proofs.NameLemmas.{has_labels}
pub use Rattle.st_picture.proofs.NaturalLemmas.{Lies, at_bounds, at_same, difference_is, inside, is_at, lies, pos_less, pos_most, pos_same, product_of_differences, segment}
pub use Rattle.st_picture.proofs.NeatLemmas.{EndsAt, IsEndAt, IsNeat, JoinAt, neat_clean}
pub use Rattle.st_picture.proofs.PlaceLemmas.{all_append, all_at, all_each, all_labels, each_same, first_place, fits, labels_same, later_place, line_is, place_cases, vertex_is}
pub use Rattle.st_picture.proofs.PushLemmas.{each_count, edge_name_is}
pub use Rattle.st_picture.proofs.SegmentLemmas.{of_four, of_three, of_two}
pub use Rattle.st_picture.proofs.SpanLemmas.{across_in, in_first, in_second, low_column, low_height, out_first, out_second, poles_differ, right_column, right_in, sink_in, span_in, span_out, wide}
pub use Rattle.st_picture.proofs.StandLemmas.{drawing_stands, figures_stand}
pub use Rattle.st_picture.proofs.TableLemmas.{Has, naturals, number_of}
