mod BarLemmas
mod ExampleNames
mod FigureLemmas
mod JoinLemmas
mod LabelLemmas
mod NameLemmas
mod NaturalLemmas
mod NeatLemmas
mod PlaceLemmas
mod PushLemmas
mod SegmentLemmas
mod SpanLemmas
mod StandLemmas
mod TableLemmas
pub mod Public
