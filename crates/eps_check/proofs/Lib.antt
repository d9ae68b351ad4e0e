mod BestLemmas
mod CleanLemmas
mod FrontLemmas
mod LodgeLemmas
mod NameLemmas
mod OverlapLemmas
mod PairLemmas
mod PointLemmas
mod ShapeLemmas
mod SpanLemmas
mod StripLemmas
mod SweepLemmas
mod TileLemmas
mod VerdictLemmas
pub mod Public
