mod AlongLemmas
mod BuildLemmas
mod CompactLemmas
mod DirectionLemmas
mod DominanceLemmas
mod DotLemmas
mod LaidLemmas
mod PictureLemmas
mod ReadLemmas
mod SplittingLemmas
mod TrimLemmas
pub mod Public
