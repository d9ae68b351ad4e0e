mod AlignedLemmas
mod AlignmentLemmas
mod ApartLemmas
mod BuiltLemmas
mod ChoiceLemmas
mod ConstrainedLemmas
mod CrossLemmas
mod FaultLemmas
mod HeightLemmas
mod HomeLemmas
mod PictureLemmas
mod SameLemmas
mod SomeLemmas
mod StepLemmas
pub mod Public
