mod BendLemmas
mod BuildLemmas
mod DirectionLemmas
mod HeightLemmas
mod ItemLemmas
mod LaidLemmas
mod NumberLemmas
mod SameLemmas
mod TableLemmas
mod TrackLemmas
pub mod Public
