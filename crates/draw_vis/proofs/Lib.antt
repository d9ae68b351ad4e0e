mod BuildLemmas
mod HeightLemmas
mod ItemLemmas
mod LaidLemmas
mod NumberLemmas
mod RowLemmas
mod SameLemmas
mod TileLemmas
pub mod Public
