mod ReadBack
mod ZeroPlaces
mod WrittenBack
mod WrittenLemmas
