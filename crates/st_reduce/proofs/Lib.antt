mod RootLemmas
mod ArcLemmas
mod SplitLemmas
mod DecideLemmas
mod DummyLemmas
mod ReducedLemmas
mod TransitiveLemmas
mod MarkLemmas
mod MarkedLemmas
mod StarStepLemmas
mod ReducedSidesLemmas
mod OneLemmas
pub mod Public
