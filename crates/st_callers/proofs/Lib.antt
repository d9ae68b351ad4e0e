mod AcceptedLemmas
mod BuiltLemmas
mod OverMemoryLemmas
mod ReachingLemmas
