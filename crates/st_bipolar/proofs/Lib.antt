mod AboveLemmas
mod OrderedLemmas
mod PlacedLemmas
mod CutLemmas
mod VisitedLemmas
mod SearchLemmas
mod TableLemmas
mod GoingLemmas
mod PlaceLemmas
mod LinkLemmas
mod FaultLemmas
mod NamingLemmas
mod RootLemmas
mod TurnLemmas
mod OrientLemmas
mod RebuildLemmas
mod KeptLemmas
pub mod Public
