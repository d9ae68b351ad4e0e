mod PairLemmas
mod KeyLemmas
mod StepLemmas
mod WrongKinds
