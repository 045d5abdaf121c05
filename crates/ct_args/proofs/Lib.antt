pub mod BoundLemmas
pub mod CutLemmas
pub mod EntryLemmas
pub mod LoopLemmas
pub mod ReadingLemmas
