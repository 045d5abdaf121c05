pub mod TestLemmas
pub mod WalkLemmas
pub mod NameLemmas
pub mod FoundLemmas
pub mod IndexLemmas
pub mod RowLemmas
pub mod OrderLemmas
