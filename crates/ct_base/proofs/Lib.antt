pub mod DecimalLemmas
pub mod EntryLemmas
pub mod HeldLemmas
pub mod KeyLemmas
pub mod NameLemmas
mod NameSetLemmas
pub mod TruthLemmas
pub mod OptionLemmas
pub mod ListLemmas
pub mod PieceLemmas
