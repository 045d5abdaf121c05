pub mod VariableLemmas
pub mod FoldLemmas
