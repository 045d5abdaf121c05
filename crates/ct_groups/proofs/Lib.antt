pub mod PieceLemmas
pub mod ReadLemmas
pub mod NeedLemmas
