pub mod PutLemmas
pub mod ListLemmas
pub mod LineLemmas
pub mod LabelLemmas
pub mod TotalLemmas
pub mod RunLineLemmas
