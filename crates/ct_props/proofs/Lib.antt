pub mod LabelLemmas
pub mod PatternLemmas
pub mod RefusalLemmas
pub mod ReasonLemmas
pub mod NumberedLemmas
