mod NumberLemmas
pub mod RoundLemmas
mod IndexLemmas
mod MemberLemmas
mod KeptLemmas
mod PartwayLemmas
