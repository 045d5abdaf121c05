pub mod TextLemmas
pub mod Utf8Lemmas
pub mod PlainLemmas
pub mod InfoLemmas
