-- The definitions that the tests' helpers cite.
pub mod Held
