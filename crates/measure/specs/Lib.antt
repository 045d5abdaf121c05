-- The definitions that contracts cite.
pub mod Race
pub mod Held
