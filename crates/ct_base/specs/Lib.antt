-- The definitions that contracts cite, in reading order.
pub mod Outside
pub mod Bytes
pub mod Path
pub mod Entries
pub mod Seconds
pub mod Memory
pub mod Names
pub mod Numbers
pub mod TypeNames
pub mod NameSets
pub mod Resources
pub mod Found
