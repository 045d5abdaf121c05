-- The definitions that contracts cite, in reading order.
pub mod Chosen
pub mod Others
pub mod Names
pub mod Matching
pub mod FailedLog
