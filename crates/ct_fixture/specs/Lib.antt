-- The definitions that contracts cite, in reading order.
pub mod Drawing
pub mod Matching
pub mod Kept
