-- The definitions that contracts cite, in reading order.
pub mod Seen
pub mod Pass
pub mod Rule
pub mod Turn
