-- The definitions that contracts cite, in reading order.
pub mod CostLine
pub mod Text
pub mod After
pub mod Costs
pub mod Kept
pub mod Reading
pub mod Endings
