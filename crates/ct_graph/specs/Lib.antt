-- The definitions that contracts cite, in reading order.
pub mod Before
pub mod Cycle
pub mod Order
pub mod ByName
pub mod Found
pub mod Index
pub mod Walk
pub mod Rows
