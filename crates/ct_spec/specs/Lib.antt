-- The definitions that contracts cite, in reading order.
pub mod Json
pub mod Entry
pub mod Specification
pub mod Ids
pub mod Read
