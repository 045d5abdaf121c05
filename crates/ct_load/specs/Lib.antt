-- The definitions that contracts cite, in reading order.
pub mod Tree
pub mod World
pub mod Run
pub mod Load
