-- The definitions that contracts cite, in reading order.
pub mod Limits
pub mod Outcome
pub mod Condition
pub mod Commands
pub mod Ifs
pub mod Tree
pub mod Says
pub mod Asks
pub mod TreeCalls
pub mod Laws
