-- The definitions that contracts cite, in reading order.
pub mod Times
pub mod Chain
pub mod Links
pub mod Capacity
pub mod Amounts
pub mod Works
pub mod Bounds
pub mod First
pub mod Asked
pub mod Locks
