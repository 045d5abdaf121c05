-- The definitions that contracts cite, in reading order.
pub mod Source
pub mod Planned
pub mod Queue
pub mod PlanOf
pub mod Linked
pub mod Whole
