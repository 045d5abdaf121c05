-- The definitions that contracts cite, in reading order.
pub mod Description
pub mod GroupsIn
pub mod Read
