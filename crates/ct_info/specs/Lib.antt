-- The definitions that contracts cite, in reading order.
pub mod Text
pub mod Info
