-- The definitions that contracts cite, in reading order.
pub mod Report
pub mod PutLines
pub mod RunLines
pub mod Lists
pub mod Labels
pub mod Totals
