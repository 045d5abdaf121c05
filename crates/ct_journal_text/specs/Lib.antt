-- The definitions that contracts cite, in reading order.
pub mod Journal
pub mod Completed
pub mod Guess
pub mod Checked
pub mod Found
