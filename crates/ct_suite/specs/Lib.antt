-- The definitions that contracts cite, in reading order.
pub mod Count
pub mod Values
pub mod Words
pub mod Tests
pub mod Props
pub mod Entries
pub mod Readers
