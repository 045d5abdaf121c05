-- The definitions that contracts cite, in reading order.
pub mod Waits
pub mod Reasons
pub mod Reading
pub mod Story
pub mod Texts
pub mod Report
pub mod Escaped
pub mod Scale
pub mod Bars
pub mod Picture
pub mod Words
pub mod Found
pub mod Explain
pub mod Steps
