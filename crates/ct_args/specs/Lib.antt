-- The definitions that contracts cite, in reading order. The files behind Read are the reader's own.
pub mod Spelling
pub mod Given
pub mod Values
pub mod Fault
pub mod Invocation
pub mod Read
pub mod Seen
pub mod Slots
