-- The definitions that contracts cite, in reading order.
pub mod Plan
pub mod History
pub mod Verdicts
pub mod Failed
pub mod Endings
pub mod Rules
pub mod Legal
pub mod Parts
pub mod Course
pub mod Places
pub mod Seen
pub mod Audited
