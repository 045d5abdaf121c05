-- The definitions that contracts cite, in reading order.
pub mod Values
pub mod Numbered
pub mod Refusal
pub mod PropsOf
pub mod FirstRefused
