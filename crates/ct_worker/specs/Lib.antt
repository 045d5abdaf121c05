-- The definitions that contracts cite, in reading order.
pub mod Gates
pub mod Listener
pub mod Attempt
pub mod Lent
pub mod State
pub mod Halted
pub mod Kept
pub mod Lines
pub mod Work
pub mod Pool
pub mod Crew
