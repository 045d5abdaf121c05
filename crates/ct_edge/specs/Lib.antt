pub mod Machine
pub mod Process
pub mod Required
pub mod Heard
pub mod Transfer
