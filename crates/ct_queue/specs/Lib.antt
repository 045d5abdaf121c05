pub mod Ready
pub mod Lines
pub mod Marks
pub mod Spots
pub mod Kept
