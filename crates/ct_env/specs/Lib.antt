-- The definitions that contracts cite, in reading order.
pub mod Assignment
pub mod Operation
pub mod Modification
pub mod PlacementVariables
pub mod Environment
pub mod Variables
