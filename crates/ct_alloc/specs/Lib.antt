-- The definitions that contracts cite, in reading order.
pub mod Placement
pub mod Free
pub mod Packing
pub mod Spread
pub mod ByKind
pub mod Lent
pub mod NamesInOrder
