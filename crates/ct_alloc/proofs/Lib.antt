pub mod PackLemmas
pub mod BoundLemmas
pub mod TwinLemmas
pub mod RoomLemmas
pub mod PickLemmas
pub mod SpreadLemmas
pub mod ByKindLemmas
pub mod PlaceLemmas
