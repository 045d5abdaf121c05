pub mod TreeLemmas
pub mod SearchLemmas
pub mod SpotLemmas
pub mod BuildLemmas
pub mod HeadLemmas
pub mod BunchLemmas
pub mod ReadyLemmas
pub mod CallerLemmas
