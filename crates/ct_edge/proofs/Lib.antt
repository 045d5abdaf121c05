pub mod TransferLemmas
pub mod EnvLemmas
pub mod HeardLemmas
pub mod KeepLemmas
pub mod LaunchLemmas
pub mod RequiredLemmas
pub mod TextLemmas
