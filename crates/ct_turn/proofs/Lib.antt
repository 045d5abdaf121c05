-- What the functions' proofs rest on.
pub mod SeatLemmas
pub mod StartLemmas
pub mod GoesLemmas
pub mod KeptLemmas
pub mod PassLemmas
pub mod StepLemmas
pub mod CallerLemmas
