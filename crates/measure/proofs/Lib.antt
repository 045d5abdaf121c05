-- What the functions' proofs rest on.
pub mod HeldLemmas
pub mod RaceLemmas
