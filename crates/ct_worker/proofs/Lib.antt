-- What the functions' proofs rest on.
pub mod ListenerLemmas
pub mod AskLemmas
pub mod GateLemmas
pub mod LentLemmas
pub mod StopLemmas
pub mod LineLemmas
pub mod StateLemmas
pub mod StepLemmas
pub mod EventLemmas
pub mod WorkLemmas
pub mod CrewLemmas
pub mod CrossLemmas
pub mod PartLemmas
pub mod PoolLemmas
pub mod RunLemmas
