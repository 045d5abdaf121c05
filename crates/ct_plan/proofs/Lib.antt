pub mod CallerLemmas
mod NumberLemmas
mod LinkLemmas
mod RankLemmas
mod SoundLemmas
mod UrgencyLemmas
mod QueueLemmas
mod PlanLemmas
pub mod WholeLemmas
pub mod TreeStandingLemmas
pub mod PlannedTreeLemmas
