pub mod DrainLemmas
pub mod HelpLemmas
pub mod DealingLemmas
pub mod WorkingLemmas
pub mod RoundLemmas
pub mod EpochLemmas
mod GateLemmas
pub mod OpenedLemmas
pub mod StandingLemmas
