pub mod BitLemmas
pub mod ViewLemmas
pub mod UnloggedLemmas
pub mod StorerLemmas
pub mod ScheduleLemmas
pub mod OwnLemmas
pub mod EndLemmas
