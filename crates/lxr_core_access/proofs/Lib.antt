pub mod WordLemmas
pub mod AccessLemmas
