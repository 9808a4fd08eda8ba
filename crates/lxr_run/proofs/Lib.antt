pub mod InputLemmas
pub mod CaseLemmas
pub mod OutcomeLemmas
