mod CopyLemmas
pub mod GateLemmas
