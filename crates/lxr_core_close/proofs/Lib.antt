pub mod HandingLemmas
pub mod ListLemmas
pub mod StillLemmas
pub mod TraceLemmas
pub mod SafepointLemmas
pub mod CauseLemmas
pub mod ProgressLemmas
