pub mod EntryLemmas
pub mod NilLemmas
