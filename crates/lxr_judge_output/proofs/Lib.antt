pub mod FieldLemmas
pub mod FormLemmas
pub mod PrintedLemmas
pub mod LeadingLemmas
pub mod ReadingLemmas
