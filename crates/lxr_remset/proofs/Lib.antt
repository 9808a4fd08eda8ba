pub mod SetLemmas
pub mod FieldLemmas
pub mod ChosenLemmas
pub mod OnceLemmas
