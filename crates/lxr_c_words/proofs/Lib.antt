pub mod WholeLemmas
pub mod RowLemmas
pub mod FormLemmas
pub mod ReadLemmas
pub mod AfterLemmas
pub mod WriteLemmas
pub mod MakeLemmas
pub mod PlaceLemmas
