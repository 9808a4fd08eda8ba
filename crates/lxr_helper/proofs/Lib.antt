pub mod PocketLemmas
pub mod WordLemmas
pub mod IndexLemmas
pub mod HelperLemmas
pub mod HelperUnitLemmas
pub mod DrainLemmas
