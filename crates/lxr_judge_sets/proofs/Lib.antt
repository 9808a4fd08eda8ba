mod ByNameLemmas
mod NameSetLemmas
mod LeadingLemmas
mod TallyLemmas
mod DyingLemmas
