pub mod BitLemmas
pub mod EntryLemmas
pub mod LanesLemmas
pub mod MaskLemmas
pub mod LayoutLemmas
pub mod SharingLemmas
