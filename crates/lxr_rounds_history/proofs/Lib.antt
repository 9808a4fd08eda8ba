pub mod HistoryLemmas
pub mod ThreadSums
pub mod TallyLemmas
pub mod SightLemmas
pub mod RoomLemmas
pub mod SpaceLemmas
