pub mod ClearingLemmas
pub mod ReleasingLemmas
pub mod FollowLemmas
pub mod ReleaseBeginLemmas
pub mod SweepLemmas
