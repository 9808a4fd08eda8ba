pub mod CallLemmas
pub mod BusyLemmas
pub mod KeepLemmas
pub mod StandingLemmas
pub mod EventLemmas
pub mod ThroughLemmas
pub mod EndLemmas
pub mod ProgressLemmas
pub mod LeftLemmas
mod RegisterLemmas
mod AnswerLemmas
mod AtOnceLemmas
mod ObjectLemmas
mod MakingLemmas
pub mod ReplyLemmas
pub mod KeepingLemmas
pub mod RegistersLeftLemmas
