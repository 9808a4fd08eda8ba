pub mod CallLemmas
pub mod PlayLemmas
pub mod RoomLemmas
pub mod EndLemmas
