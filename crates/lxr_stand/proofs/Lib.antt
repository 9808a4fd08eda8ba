pub mod WeighLemmas
pub mod RuleLemmas
pub mod HandLemmas
pub mod KeeperLemmas
pub mod SendLemmas
