-- What the history has of a mutator that rests.
use Rattle.std.proofs.Common.{◌≡◌, refl}
use Rattle.lxr_graph.specs.History.{replies_of}
use Rattle.lxr_core_invariant.specs.ThreadStates.{Stage, ThreadState, Rests, Works, Names, Through}
use Rattle.lxr_core_invariant.specs.EpochStates.{Beginning, EpochState}
use Rattle.lxr_core_invariant.specs.Called.{AreReplies, waiting_in}
use Rattle.lxr_core_invariant.specs.Epoch.{IsResting}

-- no operation of one that rests stands in the history without its reply
pub none_waits : (stage : Stage) → IsResting stage → waiting_in stage ≡ 0
none_waits Rests rests = refl
none_waits (Through why) rests = refl
none_waits (Works intent) rests = absurd rests
none_waits (Names place) rests = absurd rests

-- the replies of one that rests are all there
pub all_replied : (b : Beginning) (s : EpochState) (v : ThreadState) (stage : Stage) → IsResting stage → AreReplies b s v stage → replies_of v.thread s.history ≡ v.replies
all_replied b s v Rests rests are = are
all_replied b s v (Through why) rests are = are
all_replied b s v (Works intent) rests are = absurd rests
all_replied b s v (Names place) rests are = absurd rests
