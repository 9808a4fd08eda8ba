-- Why a pause comes at the end of an epoch, and that an epoch has done something.
use Rattle.std.specs.Prelude.{◌≡◌, ℕ, ◌<◌, ◌≤◌, ◌⊎◌, false, Some, List, length, map, slice_get}
use Rattle.lxr_model.specs.Belongs.{Script, has_asked}
use Rattle.lxr_model.specs.Belongs.{HasCause as ScriptHasCause}
use Rattle.lxr_model.specs.Legal.{IsLegalSoFar}
use Rattle.lxr_model.specs.Terms.{Terms}
use Rattle.lxr_invariant.specs.Listed.{FreeBlocksAreListed}
use Rattle.lxr_core_invariant.specs.ThreadStates.{ThreadState, Through}
use Rattle.lxr_core_invariant.specs.ThreadStates as why
use Rattle.lxr_core_invariant.specs.EpochStates.{Beginning, EpochState, limits_of}
use Rattle.lxr_core_invariant.specs.Epoch.{AreResting, IsEpoch}
use Rattle.lxr_core_invariant.specs.Laws.{AllBlocksAreTaken, HasClosingLogs}
use Rattle.lxr_core_invariant.specs.Through.{AllEnded, EndsAreCounted, IsPauseWanted, WantedHasCause}

-- these terms are those of the epoch
pub record AreTermsOf (b : Beginning) (terms : Terms) : Type 0 where
  pub threads : terms.threads ≡ (limits_of b).threads
  pub blocks : terms.blocks ≡ (limits_of b).blocks
  pub evacuate : terms.evacuate ≡ (limits_of b).evacuate
  pub log : terms.log ≡ (limits_of b).log
  pub every : terms.every ≡ b.every

-- the operations of each thread
abbrev pub script_in : List ThreadState → Script
script_in thread_states = map (λ v. v.operations) thread_states

-- Where all free blocks were listed as the epoch opened, all mutators rest and a pause is wanted, the pause that comes has a cause.
abbrev pub EpochHasCause : Type 0
EpochHasCause = (b : Beginning) (s : EpochState) (terms : Terms) → IsEpoch b s → FreeBlocksAreListed b.space → AreResting s → IsPauseWanted s → HasClosingLogs b s → AreTermsOf b terms → IsLegalSoFar terms b.history
    → ScriptHasCause terms (script_in s.thread_states) s.history

-- it follows from why a pause is wanted, from how ends are counted, and from what stands in blocks
abbrev pub CauseFollows : Type 0
CauseFollows = WantedHasCause → EndsAreCounted → AllBlocksAreTaken → EpochHasCause

-- a mutator gave up for want of lines
pub record LacksLines (s : EpochState) : Type 0 where
  pub number : ℕ
  pub thread_state : ThreadState
  pub shows : slice_get s.thread_states number ≡ Some thread_state
  pub stage : thread_state.stage ≡ Through why.NoRun

-- Where a pause is wanted and nobody had asked for one before the epoch, an operation or an end stands in the history that didn't, or a
-- mutator lacks lines, or all have ended.
abbrev pub EpochHasProgress : Type 0
EpochHasProgress = (b : Beginning) (s : EpochState) → IsEpoch b s → IsPauseWanted s → HasClosingLogs b s → ((t : ℕ) → has_asked t b.history ≡ false) → 1 ≤ b.every
    → (length b.history < length s.history) ⊎ LacksLines s ⊎ AllEnded s
