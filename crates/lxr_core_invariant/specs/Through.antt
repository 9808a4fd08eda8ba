-- When a pause is wanted and why it comes, what the history has of each thread where all mutators rest, and that an epoch does something.
use Rattle.std.specs.Prelude.{◌≡◌, ◌≢◌, ℕ, ◌+◌, ◌<◌, ◌≤◌, ◌⊎◌, ◌↔◌, ⊤, Option, Some, List, [], ◌∷◌, length, slice_get, take, IsTrue}
use Rattle.lxr_layout.specs.declared.TheConstants.{FREE_BLOCK_COUNT, FREE_BLOCK_CURSOR, PAUSE_WORD}
use Rattle.lxr_layout.specs.declared.Shape.{Shape}
use Rattle.lxr_graph.specs.declared.Op.{Op}
use Rattle.lxr_graph.specs.declared.Op.TheVariants as op
use Rattle.lxr_graph.specs.History.{Call, Item, Pause, Renew, calls_of, replies_of}
use Rattle.lxr_model.specs.Belongs.{calls_since_pause, has_asked, writes_reference}
use Rattle.lxr_model.specs.Kinds.{ends}
use Rattle.lxr_model.specs.Legal.{IsLegalSoFar}
use Rattle.lxr_model.specs.Terms.{Terms}
use Rattle.lxr_core_invariant.specs.ThreadStates.{Reason, ThreadState, Through, all_of}
use Rattle.lxr_core_invariant.specs.ThreadStates as why
use Rattle.lxr_core_invariant.specs.EpochStates.{Beginning, EpochState, limits_of}
use Rattle.lxr_core_invariant.specs.Called.{waiting_in}
use Rattle.lxr_core_invariant.specs.Epoch.{AreResting, IsEpoch}

-- every mutator has done its end
abbrev pub AllEnded : EpochState → Type 0
AllEnded s = (i : ℕ) (v : ThreadState) → slice_get s.thread_states i ≡ Some v → v.stage ≡ Through why.Ended

-- ---- when a pause is wanted

-- it is through with the epoch for another reason than its end: it lacks room, saw that a pause is asked for, or had its turn
abbrev pub IsHeldUp : ThreadState → Type 0
IsHeldUp v = (reason : Reason) × (v.stage ≡ Through reason) × (reason ≢ why.Ended)

-- A pause is wanted: the pause word is set, or some mutator is through for another reason than its end, or all have done their end. So others
-- may rest with nothing to do.
abbrev pub IsPauseWanted : EpochState → Type 0
IsPauseWanted s =
    (s.tables.cursors PAUSE_WORD ≡ 1)
    ⊎ ((i : ℕ) × (v : ThreadState) × (slice_get s.thread_states i ≡ Some v) × IsHeldUp v)
    ⊎ AllEnded s

-- ---- why a pause comes

-- the operation that a mutator's thread does next, by the history
abbrev pub next_by : EpochState → ThreadState → Option Op
next_by s v = slice_get (all_of v.operations) (length (calls_of v.thread s.history))

-- its thread's next operation is a `new`, and no block is left; its next operation is a `store` or a `swap`, and its log is full
abbrev pub LacksBlock : EpochState → ThreadState → Type 0
LacksBlock s v = ((dest : ℕ) × (shape : Shape) × (next_by s v ≡ Some (op.New dest shape))) × (s.tables.cursors FREE_BLOCK_COUNT ≤ s.tables.cursors FREE_BLOCK_CURSOR)

abbrev pub LacksEntry : EpochState → ThreadState → Type 0
LacksEntry s v = IsTrue (writes_reference (next_by s v)) × (v.log.room ≤ length v.log.items)

-- a pause comes because of a mutator: its thread asked for one, or had its turn, or lacks room
abbrev pub CausesPause : Beginning → EpochState → ThreadState → Type 0
CausesPause b s v = IsTrue (has_asked v.thread s.history) ⊎ (b.every ≤ calls_since_pause v.thread s.history) ⊎ LacksBlock s v ⊎ LacksEntry s v

pub record HasCause (b : Beginning) (s : EpochState) : Type 0 where
  pub number : ℕ
  pub thread_state : ThreadState
  pub shows : slice_get s.thread_states number ≡ Some thread_state
  pub thread : (1 ≤ thread_state.thread) × (thread_state.thread ≤ (limits_of b).threads)
  pub causes : CausesPause b s thread_state

-- where a pause is wanted, all have ended, or some mutator is a cause
abbrev pub WantedHasCause : Type 0
WantedHasCause = (b : Beginning) (s : EpochState) → IsEpoch b s → IsPauseWanted s → AllEnded s ⊎ HasCause b s

-- ---- what the history has of each thread

-- its calls are a beginning of its operations and its end; its replies are those that the mutator keeps
pub record IsAsHistory (s : EpochState) (v : ThreadState) : Type 0 where
  pub calls : calls_of v.thread s.history ≡ take (length v.replies) (all_of v.operations)
  pub replies : replies_of v.thread s.history ≡ v.replies

-- at each moment its calls are such a beginning, and where all rest so are its replies
abbrev pub CallsAreBeginnings : Type 0
CallsAreBeginnings = (b : Beginning) (s : EpochState) (i : ℕ) (v : ThreadState) → IsEpoch b s → slice_get s.thread_states i ≡ Some v
    → calls_of v.thread s.history ≡ take (length v.replies + waiting_in v.stage) (all_of v.operations)

abbrev pub RestIsHistory : Type 0
RestIsHistory = (b : Beginning) (s : EpochState) (i : ℕ) (v : ThreadState) → IsEpoch b s → AreResting s → slice_get s.thread_states i ≡ Some v → IsAsHistory s v

-- at each moment as many ends as threads stand in the history exactly where all have ended
abbrev pub EndsAreCounted : Type 0
EndsAreCounted = (b : Beginning) (s : EpochState) (terms : Terms) → IsEpoch b s
    → terms.threads ≡ (limits_of b).threads → IsLegalSoFar terms b.history → (ends s.history ≡ (limits_of b).threads) ↔ AllEnded s

-- ---- progress

-- a history ends with a pause, or has nothing yet
abbrev pub JustPaused : List Item → Type 0
JustPaused [] = ⊤
JustPaused (Renew ns ∷ h) = ⊤
JustPaused (Pause report ∷ h) = ⊤
JustPaused (Call t o r ∷ h) = ⊥

-- some mutator gave up for want of a block
pub record LacksSomeBlock (s : EpochState) : Type 0 where
  pub number : ℕ
  pub thread_state : ThreadState
  pub shows : slice_get s.thread_states number ≡ Some thread_state
  pub lacks : LacksBlock s thread_state

-- An epoch that began right after a pause, and at whose end a pause is wanted, has brought an operation or an end at least, if not all had
-- ended before or some mutator has found no block. A mutator may do an operation between two pauses, and logs have room for an entry.
abbrev pub EpochProgresses : Type 0
EpochProgresses = (b : Beginning) (s : EpochState) → IsEpoch b s → AreResting s → IsPauseWanted s → JustPaused b.history → 1 ≤ b.every → 1 ≤ (limits_of b).log
    → AllEnded s ⊎ LacksSomeBlock s ⊎ (length b.history < length s.history)
