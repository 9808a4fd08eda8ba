-- The history and what mutators show of it: each has done a beginning of its thread's operations, each once and in order,
-- with the replies that it keeps.
use Rattle.std.specs.Prelude.{◌≡◌, ◌≢◌, ℕ, ◌+◌, ◌<◌, ◌≤◌, ⊤, All, false, Some, [], ◌∷◌, ◌++◌, length, slice_get, take, IsTrue}
use Rattle.lxr_layout.specs.declared.TheConstants.{FREE_BLOCK_COUNT, FREE_BLOCK_CURSOR, MOST_GRANULES, PAUSE_WORD}
use Rattle.lxr_layout.specs.declared.Name.{Name}
use Rattle.lxr_layout.specs.declared.Shape.{Shape}
use Rattle.lxr_alloc.specs.declared.TheConstants.{MOST_OPERATIONS}
use Rattle.lxr_graph.specs.declared.Op.{Op}
use Rattle.lxr_graph.specs.declared.Op.TheVariants as op
use Rattle.lxr_graph.specs.History.{calls_of, replies_of}
use Rattle.lxr_graph.specs.Names.{has}
use Rattle.lxr_graph.specs.Step.{IsWellFormed}
use Rattle.lxr_model.specs.Belongs.{calls_since_pause, has_asked}
use Rattle.lxr_invariant.specs.AbstractState.{members}
use Rattle.lxr_core_invariant.specs.ThreadStates.{Intent, Reason, Stage, ThreadState, all_of, op_now, GivesUp, Rests, Works, Names, Through}
use Rattle.lxr_core_invariant.specs.ThreadStates as why
use Rattle.lxr_core_invariant.specs.EpochStates.{Beginning, EpochState, limits_of, moment_of, objects_before}
use Rattle.lxr_core_invariant.specs.Events.{Does, found_reply, takes_reference}
use Rattle.lxr_core_invariant.specs.Happening.{DoesNew, WritesReference}

-- how many operations stand in the history: each with a reply, and a load or a swap that is yet to tell a name
abbrev pub waiting_in : Stage → ℕ
waiting_in (Names place) = 1
waiting_in _ = 0

-- a member's object stands at a place, and its name is the reply that is yet to come
pub record IsToTell (b : Beginning) (s : EpochState) (v : ThreadState) (place : ℕ) : Type 0 where
  pub name : Name
  pub member : IsTrue (has (members (moment_of b s)) name)
  pub stands : place ≡ s.at name
  pub now : Op
  pub does : Does v now
  pub takes : IsTrue (takes_reference now)
  pub reply : replies_of v.thread s.history ≡ v.replies ++ found_reply now (Some name) ∷ []

abbrev pub AreReplies : Beginning → EpochState → ThreadState → Stage → Type 0
AreReplies b s v (Names place) = IsToTell b s v place
AreReplies b s v _ = replies_of v.thread s.history ≡ v.replies

-- its end, at least, is yet to come
abbrev pub IsUnended : ThreadState → Type 0
IsUnended v = length v.replies ≤ length v.operations

-- why a mutator gives up, or is through
abbrev pub HasReason : EpochState → ThreadState → Reason → Type 0
HasReason s v why.NoRun = ((shape : Shape) × DoesNew v shape) × (s.tables.cursors FREE_BLOCK_COUNT ≤ s.tables.cursors FREE_BLOCK_CURSOR)
HasReason s v why.LogFull = WritesReference v × (v.log.room ≤ length v.log.items)
HasReason s v why.Asked = (s.tables.cursors PAUSE_WORD ≡ 1) × IsUnended v
HasReason s v why.Turns = (v.since ≡ v.every) × IsUnended v
HasReason s v why.Ended = length v.replies ≡ length v.operations + 1

-- who gives up does so for want of room, in the heap or in its log
abbrev pub IsWant : Reason → Type 0
IsWant why.NoRun = ⊤
IsWant why.LogFull = ⊤
IsWant _ = ⊥

-- A mutator is within its turn: before it is through, it has done fewer operations of this epoch than it may, has done fewer
-- than all and its end, and hasn't asked for a pause where it is in the middle of one.
abbrev pub IsWithinTurn : EpochState → ThreadState → Stage → Type 0
IsWithinTurn s v Rests = (v.since < v.every) × (length v.replies ≤ length v.operations)
IsWithinTurn s v (Works (GivesUp reason)) = (v.since < v.every) × (length v.replies ≤ length v.operations) × (has_asked v.thread s.history ≡ false) × IsWant reason × HasReason s v reason
IsWithinTurn s v (Works intent) = (v.since < v.every) × (length v.replies ≤ length v.operations) × (has_asked v.thread s.history ≡ false)
IsWithinTurn s v (Names place) = (v.since < v.every) × (length v.replies < length v.operations) × (has_asked v.thread s.history ≡ false)
IsWithinTurn s v (Through reason) = (v.since ≤ v.every) × (length v.replies ≤ length v.operations + 1) × HasReason s v reason

-- the call of a thread's end isn't counted by `since`; it stands in the epoch, or stood before it
abbrev pub uncounted : Stage → ℕ
uncounted (Through why.Ended) = 1
uncounted _ = 0

pub record HasCalled (b : Beginning) (s : EpochState) (v : ThreadState) : Type 0 where
  pub formed : All IsWellFormed v.operations
  pub endless : All (λ o. o ≢ op.End) v.operations
  pub few : length v.operations ≤ MOST_OPERATIONS
  -- it counts from the objects that its thread began with, of which a heap has no more than granules; so its next name is told by its replies
  pub began : v.before ≡ objects_before v.thread b.history
  pub few_began : v.before ≤ MOST_GRANULES
  pub every : v.every ≡ b.every
  pub calls : calls_of v.thread s.history ≡ take (length v.replies + waiting_in v.stage) (all_of v.operations)
  pub replies : AreReplies b s v v.stage
  -- as the epoch began the thread had had one call at most since the last pause: that of a `new` that was served or refused
  pub before : calls_since_pause v.thread b.history ≤ 1
  -- `since` counts the calls that came after, but for that of the thread's end
  pub counted : v.since + waiting_in v.stage + calls_since_pause v.thread b.history ≤ calls_since_pause v.thread s.history
  pub short : calls_since_pause v.thread s.history ≤ v.since + waiting_in v.stage + calls_since_pause v.thread b.history + uncounted v.stage
  -- who asked for a pause has set the pause word
  pub asked : IsTrue (has_asked v.thread s.history) → s.tables.cursors PAUSE_WORD ≡ 1
  pub within_turn : IsWithinTurn s v v.stage

-- who set the pause word: a thread that asked, or one that gave up
abbrev pub SetsPauseWord : EpochState → ThreadState → Stage → Type 0
SetsPauseWord s v (Through why.NoRun) = ⊤
SetsPauseWord s v (Through why.LogFull) = ⊤
SetsPauseWord s v _ = IsTrue (has_asked v.thread s.history)

pub record AreCalled (b : Beginning) (s : EpochState) : Type 0 where
  pub as_many : length s.thread_states ≡ (limits_of b).threads
  pub threads : (i : ℕ) (v : ThreadState) → slice_get s.thread_states i ≡ Some v → v.thread ≡ i + 1
  pub each : (i : ℕ) (v : ThreadState) → slice_get s.thread_states i ≡ Some v → HasCalled b s v
  pub word : s.tables.cursors PAUSE_WORD ≡ 1 → (i : ℕ) × (v : ThreadState) × (slice_get s.thread_states i ≡ Some v) × SetsPauseWord s v v.stage
