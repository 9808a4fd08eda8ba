-- What every event keeps, and that replies are those of the model.
use Rattle.std.specs.Prelude.{◌≡◌, ◌≢◌, ℕ, ◌+◌, ◌-◌, ◌^◌, ◌<◌, ◌≤◌, ⊤, Option, Some, List, length, slice_get, false, IsTrue}
use Rattle.lxr_layout.specs.Places.{field_word, place_in}
use Rattle.lxr_layout.specs.declared.TheConstants.{FREE_BLOCK_COUNT, FREE_BLOCK_CURSOR, PAUSE_WORD, RUN_CURSOR}
use Rattle.lxr_layout.specs.declared.Name.{Name}
use Rattle.lxr_layout.specs.declared.LogEntry.{LogEntry}
use Rattle.lxr_graph.specs.declared.Op.{Op}
use Rattle.lxr_graph.specs.declared.Reply.{Reply}
use Rattle.lxr_graph.specs.declared.Reply.TheVariants as reply
use Rattle.lxr_graph.specs.State.{next_name}
use Rattle.lxr_graph.specs.Step.{IsReply}
use Rattle.lxr_graph.specs.Names.{IsSetOf, has}
use Rattle.lxr_image.specs.Image.{place_word}
use Rattle.lxr_image.specs.Tables.{Tables}
use Rattle.lxr_model_counting.specs.Following.{FollowsPause, IsLive}
use Rattle.lxr_invariant.specs.Counting.{HasCounts, HasDecrements, is_done}
use Rattle.lxr_invariant.specs.Listed.{FreeBlocksAreListed}
use Rattle.lxr_invariant.specs.Standing.{AreLogged, HasBits}
use Rattle.lxr_invariant.specs.Tracing.{HandledAreGray, IsRememberedSoFar, MarksStayInside, SnapshotIsCovered}
use Rattle.lxr_model.specs.Moments.{Moment, Trace}
use Rattle.lxr_model.specs.Reachable.{Reachable}
use Rattle.lxr_core_access.specs.declared.Access.{Access}
use Rattle.lxr_core_access.specs.Accesses.{done_to}
use Rattle.lxr_core_access.specs.Decrementers.{Decrementing, Rests}
use Rattle.lxr_core_access.specs.Tracers.{Tracing}
use Rattle.lxr_core_invariant.specs.ThreadStates.{ThreadState}
use Rattle.lxr_core_invariant.specs.EpochStates.{Beginning, Extends, EpochState, IsBeginning, limits_of, moment_of, opening_tables}
use Rattle.lxr_core_invariant.specs.Events.{Event, found_reply, value_word}
use Rattle.lxr_core_invariant.specs.Events as event
use Rattle.lxr_core_invariant.specs.Happening.{May, happen, with_cursor}
use Rattle.lxr_core_invariant.specs.Imaged.{HaveRegisters, IsPlacedIn}
use Rattle.lxr_core_invariant.specs.Logged.{AreBitsAndLogs, logs_of}
use Rattle.lxr_core_invariant.specs.Decremented.{DecrementerLeaves, IsSound, LeavesTables, MayDecrement, MayTrace, TracerLeaves, decremented, traced}
use Rattle.lxr_core_invariant.specs.Counted.{AreCounted, AreCountedIn}
use Rattle.lxr_core_invariant.specs.Traced.{AreScannedIn}
use Rattle.lxr_core_invariant.specs.Covered.{SnapshotIsCoveredIn}
use Rattle.lxr_core_invariant.specs.Inside.{MarksStayInsideIn}
use Rattle.lxr_core_invariant.specs.Remembered.{AreRememberedIn}
use Rattle.lxr_core_invariant.specs.Drawn.{AreFixed, IsDrawnMemory}
use Rattle.lxr_core_invariant.specs.Called.{AreCalled}
use Rattle.lxr_core_invariant.specs.Epoch.{AreResting, DecrementersRest, IsEpoch, TracersRest}

-- Every event keeps this, where all parts hold before it.
abbrev pub IsKept : (Beginning → EpochState → Type 0) → Type 0
IsKept P = (b : Beginning) (s : EpochState) (i : ℕ) (v : ThreadState) (e : Event) → IsEpoch b s → slice_get s.thread_states i ≡ Some v → May b s v e → P b (happen b s i v e)

-- Every step of a decrementer keeps this, where all parts hold before it.
abbrev pub DecrementersKeep : (Beginning → EpochState → Type 0) → Type 0
DecrementersKeep P = (b : Beginning) (s : EpochState) (i : ℕ) (access : Access) (after : Decrementing) → IsEpoch b s → MayDecrement b s i access after → P b (decremented s i access after)

-- Every step of a tracer keeps this, where all parts hold before it.
abbrev pub TracersKeep : (Beginning → EpochState → Type 0) → Type 0
TracersKeep P = (b : Beginning) (s : EpochState) (i : ℕ) (access : Access) (after : Tracing) → IsEpoch b s → MayTrace b s i access after → P b (traced s i access after)

-- It reads nothing that helpers change, nor what they are about to do.
abbrev pub IsLeft : (Beginning → EpochState → Type 0) → Type 0
IsLeft P = (b : Beginning) (s : EpochState) (u : Tables) (ds : List Decrementing) (ts : List Tracing) → IsEpoch b s → LeavesTables s.tables u
    → P b (record s { tables = u; decrementers = ds; tracers = ts })

-- the mutator's reply is that of a step of the model
abbrev pub RepliesAs : Beginning → EpochState → ThreadState → Op → Reply → Type 0
RepliesAs b s v o r = IsReply (moment_of b s).state v.thread o r

-- a load or a swap takes the place of what it finds in the model
pub record TakesAs (b : Beginning) (s : EpochState) (v : ThreadState) (o : Op) (place : ℕ) : Type 0 where
  pub found : Option Name
  pub replies : RepliesAs b s v o (found_reply o found)
  pub place_is : place ≡ place_word s.at found

-- what the mutator replies where its operation stands in the history by an event
abbrev pub AnswersAs : Beginning → EpochState → ThreadState → Event → Type 0
AnswersAs b s v (event.DoesAtOnce o r registers) = RepliesAs b s v o r
AnswersAs b s v (event.FindsNone o) = RepliesAs b s v o reply.Range
AnswersAs b s v (event.LoadsReference o dest place index) = TakesAs b s v o (place_in (s.tables.heap (field_word place index))).0
AnswersAs b s v (event.GetsValue o place refs index) = RepliesAs b s v o (reply.Got (s.tables.heap (value_word place refs index)))
AnswersAs b s v (event.PutsValue o place refs index value) = RepliesAs b s v o reply.Put
AnswersAs b s v (event.AddsValue o place refs index value) = RepliesAs b s v o (reply.Added (s.tables.heap (value_word place refs index)))
AnswersAs b s v (event.StoresReference o place index value) = RepliesAs b s v o reply.Stored
AnswersAs b s v (event.SwapsReference o dest place index value) = TakesAs b s v o (place_in (s.tables.heap (field_word place index))).0
AnswersAs b s v (event.MakesObject o dest place shape) = RepliesAs b s v o (reply.New (next_name (moment_of b s).state.graph v.thread))
AnswersAs b s v (event.Asks o r) = RepliesAs b s v o r
AnswersAs b s v _ = ⊤

-- a mutator replies as the model does
abbrev pub RepliesAreSteps : Type 0
RepliesAreSteps = (b : Beginning) (s : EpochState) (i : ℕ) (v : ThreadState) (e : Event) → IsEpoch b s → slice_get s.thread_states i ≡ Some v → May b s v e → AnswersAs b s v e

-- Each part is kept. Objects stay placed where replies are those of the model.
abbrev pub PlacedIsKept : Type 0
PlacedIsKept = RepliesAreSteps → IsKept IsPlacedIn

abbrev pub PlacedIsLeft : Type 0
PlacedIsLeft = IsLeft IsPlacedIn

abbrev pub RegistersAreKept : Type 0
RegistersAreKept = IsKept HaveRegisters

abbrev pub RegistersAreLeft : Type 0
RegistersAreLeft = IsLeft HaveRegisters

abbrev pub BitsAndLogsAreKept : Type 0
BitsAndLogsAreKept = IsKept AreBitsAndLogs

abbrev pub BitsAndLogsAreLeft : Type 0
BitsAndLogsAreLeft = IsLeft AreBitsAndLogs

-- Counts and pending decrements are kept by mutators, by decrementers, whose steps are sound, and by tracers.
abbrev pub CountsAreKept : Type 0
CountsAreKept = IsKept AreCountedIn

abbrev pub DecrementersKeepCounts : Type 0
DecrementersKeepCounts = DecrementersKeep AreCountedIn

abbrev pub TracersKeepCounts : Type 0
TracersKeepCounts = TracersKeep AreCountedIn

abbrev pub DecrementersAreSound : Type 0
DecrementersAreSound = (b : Beginning) (s : EpochState) (i : ℕ) (access : Access) (after : Decrementing) → IsEpoch b s → MayDecrement b s i access after
    → IsSound b s access × DecrementerLeaves s.tables (done_to s.tables access)

-- ---- what tracers know

-- It is kept by all, and tracers' steps are sound.
abbrev pub KnowledgeIsKept : Type 0
KnowledgeIsKept = IsKept AreScannedIn

abbrev pub DecrementersKeepKnowledge : Type 0
DecrementersKeepKnowledge = DecrementersKeep AreScannedIn

abbrev pub TracersKeepKnowledge : Type 0
TracersKeepKnowledge = TracersKeep AreScannedIn

abbrev pub TracersAreSound : Type 0
TracersAreSound = (b : Beginning) (s : EpochState) (i : ℕ) (access : Access) (after : Tracing) → IsEpoch b s → MayTrace b s i access after
    → IsSound b s access × TracerLeaves s.tables (done_to s.tables access)

-- ---- the snapshot is covered, and marks stay inside it

abbrev pub CoverIsKept : Type 0
CoverIsKept = IsKept SnapshotIsCoveredIn

abbrev pub DecrementersKeepCover : Type 0
DecrementersKeepCover = DecrementersKeep SnapshotIsCoveredIn

abbrev pub TracersKeepCover : Type 0
TracersKeepCover = TracersKeep SnapshotIsCoveredIn

abbrev pub InsideIsKept : Type 0
InsideIsKept = IsKept MarksStayInsideIn

-- what decrementers claim is dead, so it is told that counts are kept too
abbrev pub DecrementersKeepInside : Type 0
DecrementersKeepInside = DecrementersKeepCounts → DecrementersKeep MarksStayInsideIn

abbrev pub TracersKeepInside : Type 0
TracersKeepInside = TracersKeep MarksStayInsideIn

-- ---- remembered so far

abbrev pub RememberedIsKept : Type 0
RememberedIsKept = IsKept AreRememberedIn

abbrev pub DecrementersKeepRemembered : Type 0
DecrementersKeepRemembered = DecrementersKeep AreRememberedIn

abbrev pub TracersKeepRemembered : Type 0
TracersKeepRemembered = TracersKeep AreRememberedIn

-- ---- the opening and the close

-- an epoch opens: all helpers are between two units, and the tables are those of its beginning, but for the pause word; the number of pauses has
-- 32 bits
pub record OpensWith (b : Beginning) (s : EpochState) : Type 0 where
  pub begins : IsBeginning b
  pub few_pauses : b.space.pauses < 2 ^ 32
  pub tables : s.tables ≡ with_cursor (opening_tables b) PAUSE_WORD 0
  pub decrementers : DecrementersRest s
  pub tracers : TracersRest s
  pub history : s.history ≡ b.history
  pub at : s.at ≡ b.abstract_state.at

-- then tracers know nothing yet, and what holds of the trace between epochs gives both parts
abbrev pub OpeningKnowledge : Type 0
OpeningKnowledge = (b : Beginning) (s : EpochState) → OpensWith b s → AreScannedIn b s

abbrev pub OpeningCover : Type 0
OpeningCover = (b : Beginning) (s : EpochState) → OpensWith b s → SnapshotIsCoveredIn b s

abbrev pub OpeningInside : Type 0
OpeningInside = (b : Beginning) (s : EpochState) → OpensWith b s → MarksStayInsideIn b s

abbrev pub OpeningRemembered : Type 0
OpeningRemembered = (b : Beginning) (s : EpochState) → OpensWith b s → AreRememberedIn b s

-- all actors are between two units, or through
pub record AllRest (s : EpochState) : Type 0 where
  pub mutators : AreResting s
  pub decrementers : DecrementersRest s
  pub tracers : TracersRest s

-- where all rest, the snapshot is covered as at a safepoint, and what is done has made gray what it referred to
pub record CoversAtSafepoint (t : Tables) (m : Moment) (at : Name → ℕ) (entries : List LogEntry) (trace : Trace) : Type 0 where
  pub covered : SnapshotIsCovered t m at entries trace
  pub handled : HandledAreGray t m at

abbrev pub ClosingCover : Type 0
ClosingCover = (b : Beginning) (s : EpochState) (trace : Trace) → IsEpoch b s → AllRest s → (moment_of b s).trace ≡ Some trace
    → CoversAtSafepoint s.tables (moment_of b s) s.at (logs_of s.thread_states) trace

abbrev pub ClosingInside : Type 0
ClosingInside = (b : Beginning) (s : EpochState) (trace : Trace) → IsEpoch b s → (moment_of b s).trace ≡ Some trace
    → MarksStayInside s.tables (moment_of b s) s.at trace

-- Where all rest, as much is remembered as at a safepoint, where unlogged bits are those of the references that weren't written.
abbrev pub ClosingRemembered : Type 0
ClosingRemembered = (b : Beginning) (s : EpochState) (trace : Trace) (snapshot : List Name) → IsEpoch b s → AllRest s → HasBits s.tables (moment_of b s) s.at (moment_of b s).unreclaimed
    → (moment_of b s).trace ≡ Some trace → IsSetOf snapshot (Reachable trace.state) → IsRememberedSoFar (limits_of b) s.tables (moment_of b s) s.at trace snapshot

-- As an epoch opens, with its pause word clear and all decrementers between two units, nothing is in hand.
abbrev pub OpeningCounts : Type 0
OpeningCounts = (b : Beginning) (ds : List Decrementing) → IsBeginning b → ((i : ℕ) (d : Decrementing) → slice_get ds i ≡ Some d → d ≡ Rests) → length ds < 2 ^ 63
    → AreCounted (limits_of b).blocks (with_cursor (opening_tables b) PAUSE_WORD 0) ds b.abstract_state.moment b.abstract_state.at

-- no live object is done
abbrev pub LiveIsUndone : Type 0
LiveIsUndone = (b : Beginning) (s : EpochState) (n : Name) → IsEpoch b s → IsLive (moment_of b s) n → IsTrue (has (moment_of b s).unreclaimed n) → is_done s.tables s.at n ≡ false

-- Where all decrementers are between two units, counts are those of a safepoint.
pub record HasClosingCounts (b : Beginning) (s : EpochState) : Type 0 where
  pub counts : HasCounts s.tables (moment_of b s) s.at
  pub decrements : HasDecrements (limits_of b) s.tables (moment_of b s) s.at

abbrev pub ClosingCounts : Type 0
ClosingCounts = (b : Beginning) (s : EpochState) → IsEpoch b s → DecrementersRest s → HasClosingCounts b s

-- Where all mutators rest, bits and logs are those of the references that were written since the last pause, each
-- with one entry, so that no log has more entries than there are such references.
pub record HasClosingLogs (b : Beginning) (s : EpochState) : Type 0 where
  pub bits : HasBits s.tables (moment_of b s) s.at (moment_of b s).unreclaimed
  pub logs : AreLogged (moment_of b s) s.at (logs_of s.thread_states)
  pub as_many : length (moment_of b s).written ≡ length (logs_of s.thread_states)
  pub few : (i : ℕ) (v : ThreadState) → slice_get s.thread_states i ≡ Some v → length v.log.items ≤ length (moment_of b s).written

abbrev pub ClosingLogs : Type 0
ClosingLogs = (b : Beginning) (s : EpochState) → IsEpoch b s → AreResting s → HasClosingLogs b s

abbrev pub DrawnMemoryIsKept : Type 0
DrawnMemoryIsKept = IsKept IsDrawnMemory

abbrev pub DrawnMemoryIsLeft : Type 0
DrawnMemoryIsLeft = IsLeft IsDrawnMemory

abbrev pub FixedTablesAreKept : Type 0
FixedTablesAreKept = IsKept AreFixed

abbrev pub FixedTablesAreLeft : Type 0
FixedTablesAreLeft = IsLeft AreFixed

-- What a mutator's event leaves of tables: it changes the heap, unlogged bits, the pause word and the two cursors of what is drawn
-- alone. So whatever helpers work on stays.
pub record LeavesToHelpers (t u : Tables) : Type 0 where
  pub rest : u ≡ record t { heap = u.heap; unlogged = u.unlogged; cursors = u.cursors }
  pub cursors : (c : ℕ) → c ≢ PAUSE_WORD → c ≢ RUN_CURSOR → c ≢ FREE_BLOCK_CURSOR → u.cursors c ≡ t.cursors c

-- each event leaves this
abbrev pub MutatorsLeave : Type 0
MutatorsLeave = (b : Beginning) (s : EpochState) (i : ℕ) (v : ThreadState) (e : Event) → LeavesToHelpers s.tables (happen b s i v e).tables

-- what holds of the history: it goes on by steps of the model, follows the last pause, and is what the mutators show
pub record HasHistory (b : Beginning) (s : EpochState) : Type 0 where
  pub extends : Extends (limits_of b).threads b.every b.history s.history
  pub lives : FollowsPause (moment_of b s)
  pub called : AreCalled b s

abbrev pub HistoryIsKept : Type 0
HistoryIsKept = IsKept HasHistory

abbrev pub HistoryIsLeft : Type 0
HistoryIsLeft = IsLeft HasHistory

-- the cursors by which mutators draw have not come round
abbrev pub CursorsAreFar : Type 0
CursorsAreFar = (b : Beginning) (s : EpochState) → IsEpoch b s → (s.tables.cursors RUN_CURSOR < 2 ^ 63) × (s.tables.cursors FREE_BLOCK_CURSOR < 2 ^ 63)

-- no cursor has fallen from tables t to tables u
abbrev pub HaveNotFallen : Tables → Tables → Type 0
HaveNotFallen t u = (c : ℕ) → t.cursors c ≤ u.cursors c

-- No cursor falls: neither by an event of a mutator nor by a step of a helper.
pub record CursorsDontFall : Type 0 where
  pub mutators : (b : Beginning) (s : EpochState) (i : ℕ) (v : ThreadState) (e : Event) → IsEpoch b s → May b s v e → HaveNotFallen s.tables (happen b s i v e).tables
  pub decrementers : (b : Beginning) (s : EpochState) (i : ℕ) (access : Access) (after : Decrementing) → MayDecrement b s i access after → HaveNotFallen s.tables (decremented s i access after).tables
  pub tracers : (b : Beginning) (s : EpochState) (i : ℕ) (access : Access) (after : Tracing) → MayTrace b s i access after → HaveNotFallen s.tables (traced s i access after).tables

-- Where all free blocks were listed as the epoch opened, all mutators rest and each listed block is drawn, each block that isn't Chosen has
-- an object. So objects are at least as many as these blocks.
abbrev pub AllBlocksAreTaken : Type 0
AllBlocksAreTaken = (b : Beginning) (s : EpochState) → IsEpoch b s → FreeBlocksAreListed b.space → AreResting s → s.tables.cursors FREE_BLOCK_COUNT ≤ s.tables.cursors FREE_BLOCK_CURSOR
    → (limits_of b).blocks - (limits_of b).evacuate ≤ length (moment_of b s).unreclaimed + length (moment_of b s).made

-- all of it
abbrev pub EpochIsKept : Type 0
EpochIsKept = IsKept IsEpoch

abbrev pub DecrementersKeepEpoch : Type 0
DecrementersKeepEpoch = DecrementersKeep IsEpoch

abbrev pub TracersKeepEpoch : Type 0
TracersKeepEpoch = TracersKeep IsEpoch
