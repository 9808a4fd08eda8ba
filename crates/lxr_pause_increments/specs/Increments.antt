-- What holds while counts are raised one after another and objects are promoted.
use Rattle.std.specs.Prelude.{◌≡◌, ◌≢◌, ℕ, ◌+◌, ◌-◌, ◌*◌, ◌/◌, ◌<◌, ◌≤◌, ◌⊎◌, ◌↔◌, ◌==◌, ◌&&◌, not, Bool, false, Some, List, [], ◌∷◌, ◌++◌, IsTrue, length, map, min, reverse, slice_get, if◌then◌else◌}
use Rattle.lxr_layout.specs.declared.Name.{Name}
use Rattle.lxr_layout.specs.declared.TheConstants.{DECREMENT_COUNT, DECREMENT_CURSOR, GRANULES_IN_BLOCK, REGISTERS, REMEMBERED_CURSOR, STUCK, WORDS_IN_LINE}
use Rattle.lxr_graph.specs.Names.{has, without}
use Rattle.lxr_graph.specs.State.{object_at, refs_of}
use Rattle.lxr_image.specs.declared.space.Space.{Space}
use Rattle.lxr_image.specs.Spaces.{IsSpace, tables_of}
use Rattle.lxr_image.specs.Tables.{Tables}
use Rattle.lxr_image.specs.Opened.{HasRoom}
use Rattle.lxr_image.specs.ImageLaws.{placed}
use Rattle.lxr_blocks.specs.States.{KeepsState}
use Rattle.lxr_model.specs.References.{references_from}
use Rattle.lxr_model.specs.Moments.{Moment}
use Rattle.lxr_model_counting.specs.Distinct.{IsDistinct, has_field}
use Rattle.lxr_model_counting.specs.Following.{FollowsPause}
use Rattle.lxr_model_counting.specs.Lowering.{once}
use Rattle.lxr_model_counting.specs.Raising.{IsGrowth, IsHeldUp}
use Rattle.lxr_invariant.specs.AbstractState.{members}
use Rattle.lxr_invariant.specs.Standing.{AreLogged, HasBits, place_of, word_of_field}
use Rattle.lxr_invariant.specs.Counting.{count_at, passing}
use Rattle.lxr_invariant.specs.Lines.{HasBlocks, HasMarks, NoneChosen}
use Rattle.lxr_invariant.specs.Raised.{count_found, with_promoted}
use Rattle.lxr_remset.specs.Remembering.{AreEntries, CanRemember, HasEntryOf}
use Rattle.lxr_pause_promote.specs.Either.{IsPlaceOf}
use Rattle.lxr_pause_increments.specs.Moving.{IsMoving}
use Rattle.lxr_pause_increments.specs.Traced.{marks_with}

-- A stage of the increments; no code holds it.
pub record IncrementStage : Type 0 where
  -- what is promoted so far, newest first
  pub promoted : List Name
  -- the promoted names whose references are still to be raised, in the order of the worklist
  pub work : List Name
  -- how often each name was raised so far
  pub added : Name → ℕ
  -- where each object stands now
  pub now : Name → ℕ
  -- the space as increments found it
  pub found : Space

-- nothing is promoted or raised yet, and objects stand where they stood
abbrev pub first_stage : (Name → ℕ) → Space → IncrementStage
first_stage at found = record { promoted = []; work = []; added = λ n. 0; now = at; found = found }

-- a reference was raised: it is one of a promoted object or was written, and what it holds is known
pub record WasRaised (m : Moment) (st : IncrementStage) (u : Name) (i : ℕ) : Type 0 where
  pub holder : IsTrue (has (with_promoted m st.promoted) u)
  pub changes : IsTrue (has st.promoted u) ⊎ IsTrue (has_field m.written (u, i))
  pub known : (v : Name) → slice_get (refs_of (object_at m.state.graph u)) i ≡ Some (Some v) → IsTrue (has (with_promoted m st.promoted) v)

-- What is known at a stage is known at a later one, and stands where it stood; no line on which it lies is handed out. Entries stay, each
-- is one of a reference where each was, and each that is new is that of a reference that was raised and leads into a Chosen block. Where
-- no block is Chosen, nothing is remembered.
pub record StaysRemembered (before after : Space) (m : Moment) (st later : IncrementStage) : Type 0 where
  pub limits : after.limits ≡ before.limits
  pub states : (b : ℕ) → KeepsState (tables_of before) (tables_of after) b
  pub known : (u : Name) → IsTrue (has (with_promoted m st.promoted) u) → IsTrue (has (with_promoted m later.promoted) u) × (later.now u ≡ st.now u)
  pub promoted : (u : Name) → IsTrue (has st.promoted u) → IsTrue (has later.promoted u)
  pub lines : (u : Name) (i : ℕ) → IsTrue (has (with_promoted m st.promoted) u) → i < length (refs_of (object_at m.state.graph u))
      → (tables_of after).reuse (word_of_field later.now u i / WORDS_IN_LINE) ≡ (tables_of before).reuse (word_of_field st.now u i / WORDS_IN_LINE)
  pub cursor : (tables_of before).cursors REMEMBERED_CURSOR ≤ (tables_of after).cursors REMEMBERED_CURSOR
  pub below : (k : ℕ) → k < (tables_of before).cursors REMEMBERED_CURSOR → (tables_of after).remembered k ≡ (tables_of before).remembered k
  pub since : (k : ℕ) → (tables_of before).cursors REMEMBERED_CURSOR ≤ k → k < (tables_of after).cursors REMEMBERED_CURSOR → k < after.limits.remember
      → HasEntryOf after.limits (tables_of after) m later.now (WasRaised m later) k
  pub entries : AreEntries before.limits (tables_of before) → AreEntries after.limits (tables_of after)
  pub idle : NoneChosen (tables_of before) before.limits.blocks
      → ((tables_of after).remembered ≡ (tables_of before).remembered) × ((tables_of after).cursors REMEMBERED_CURSOR ≡ (tables_of before).cursors REMEMBERED_CURSOR)

-- the count of a name as it would be without a largest value
abbrev pub count_so_far : Moment → IncrementStage → Name → ℕ
count_so_far m st n = count_found m st.promoted n + st.added n

-- an unstuck name has been raised to STUCK
pub record IsFull (m : Moment) (st : IncrementStage) (n : Name) : Type 0 where
  pub member : IsTrue (has (with_promoted m st.promoted) n)
  pub unstuck : has m.stuck n ≡ false
  pub reaches : STUCK ≤ count_so_far m st n

-- the counts at a stage: STUCK for what was stuck, and else as often as raised, but at most STUCK
pub record HasCountsSoFar (s : Space) (m : Moment) (st : IncrementStage) : Type 0 where
  pub stuck : (n : Name) → IsTrue (has m.stuck n) → count_at (tables_of s) st.now n ≡ STUCK
  pub exact : (n : Name) → IsTrue (has (with_promoted m st.promoted) n) → has m.stuck n ≡ false → count_at (tables_of s) st.now n ≡ min (count_so_far m st n) STUCK
  pub positive : (n : Name) → IsTrue (has (with_promoted m st.promoted) n) → count_at (tables_of s) st.now n ≢ 0
  -- a new object is promoted where it is raised first
  pub unraised : (n : Name) → IsTrue (has m.made n) → has st.promoted n ≡ false → st.added n ≡ 0
  -- those that became stuck are reported, each once
  pub reported : (n : Name) → IsTrue (has s.report.stuck.items n) ↔ IsFull m st n
  pub reported_once : IsDistinct s.report.stuck.items

-- the lists have room: each promoted object has a start bit of its own, and each name that became stuck a count of STUCK
pub record HasRoomToRaise (s : Space) : Type 0 where
  pub promoted : length s.report.promoted.items ≤ passing (tables_of s).starts (GRANULES_IN_BLOCK * s.limits.blocks)
  pub work : length s.work.items ≤ length s.report.promoted.items
  pub stuck : length s.report.stuck.items ≤ passing (λ k. (tables_of s).counts k == STUCK) (GRANULES_IN_BLOCK * s.limits.blocks)

-- The space at a stage of the increments, for a moment whose dead are gone. Objects stood where `at` says as increments began.
pub record IsIncrementing (s : Space) (m : Moment) (at : Name → ℕ) (st : IncrementStage) : Type 0 where
  pub space : IsSpace s
  pub room : HasRoom s
  pub as_many : (length s.registers.items ≡ REGISTERS * s.limits.threads) × (length s.deferred.items ≡ REGISTERS * s.limits.threads)
  pub follows : FollowsPause m
  pub moving : IsMoving s st.found m at st.now st.promoted
  -- each promoted name was made since the last pause and held up when it was promoted, and each is promoted once
  pub growth : IsGrowth m.state m.unreclaimed m.made st.promoted
  pub once_promoted : IsDistinct st.promoted
  pub work_promoted : (n : Name) → IsTrue (has st.work n) → IsTrue (has st.promoted n)
  pub once_work : IsDistinct st.work
  pub bits : HasBits (tables_of s) m st.now (with_promoted m st.promoted)
  pub marks : HasMarks (tables_of s) m.state.graph st.now (with_promoted m st.promoted)
  pub counts : HasCountsSoFar s m st
  pub logs : AreLogged m at s.logged.items
  pub few_logs : length s.logged.items ≤ s.limits.threads * s.limits.log
  pub none_done : (k : ℕ) → (tables_of s).dones k ≡ false
  pub blocks : HasBlocks (tables_of s) s.limits m.trace
  pub decrements : ((tables_of s).cursors DECREMENT_CURSOR ≡ 0) × ((tables_of s).cursors DECREMENT_COUNT ≡ 0)
  -- references might be remembered as increments began, and what was remembered is
  pub might_remember : CanRemember m.trace (tables_of st.found)
  pub remembered : StaysRemembered st.found s m (first_stage at st.found) st
  -- the lists of the space are those of the stage
  pub reported : s.report.promoted.items ≡ reverse st.promoted
  pub worklist : s.work.items ≡ map (place_of st.now) st.work
  pub lists : HasRoomToRaise s

-- a name is a new object that isn't promoted yet
abbrev pub is_unpromoted : Moment → IncrementStage → Name → Bool
is_unpromoted m st o = has m.made o && not (has st.promoted o)

-- the stage once a name is raised: where it is a new object that isn't promoted yet, it is, stands at a place, and waits in the
-- worklist
abbrev pub stage_with : Moment → IncrementStage → Name → ℕ → IncrementStage
stage_with m st o q = record {
  promoted = if is_unpromoted m st o then (o ∷ st.promoted) else st.promoted;
  work = if is_unpromoted m st o then (st.work ++ o ∷ []) else st.work;
  added = λ n. once n o + st.added n;
  now = if is_unpromoted m st o then placed st.now o q else st.now;
  found = st.found;
}

-- a name may be raised: its object stands or stood at a place, and something kept or promoted holds it up
pub record MayBeRaised (m : Moment) (at : Name → ℕ) (st : IncrementStage) (o : Name) (place : ℕ) : Type 0 where
  pub member : IsTrue (has (members m) o)
  pub held_up : IsHeldUp m.state m.unreclaimed st.promoted o
  pub stands : IsPlaceOf at st.now o place

-- what is left to do: new objects that may be promoted, and the worklist
abbrev pub left : Space → ℕ
left s = (GRANULES_IN_BLOCK * s.limits.blocks - passing (tables_of s).starts (GRANULES_IN_BLOCK * s.limits.blocks)) + length s.work.items

-- What was raised: `base` for logged references and registers so far, and the references of each promoted object that isn't
-- in the worklist, but for those that are still pending.
abbrev pub Accounts : Moment → IncrementStage → (Name → ℕ) → (Name → ℕ) → Type 0
Accounts m st base pending = (o : Name) → st.added o + pending o ≡ base o + references_from m.state.graph (without st.promoted st.work) o

-- Lists but the remembered set, gray bits, the entries of the table of decrements and all cursors but that of the remembered set are as
-- they were. Each object that began somewhere begins there, and while a trace runs, those that begin newly are marked; no other mark
-- bit changes.
pub record RaisingLeavesTables (t u : Tables) : Type 0 where
  pub runs : u.runs ≡ t.runs
  pub frees : u.frees ≡ t.frees
  pub cursors : (k : ℕ) → k ≢ REMEMBERED_CURSOR → u.cursors k ≡ t.cursors k
  pub starts : (k : ℕ) → IsTrue (t.starts k) → IsTrue (u.starts k)
  pub marks : (k : ℕ) → u.marks k ≡ marks_with t u.starts k
  pub grays : u.grays ≡ t.grays
  pub decs : u.decs ≡ t.decs

-- What raising leaves of a space: all but its words, what registers hold, the worklist, the promoted and stuck names of the report,
-- and the rest of the lines that were placed on last.
pub record RaisingLeaves (before after : Space) : Type 0 where
  pub space : after ≡ record before {
    words = after.words;
    registers = record before.registers { items = after.registers.items };
    work = record before.work { items = after.work.items };
    report = record before.report {
      promoted = record before.report.promoted { items = after.report.promoted.items };
      stuck = record before.report.stuck { items = after.report.stuck.items };
    };
    rest_next = after.rest_next;
    rest_end = after.rest_end;
  }
  pub tables : RaisingLeavesTables (tables_of before) (tables_of after)
