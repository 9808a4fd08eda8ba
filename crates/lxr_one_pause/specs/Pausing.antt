-- What one pause does.
use Rattle.std.specs.Prelude.{◌≡◌, ◌≢◌, ℕ, ◌+◌, ◌/◌, ◌^◌, ◌<◌, ◌≤◌, ◌↔◌, ◌⊎◌, ⊤, Bool, true, Option, Some, None, List, [], ◌++◌, IsTrue, false, length}
use Rattle.lxr_pause_queue.specs.OldValues.{decrement_list, old_values}
use Rattle.lxr_layout.specs.declared.Name.{Name}
use Rattle.lxr_layout.specs.declared.TheConstants.{DECREMENT_COUNT, DECREMENT_CURSOR, GRANULES_IN_LINE, REMEMBERED_CURSOR, TRACING_WORD}
use Rattle.lxr_graph.specs.declared.report.Kind.{Kind}
use Rattle.lxr_graph.specs.declared.report.Kind.TheVariants as kind
use Rattle.lxr_graph.specs.Names.{has}
use Rattle.lxr_graph.specs.State.{Object}
use Rattle.lxr_graph.specs.History.{PauseReport, report_of}
use Rattle.lxr_image.specs.declared.space.Space.{Space}
use Rattle.lxr_image.specs.Tables.{Tables}
use Rattle.lxr_image.specs.Spaces.{tables_of}
use Rattle.lxr_image.specs.Reads.{granule_of}
use Rattle.lxr_model.specs.Dead.{Dead}
use Rattle.lxr_model.specs.Moments.{Field, Moment, Trace}
use Rattle.lxr_model.specs.Reachable.{Refers}
use Rattle.lxr_model.specs.Reports.{IsReport, IsReportWith, PauseParts, is_draining}
use Rattle.lxr_model_counting.specs.Distinct.{AreDistinctFields, has_field}
use Rattle.lxr_invariant.specs.AbstractState.{AbstractState, paused}
use Rattle.lxr_invariant.specs.Copied.{CopiesLieApart, HasCopy, StayForWantOfLines}
use Rattle.lxr_invariant.specs.Lines.{Covers, NoneChosen}
use Rattle.lxr_invariant.specs.Quiescent.{IsAtSafepoint, IsQuiescent}
use Rattle.lxr_invariant.specs.Tracing.{IsGray, IsMarked, IsOldValue, IsRoot, IsUnmarked}
use Rattle.lxr_remset.specs.Remembering.{LeadsIntoChosen}
use Rattle.lxr_pause_decrements.specs.Wipe.{LosesBits}
use Rattle.lxr_pause_trace_laws.specs.Laws.{AllGrayAreMarked, HadObjects, KeepsObjectsOf}
use Rattle.lxr_one_pause.specs.declared.Ask.{Ask}
use Rattle.lxr_one_pause.specs.declared.Pace.{Pace}
use Rattle.lxr_one_pause.specs.Deciding.{HasKind}
use Rattle.lxr_one_pause.specs.Relocating.{ChoosesBlocks, Evacuates, Relocates}

-- nothing has left the graph since a trace that runs began, and what was unreclaimed then had its object
abbrev pub KeepsObjects : Moment → Option Trace → Type 0
KeepsObjects m None = ⊤
KeepsObjects m (Some trace) = KeepsObjectsOf trace m × HadObjects trace

-- A pause may be made: the space is at a safepoint, whatever decrementers and tracers have done since the last pause, the graph has
-- grown alone since a trace that runs began, and pauses and what is moved can still be counted.
pub record CanPause (s : Space) (g : AbstractState) : Type 0 where
  pub safepoint : IsAtSafepoint s g
  pub objects : KeepsObjects g.moment g.moment.trace
  pub counted : (s.pauses + 1 < 2 ^ 32) × (s.tally.pauses < 2 ^ 63)
  pub evacuated : (s.tally.moved < 2 ^ 63) × (s.tally.kept < 2 ^ 63)

-- The lists of runs and of free blocks stay, and so do all cursors but the tracing word, the remembered cursor and those of the list of
-- decrements.
pub record KeepsThroughPause (t u : Tables) : Type 0 where
  pub runs : u.runs ≡ t.runs
  pub frees : u.frees ≡ t.frees
  pub cursors : (k : ℕ) → k ≢ DECREMENT_CURSOR → k ≢ DECREMENT_COUNT → k ≢ REMEMBERED_CURSOR → k ≢ TRACING_WORD → u.cursors k ≡ t.cursors k

-- the remembered set is that of other tables
pub record SameRemembered (t u : Tables) : Type 0 where
  pub entries : u.remembered ≡ t.remembered
  pub cursor : u.cursors REMEMBERED_CURSOR ≡ t.cursors REMEMBERED_CURSOR

-- A pause that begins a trace clears the remembered set. Any other leaves it where no block is Chosen; where some are, what holds of a
-- trace says what is remembered.
abbrev pub LeavesRemembered : Kind → Tables → Tables → ℕ → Type 0
LeavesRemembered kind.Plain t u blocks = NoneChosen t blocks → SameRemembered t u
LeavesRemembered kind.Begin t u blocks = u.cursors REMEMBERED_CURSOR ≡ 0
LeavesRemembered (kind.End j) t u blocks = NoneChosen t blocks → SameRemembered t u
LeavesRemembered kind.Collect t u blocks = NoneChosen t blocks → SameRemembered t u

-- references, none of them twice, each of which is one of those that are meant, and leads into a block that was Chosen as a pause began
pub record AreIntoChosen (before : Space) (g : AbstractState) (IsOne : Name → ℕ → Type 0) (fields : List Field) : Type 0 where
  pub once : AreDistinctFields fields
  pub each : (n : Name) (i : ℕ) → IsTrue (has_field fields (n, i)) → IsOne n i × LeadsIntoChosen (tables_of before) g.moment g.at n i

-- From one number of the remembered set to another, one was drawn for each of some references of these, and no other.
pub record DrawsFor (before : Space) (g : AbstractState) (IsOne : Name → ℕ → Type 0) (first end : ℕ) : Type 0 where
  pub entered : List Field
  pub are : AreIntoChosen before g IsOne entered
  pub drawn : end ≡ first + length entered

-- a reference that a pause raises: of an object that it promotes, or one that was written since the last pause
abbrev pub IsToRaise : AbstractState → PauseReport → Name → ℕ → Type 0
IsToRaise g r n i = IsTrue (has r.promoted n) ⊎ IsTrue (has_field g.moment.written (n, i))

-- An object was left to mark as a pause began that ends a trace: it was unreclaimed and unmarked, didn't die before the trace was
-- finished, and isn't swept.
pub record WasLeftToMark (before : Space) (g : AbstractState) (parts : PauseParts) (r : PauseReport) (n : Name) : Type 0 where
  pub member : IsTrue (has g.moment.unreclaimed n)
  pub unmarked : IsUnmarked (tables_of before) g.at n
  pub first : has parts.first_dead n ≡ false
  pub second : has parts.second_dead n ≡ false
  pub unswept : has r.swept n ≡ false

-- Which numbers of the remembered set a pause draws: one for each of some references that it raises, and where it ends a trace, then one for each of
-- some of what was left to mark. Each of them leads into a Chosen block, and none is counted twice. So the set overflows in a pause only where it met more of
-- these than there was room for. A pause that begins a trace clears the set.
abbrev pub DrawsByKind : Kind → Space → AbstractState → PauseParts → PauseReport → ℕ → ℕ → Type 0
DrawsByKind kind.Plain before g parts r first end = DrawsFor before g (IsToRaise g r) first end
DrawsByKind kind.Begin before g parts r first end = end ≡ 0
DrawsByKind (kind.End j) before g parts r first end = (between : ℕ) × DrawsFor before g (IsToRaise g r) first between × DrawsFor before g (λ n i. WasLeftToMark before g parts r n) between end
DrawsByKind kind.Collect before g parts r first end = DrawsFor before g (IsToRaise g r) first end

-- so it does, for the parts into which its dead fall
abbrev pub DrawsNumbers : Kind → Space → Space → AbstractState → PauseReport → Type 0
DrawsNumbers k before after g r =
    (parts : PauseParts) × IsReportWith g.moment parts r × DrawsByKind k before g parts r ((tables_of before).cursors REMEMBERED_CURSOR) ((tables_of after).cursors REMEMBERED_CURSOR)

-- A trace goes on: what is left is marked where it was, or was promoted; and gray where it was, where one of the dead referred to it, and
-- where it was an old value of a log.
pub record GoesOnTracing (before after : Space) (g : AbstractState) (at' : Name → ℕ) (r : PauseReport) (left : List Name) : Type 0 where
  pub marks : (n : Name) → IsTrue (has left n) → IsMarked (tables_of after) at' n ↔ (IsMarked (tables_of before) g.at n ⊎ IsTrue (has r.promoted n))
  pub grays : (n : Name) → IsTrue (has left n) → IsGray (tables_of after) at' n
      ↔ (IsGray (tables_of before) g.at n ⊎ ((u : Name) × IsTrue (has r.dead u) × Refers g.moment.last.graph u n) ⊎ IsOldValue before.logged.items (g.at n))

-- A trace begins: nothing is marked, and exactly the world and what registers hold is gray.
pub record BeginsTracing (after : Space) (g : AbstractState) (at' : Name → ℕ) : Type 0 where
  pub none_marked : (k : ℕ) → (tables_of after).marks k ≡ false
  pub grays : (k : ℕ) → IsTrue ((tables_of after).grays k) ↔ ((n : Name) × IsRoot g.moment.state n × (k ≡ granule_of (at' n)))

-- A trace is over: all that is left is marked, and nothing gray is unmarked.
pub record EndsTracing (after : Space) (at' : Name → ℕ) (left : List Name) : Type 0 where
  pub marked : (n : Name) → IsTrue (has left n) → IsMarked (tables_of after) at' n
  pub none_left : AllGrayAreMarked (tables_of after)

-- a dead object loses its mark and gray bits, and all others are as they were
pub record LeavesTracing (before after : Space) (at' : Name → ℕ) (r : PauseReport) : Type 0 where
  pub marks : LosesBits (tables_of before).marks (tables_of after).marks at' r.dead
  pub grays : LosesBits (tables_of before).grays (tables_of after).grays at' r.dead

-- what a pause does to mark and gray bits, by its kind and whether a trace ran before it
abbrev pub Traces : Kind → Option Trace → Space → Space → AbstractState → (Name → ℕ) → PauseReport → List Name → Type 0
Traces kind.Plain None before after g at' r left = LeavesTracing before after at' r
Traces kind.Plain (Some trace) before after g at' r left = GoesOnTracing before after g at' r left
Traces kind.Begin trace before after g at' r left = BeginsTracing after g at'
Traces (kind.End j) trace before after g at' r left = EndsTracing after at' left
Traces kind.Collect trace before after g at' r left = EndsTracing after at' left

-- After a plain pause exactly the decrements wait that it queued, in their order: of what logged references held at the last pause, and of what
-- registers held then and hold no more.
abbrev pub QueuesOldValues : Kind → Space → Space → Type 0
QueuesOldValues kind.Plain before after = decrement_list (tables_of after) ≡ old_values (record before { registers = after.registers })
QueuesOldValues kind.Begin before after = ⊤
QueuesOldValues (kind.End j) before after = ⊤
QueuesOldValues kind.Collect before after = ⊤

-- where a pause drained, no decrement waits
abbrev pub IsDrained : Space → Bool → Type 0
IsDrained s false = ⊤
IsDrained s true = (tables_of s).cursors DECREMENT_COUNT ≡ 0

-- a line has a granule of an object that a pause reclaimed, and that wasn't dead when the pause began
abbrev pub IsLetGo : AbstractState → (Name → ℕ) → PauseReport → ℕ → Type 0
IsLetGo g at' r line = (n : Name) × (o : Object) × (k : ℕ) × IsTrue (has (r.dead ++ r.swept) n) × ¬ Dead g.moment.last g.moment.unreclaimed g.moment.stuck n
    × Covers g.moment.state.graph at' n o k × (k / GRANULES_IN_LINE ≡ line)

-- A pause was made: its kind is that of the rules, its report is that of the moment, it is between epochs after it with promoted objects and
-- those that were moved out of Chosen blocks at their new places and all others where they were, and the pause is counted, with what it moved
-- and kept. Registers hold the new places. Blocks are chosen and released by its kind, and each that is neither Chosen nor World has the state
-- of its lines. A line is out only where it has a moved object, nothing is left of the lines that a pause placed on but of those of moved
-- objects. After a plain pause exactly those decrements wait that it queued, and where the pause drained, none does. Numbers of the remembered
-- set are drawn for references alone that it met and that lead into Chosen blocks, one for each. Nothing else has changed, but that the tracing word tells whether a trace runs, and
-- mark and gray bits are those that the kind asks for, gray bits after a trace but for this, that what is gray is marked.
pub record Pauses (before after : Space) (g : AbstractState) (at' : Name → ℕ) (asked : Ask) (pace : Pace) : Type 0 where
  pub kind : HasKind (tables_of before) g.moment g.at before.logged.items asked pace after.report.kind
  pub reports : IsReport g.moment (report_of after.report)
  pub between : IsQuiescent after (paused g at' (report_of after.report))
  -- what was moved out of Chosen blocks, and what was kept there
  pub moved : List Name
  pub kept : List Name
  pub evacuates : Evacuates before after g at' (paused g at' (report_of after.report)).moment.unreclaimed moved kept
  pub tally : after.tally ≡ record before.tally { pauses = before.tally.pauses + 1; moved = before.tally.moved + length moved; kept = before.tally.kept + length kept }
  pub relocates : Relocates before after g at' (paused g at' (report_of after.report)).moment.unreclaimed after.report.promoted.items moved
  pub apart : CopiesLieApart before g at' after.report.promoted.items
  pub stay : StayForWantOfLines (tables_of before) (tables_of after) before.limits.blocks g.moment g.at at' after.report.promoted.items (IsLetGo g at' (report_of after.report))
  pub keeps : KeepsThroughPause (tables_of before) (tables_of after)
  pub remembered : LeavesRemembered after.report.kind (tables_of before) (tables_of after) before.limits.blocks
  pub draws : DrawsNumbers after.report.kind before after g (report_of after.report)
  pub queues : QueuesOldValues after.report.kind before after
  pub drained : IsDrained after (is_draining after.report.kind)
  pub outs : (line : ℕ) → IsTrue ((tables_of after).outs line) ↔ HasCopy g.moment.state.graph g.at at' moved line
  pub no_rest : moved ≡ [] → after.rest_next ≡ after.rest_end
  pub chosen : ChoosesBlocks after.report.kind (tables_of before) (tables_of after) before.limits
  pub beyond : (b : ℕ) → before.limits.blocks ≤ b → (tables_of after).states b ≡ (tables_of before).states b
  pub traces : Traces after.report.kind g.moment.trace before after g at' (report_of after.report) (paused g at' (report_of after.report)).moment.unreclaimed
  pub space : after ≡ record before {
    words = after.words;
    registers = record before.registers { items = after.registers.items };
    deferred = after.deferred;
    logged = after.logged;
    report = after.report;
    rest_next = after.rest_next;
    rest_end = after.rest_end;
    pauses = before.pauses + 1;
    tally = after.tally;
    trace = after.trace;
  }
