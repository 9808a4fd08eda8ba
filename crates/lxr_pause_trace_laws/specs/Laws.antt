-- What the steps of a pause do to a trace that runs, begins or ends: laws, each the contract of a function with an empty body.
use Rattle.std.specs.Prelude.{◌≡◌, ℕ, ◌+◌, ◌<◌, ◌↔◌, ◌⊎◌, Some, List, [], IsTrue, length, slice_get}
use Rattle.lxr_layout.specs.declared.limits.Limits.{Limits}
use Rattle.lxr_layout.specs.declared.Name.{Name}
use Rattle.lxr_layout.specs.declared.LogEntry.{LogEntry}
use Rattle.lxr_layout.specs.declared.TheConstants.{REMEMBERED_CURSOR}
use Rattle.lxr_graph.specs.Names.{IsSetOf, has, without}
use Rattle.lxr_graph.specs.State.{HasObject, object_at, refs_of}
use Rattle.lxr_graph.specs.History.{Item, PauseReport}
use Rattle.lxr_image.specs.declared.space.Space.{Space}
use Rattle.lxr_image.specs.Tables.{Tables}
use Rattle.lxr_image.specs.Spaces.{tables_of}
use Rattle.lxr_model.specs.Dead.{Dead}
use Rattle.lxr_model.specs.Legal.{IsLegalSoFar}
use Rattle.lxr_model.specs.Moments.{Moment, Trace, moment, rememberable}
use Rattle.lxr_model.specs.Reachable.{Reachable, Refers}
use Rattle.lxr_model.specs.References.{reference_slots}
use Rattle.lxr_model.specs.Terms.{Terms}
use Rattle.lxr_model_counting.specs.Garbage.{FollowsTrace, IsGarbageOf}
use Rattle.lxr_invariant.specs.Copied.{standing}
use Rattle.lxr_invariant.specs.AbstractState.{AbstractState, leaving}
use Rattle.lxr_invariant.specs.Counting.{IsUndecremented}
use Rattle.lxr_invariant.specs.Quiescent.{HoldsMoment}
use Rattle.lxr_invariant.specs.Raised.{settled}
use Rattle.lxr_invariant.specs.Settled.{IsSettled}
use Rattle.lxr_invariant.specs.Tracing.{HasOverflowed, IsGray, IsInChosen, IsMarked, IsOldValue, IsRemembered, IsRoot, IsUnmarked, TraceHolds}
use Rattle.lxr_remset.specs.Remembering.{AreEntries}
use Rattle.lxr_pause_decrements.specs.Finishing.{Finishes}
use Rattle.lxr_pause_increments.specs.Raising.{Raises}
use Rattle.lxr_pause_queue.specs.Queueing.{Queues}
use Rattle.lxr_pause_trace.specs.Tracing.{BeginsTrace, FinishesTrace}

-- the state with another moment
abbrev pub at_moment : AbstractState → Moment → AbstractState
at_moment g m = record g { moment = m }

-- ---- a trace goes on

-- where marks stay inside the snapshot, the state follows the beginning of a trace
abbrev pub InsideFollows : Type 0
InsideFollows = (l : Limits) (t : Tables) (entries : List LogEntry) (g : AbstractState) (trace : Trace) → TraceHolds l t entries g trace → FollowsTrace g.moment trace

-- nothing left the graph from the beginning of a trace to the last pause
abbrev pub KeepsObjectsOf : Trace → Moment → Type 0
KeepsObjectsOf trace m = (n : Name) → HasObject trace.state.graph n → HasObject m.last.graph n

-- what was unreclaimed as a trace began had its object there
abbrev pub HadObjects : Trace → Type 0
HadObjects trace = (n : Name) → IsTrue (has trace.unreclaimed n) → HasObject trace.state.graph n

-- so it is with a trace that runs after a legal history
abbrev pub HistoryKeepsObjects : Type 0
HistoryKeepsObjects = (terms : Terms) (h : List Item) (trace : Trace) → IsLegalSoFar terms h → (moment terms.threads h).trace ≡ Some trace
    → KeepsObjectsOf trace (moment terms.threads h) × HadObjects trace

-- what is reclaimed by counting hides nothing from a trace
abbrev pub FinishingKeepsTrace : Type 0
FinishingKeepsTrace = (before after : Space) (g : AbstractState) (trace : Trace) (gone : List Name)
    → HoldsMoment before g.moment g.at → g.moment.trace ≡ Some trace → TraceHolds before.limits (tables_of before) before.logged.items g trace
    → Finishes before after g.moment g.at gone
    → TraceHolds after.limits (tables_of after) after.logged.items (at_moment g (leaving g.moment (without g.moment.unreclaimed gone))) trace

-- a trace that goes on at a pause: its slots are those of `going_on`
abbrev pub with_slots : Moment → List Name → Trace → Trace
with_slots m promoted trace = record trace {
  promoted_slots = trace.promoted_slots + reference_slots m.state.graph promoted;
  written_slots = trace.written_slots + length m.written;
}

-- the moment once counting is done, at the next pause
abbrev pub settled_next : Moment → List Name → List Name → Moment
settled_next m promoted stuck = record (settled m promoted stuck) { number = m.number + 1 }

-- increments, the queue and deferred roots keep a trace: what is promoted is marked where it stands now, old values are gray, and
-- references into Chosen blocks are remembered
abbrev pub CountingKeepsTrace : Type 0
CountingKeepsTrace = (found raised queued : Space) (g : AbstractState) (at' : Name → ℕ) (trace : Trace)
    → HoldsMoment found g.moment g.at → g.moment.trace ≡ Some trace
    → KeepsObjectsOf trace g.moment → TraceHolds found.limits (tables_of found) found.logged.items g trace
    → Raises found raised g.moment g.at at'
    → Queues raised queued g.moment at' raised.report.promoted.items raised.report.stuck.items
    → TraceHolds queued.limits (tables_of queued) [] (at_moment (standing g at') (settled_next g.moment raised.report.promoted.items raised.report.stuck.items))
    (with_slots g.moment raised.report.promoted.items trace)

-- ---- a trace begins

-- the trace that begins at a moment, at pause k
abbrev pub fresh_trace : Moment → ℕ → Trace
fresh_trace m k = record { began = k; state = m.state; unreclaimed = m.unreclaimed; promoted_slots = 0; written_slots = 0 }

-- where nothing is dead and no decrement was begun, all holds of a trace that begins, whatever blocks are Chosen then, where nothing is
-- remembered
abbrev pub BeginningTraces : Type 0
BeginningTraces = (before after : Space) (chosen : Tables) (m : Moment) (at : Name → ℕ) (reported : PauseReport) (k : ℕ)
    → IsSettled m → IsUndecremented (tables_of before) m at → ((n : Name) → ¬ Dead m.state m.unreclaimed m.stuck n)
    → BeginsTrace before after m at → chosen ≡ record (tables_of after) { states = chosen.states; remembered = chosen.remembered; cursors = chosen.cursors }
    → chosen.cursors REMEMBERED_CURSOR ≡ 0
    → TraceHolds after.limits chosen [] (record { moment = m; at = at; reported = reported }) (fresh_trace m k)

-- ---- a trace ends

-- Once it is finished, what isn't marked may be swept: roots are marked, what is marked refers to what is marked; and it is this.
pub record FindsGarbage (after : Space) (m : Moment) (at : Name → ℕ) (IsGarbage : Name → Type 0) : Type 0 where
  pub roots : (n : Name) → IsRoot m.state n → IsMarked (tables_of after) at n
  pub closed : (u n : Name) → IsTrue (has m.unreclaimed u) → IsMarked (tables_of after) at u → Refers m.state.graph u n → IsMarked (tables_of after) at n
  pub garbage : (n : Name) → IsTrue (has m.unreclaimed n) → IsUnmarked (tables_of after) at n ↔ IsGarbage n

-- at its end, exactly what was garbage when it began; all of that still stands
abbrev pub EndFindsGarbage : Type 0
EndFindsGarbage = (before after : Space) (g : AbstractState) (trace : Trace)
    → IsSettled g.moment → HadObjects trace → TraceHolds before.limits (tables_of before) [] g trace → FinishesTrace before after g.moment g.at
    → FindsGarbage after g.moment g.at (IsGarbageOf trace) × ((n : Name) → IsGarbageOf trace n → IsTrue (has g.moment.unreclaimed n))

-- Once it is finished, each reference of a marked object that leads into a Chosen block is remembered, or the set has overflowed. Each
-- entry is one of a reference, and the set has overflowed only where more may have been remembered than there is room for.
pub record RemembersMarked (l : Limits) (t : Tables) (m : Moment) (at : Name → ℕ) (trace : Trace) : Type 0 where
  pub fields : (n v : Name) (i : ℕ) → IsTrue (has m.unreclaimed n) → IsMarked t at n → slice_get (refs_of (object_at m.state.graph n)) i ≡ Some (Some v) → IsInChosen t at v
      → IsRemembered l t at n i ⊎ HasOverflowed l t
  pub entries : AreEntries l t
  pub overflows : (snapshot : List Name) → IsSetOf snapshot (Reachable trace.state) → HasOverflowed l t → l.remember < rememberable trace snapshot

-- so it is at the end of the trace that runs
abbrev pub EndRemembers : Type 0
EndRemembers = (before after : Space) (g : AbstractState) (trace : Trace)
    → IsSettled g.moment → g.moment.trace ≡ Some trace → TraceHolds before.limits (tables_of before) [] g trace → FinishesTrace before after g.moment g.at
    → RemembersMarked before.limits (tables_of after) g.moment g.at trace

-- in a collecting pause, exactly what isn't reachable
abbrev pub CollectFindsGarbage : Type 0
CollectFindsGarbage = (before begun after : Space) (m : Moment) (at : Name → ℕ)
    → IsSettled m → BeginsTrace before begun m at → FinishesTrace begun after m at
    → FindsGarbage after m at (λ n. ¬ Reachable m.state n)

-- ---- when a trace ends before it must

-- Nothing is left to trace at a safepoint, for these dead: each other unreclaimed name that is gray, that one of the dead refers to, or
-- that a log has as an old value is marked.
abbrev pub NothingIsLeft : Tables → Moment → (Name → ℕ) → List LogEntry → List Name → Type 0
NothingIsLeft t m at entries gone = (n : Name) → IsTrue (has (without m.unreclaimed gone) n)
    → IsGray t at n ⊎ ((u : Name) × IsTrue (has gone u) × Refers m.last.graph u n) ⊎ IsOldValue entries (at n)
    → IsMarked t at n

-- all that is gray is marked
abbrev pub AllGrayAreMarked : Tables → Type 0
AllGrayAreMarked t = (k : ℕ) → IsTrue (t.grays k) → IsTrue (t.marks k)

-- so it is exactly where, once increments are done, all that is gray is marked
abbrev pub MarksTellTheEnd : Type 0
MarksTellTheEnd = (before found raised : Space) (m : Moment) (at at' : Name → ℕ) (gone : List Name) (trace : Trace)
    → HoldsMoment before m at → m.trace ≡ Some trace → Finishes before found m at gone
    → Raises found raised (leaving m (without m.unreclaimed gone)) at at'
    → AllGrayAreMarked (tables_of raised) ↔ NothingIsLeft (tables_of before) m at before.logged.items gone
