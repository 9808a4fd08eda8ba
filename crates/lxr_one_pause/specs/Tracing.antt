-- What the steps of a pause do that begin a trace, end one, or collect. Each record names the spaces between its steps.
use Rattle.std.specs.Prelude.{◌≡◌, ℕ, ◌*◌, ◌^◌, ◌<◌, ◌≤◌, Option, Some, None, List, [], length}
use Rattle.lxr_layout.specs.declared.Name.{Name}
use Rattle.lxr_layout.specs.declared.TheConstants.{GRANULES_IN_BLOCK, TRACING_WORD}
use Rattle.lxr_graph.specs.declared.report.Kind.{Kind}
use Rattle.lxr_graph.specs.declared.report.Kind.TheVariants as kind
use Rattle.lxr_graph.specs.Names.{without}
use Rattle.lxr_image.specs.declared.space.Space.{Space}
use Rattle.lxr_image.specs.Tables.{changed}
use Rattle.lxr_image.specs.Spaces.{Turns, tables_of}
use Rattle.lxr_model.specs.Moments.{Moment, Trace}
use Rattle.lxr_invariant.specs.AbstractState.{AbstractState, leaving}
use Rattle.lxr_invariant.specs.Counting.{IsUndecremented}
use Rattle.lxr_invariant.specs.Quiescent.{HoldsMoment}
use Rattle.lxr_invariant.specs.Settled.{IsSettled}
use Rattle.lxr_invariant.specs.Tracing.{IsTracedBy}
use Rattle.lxr_remset.specs.Remembering.{CanRemember}
use Rattle.lxr_evac_blocks.specs.Choosing.{with_choice}
use Rattle.lxr_evac_blocks.specs.Releasing.{with_releases}
use Rattle.lxr_evac_moving.specs.Evacuation.{EvacuatesChosen, evacuated_of}
use Rattle.lxr_pause_decrements.specs.Finishing.{Finishes}
use Rattle.lxr_blocks.specs.Swept.{with_states_by_lines}
use Rattle.lxr_pause_trace.specs.Tracing.{BeginsTrace, FinishesTrace}
use Rattle.lxr_sweep_unmarked.specs.Sweeping.{SweepsUnmarked, swept_moment}
use Rattle.lxr_one_pause.specs.Pausing.{KeepsObjects}
use Rattle.lxr_one_pause.specs.Steps.{with_evacuated}

-- the tracing word of a space whose trace began at a pause, or that has none
abbrev pub word_of_trace : Option ℕ → ℕ
word_of_trace None = 0
word_of_trace (Some began) = 1

-- the trace of a space is this one from now on, and its tracing word tells it; nothing else has changed
pub record SetsTrace (before after : Space) (trace : Option ℕ) : Type 0 where
  pub tables : tables_of after ≡ record (tables_of before) { cursors = changed (tables_of before).cursors TRACING_WORD (word_of_trace trace) }
  pub space : after ≡ record before { words = after.words; trace = trace }

-- The decrements that were queued may be finished: counting is done, what is dead so far is few, and nothing is swept yet. A trace that
-- runs goes on, and far fewer references were remembered than the cursor can count.
pub record CanDrain (s : Space) (g : AbstractState) : Type 0 where
  pub holds : HoldsMoment s g.moment g.at
  pub settled : IsSettled g.moment
  pub undecremented : IsUndecremented (tables_of s) g.moment g.at
  pub traced : IsTracedBy s.limits (tables_of s) [] g g.moment.trace
  pub remembers : CanRemember g.moment.trace (tables_of s)
  pub objects : KeepsObjects g.moment g.moment.trace
  pub no_logs : s.logged.items ≡ []
  pub few_dead : length s.report.dead.items ≤ GRANULES_IN_BLOCK * s.limits.blocks
  pub none_swept : s.report.swept.items ≡ []

-- and a trace may begin, where none runs
pub record CanBegin (s : Space) (g : AbstractState) : Type 0 where
  pub drains : CanDrain s g
  pub none_runs : g.moment.trace ≡ None

-- and a trace may end, where one runs, and what evacuation moves and keeps can still be counted
pub record CanEnd (s : Space) (g : AbstractState) : Type 0 where
  pub drains : CanDrain s g
  pub trace : Trace
  pub runs : g.moment.trace ≡ Some trace
  pub counted : (s.tally.moved < 2 ^ 63) × (s.tally.kept < 2 ^ 63)

-- the moment without names that die once counting is done
abbrev pub drained : AbstractState → List Name → Moment
drained g gone = leaving g.moment (without g.moment.unreclaimed gone)

-- a trace has begun, and the blocks that are to be evacuated are chosen by the lines that are free then
pub record Begins (before after : Space) (g : AbstractState) : Type 0 where
  pub gone : List Name
  pub found : Space
  pub begun : Space
  pub swept : Space
  pub chosen : Space
  pub finishes : Finishes before found g.moment g.at gone
  pub begins : BeginsTrace found begun (drained g gone) g.at
  pub sweeps : Turns begun swept (with_states_by_lines (tables_of begun) begun.limits.blocks)
  pub chooses : Turns swept chosen (with_choice swept.limits (tables_of swept))
  pub sets : SetsTrace chosen after (Some before.report.number)

-- A trace has ended, and what it didn't mark is swept. What was left in Chosen blocks is moved away, and they are released.
pub record Ends (before after : Space) (g : AbstractState) : Type 0 where
  pub gone : List Name
  pub swept : List Name
  pub third : List Name
  pub at' : Name → ℕ
  pub moved : List Name
  pub kept : List Name
  pub found : Space
  pub traced : Space
  pub cleared : Space
  pub evacuated : Space
  pub released : Space
  pub finishes : Finishes before found g.moment g.at gone
  pub traces : FinishesTrace found traced (drained g gone) g.at
  pub sweeps : SweepsUnmarked traced cleared (drained g gone) g.at swept third
  pub evacuates : EvacuatesChosen cleared evacuated (swept_moment (drained g gone) swept third) g.at at' moved kept
  pub releases : Turns (with_evacuated evacuated (evacuated_of moved kept)) released (with_releases (tables_of evacuated) evacuated.limits.blocks)
  pub sets : SetsTrace released after None

-- Chosen blocks are released, a trace was made from its beginning to its end, and what it didn't mark is swept.
pub record Collects (before after : Space) (g : AbstractState) : Type 0 where
  pub gone : List Name
  pub swept : List Name
  pub third : List Name
  pub found : Space
  pub released : Space
  pub begun : Space
  pub traced : Space
  pub cleared : Space
  pub finishes : Finishes before found g.moment g.at gone
  pub releases : Turns found released (with_releases (tables_of found) found.limits.blocks)
  pub begins : BeginsTrace released begun (drained g gone) g.at
  pub traces : FinishesTrace begun traced (drained g gone) g.at
  pub sweeps : SweepsUnmarked traced cleared (drained g gone) g.at swept third
  pub sets : SetsTrace cleared after None

-- what a pause of this kind may do beside counting, and what it does
abbrev pub MayTrace : Kind → Space → AbstractState → Type 0
MayTrace kind.Plain s g = CanDrain s g
MayTrace kind.Begin s g = CanBegin s g
MayTrace (kind.End j) s g = CanEnd s g
MayTrace kind.Collect s g = CanDrain s g

abbrev pub HasTraced : Kind → Space → Space → AbstractState → Type 0
HasTraced kind.Plain before after g = after ≡ before
HasTraced kind.Begin before after g = Begins before after g
HasTraced (kind.End j) before after g = Ends before after g
HasTraced kind.Collect before after g = Collects before after g
