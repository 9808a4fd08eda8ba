-- What a pause has done once counting is done, and once tracing is, before blocks are swept and names are put in order.
use Rattle.std.specs.Prelude.{◌≡◌, ℕ, ◌+◌, ◌*◌, ◌≤◌, ◌↔◌, ⊤, Bool, true, false, Option, Some, None, List, [], ◌++◌, IsTrue, length}
use Rattle.std.specs.Option.{option_map}
use Rattle.lxr_layout.specs.declared.Name.{Name}
use Rattle.lxr_layout.specs.declared.TheConstants.{GRANULES_IN_BLOCK, REMEMBERED_CURSOR}
use Rattle.lxr_graph.specs.declared.report.Kind.{Kind}
use Rattle.lxr_graph.specs.declared.report.Kind.TheVariants as kind
use Rattle.lxr_graph.specs.declared.report.Report.{Report}
use Rattle.lxr_graph.specs.Distinct.{IsDistinct}
use Rattle.lxr_graph.specs.Names.{has, union, without}
use Rattle.lxr_graph.specs.History.{report_of}
use Rattle.lxr_image.specs.declared.space.Space.{Space}
use Rattle.lxr_image.specs.Spaces.{tables_of}
use Rattle.lxr_blocks.specs.States.{KeepsState}
use Rattle.lxr_model.specs.Dead.{Dead}
use Rattle.lxr_model.specs.Moments.{Moment, Trace, going_on}
use Rattle.lxr_model.specs.Reachable.{Reachable}
use Rattle.lxr_model.specs.Reports.{PauseParts, is_draining}
use Rattle.lxr_model_counting.specs.Garbage.{IsGarbageOf}
use Rattle.lxr_invariant.specs.AbstractState.{AbstractState, leaving}
use Rattle.lxr_invariant.specs.Counting.{IsUndecremented}
use Rattle.lxr_invariant.specs.Copied.{CopiesLieApart, CopiesPromoted, HasCopy, StayForWantOfLines, standing}
use Rattle.lxr_invariant.specs.Keeping.{KeepsLists}
use Rattle.lxr_invariant.specs.Lines.{AvoidChosen, NoneChosen}
use Rattle.lxr_invariant.specs.Quiescent.{HoldsMoment}
use Rattle.lxr_invariant.specs.Raised.{AreRaised, settled, with_promoted}
use Rattle.lxr_invariant.specs.Tracing.{IsTracedBy}
use Rattle.lxr_remset.specs.Remembering.{with_remembered_of}
use Rattle.lxr_pause_trace_laws.specs.Laws.{AllGrayAreMarked, NothingIsLeft, at_moment}
use Rattle.lxr_one_pause.specs.Pausing.{DrawsByKind, DrawsFor, IsDrained, IsLetGo, IsToRaise, KeepsThroughPause, LeavesRemembered, QueuesOldValues, SameRemembered, Traces}
use Rattle.lxr_one_pause.specs.Relocating.{ChoosesBlocks, Evacuates, Relocates}
use Rattle.lxr_one_pause.specs.Steps.{HasDistinctNames}

-- ---- counting

-- the moment without names that died in the state at the last pause
abbrev pub survived : Moment → List Name → Moment
survived m gone = leaving m (without m.unreclaimed gone)

-- the moment once counting is done, of a pause whose report has these names so far: a trace that runs may remember more
abbrev pub counted : Moment → List Name → Report → Moment
counted m gone r = record (settled (survived m gone) r.promoted.items r.stuck.items) { number = m.number + 1; trace = going_on m (report_of r) m.trace }

-- the report of a pause has each name that died, was promoted or became stuck so far, once and in some order, and nothing is told yet
pub record TellsCounts (r : Report) (m : Moment) (gone : List Name) : Type 0 where
  pub number : r.number ≡ m.number + 1
  pub dead : r.dead.items ≡ gone
  pub are_dead : (n : Name) → IsTrue (has gone n) ↔ Dead m.last m.unreclaimed m.stuck n
  pub once : IsDistinct gone
  pub raised : AreRaised (survived m gone) r.promoted.items r.stuck.items
  pub swept : r.swept.items ≡ []
  pub counts : r.counts.items ≡ []
  pub told : r.told.items ≡ []

-- where a trace runs, all that is gray is marked exactly where nothing was left to trace at the safepoint
abbrev pub TellsTheEnd : Space → Space → AbstractState → List Name → Option Trace → Type 0
TellsTheEnd before after g gone None = ⊤
TellsTheEnd before after g gone (Some trace) = AllGrayAreMarked (tables_of after) ↔ NothingIsLeft (tables_of before) g.moment g.at before.logged.items gone

-- Counting is done: the report tells what died, was promoted and became stuck, and the space holds the moment that it leads to. A trace
-- that runs goes on. Promoted objects are copied where lines fit them, apart from what lives on and out of Chosen blocks, and registers hold
-- their new places. No line is out, and nothing is left of the lines that a pause placed on. Lists stay but for what is remembered, which
-- does so too where no block is Chosen; and no block has become Chosen or World or ceased to be so. Nothing else has changed, but that the
-- list of decrements is that of the next pause.
pub record SettlesCounts (before after : Space) (g : AbstractState) (at' : Name → ℕ) (gone : List Name) : Type 0 where
  pub tells : TellsCounts after.report g.moment gone
  pub holds : HoldsMoment after (counted g.moment gone after.report) at'
  pub undecremented : IsUndecremented (tables_of after) (counted g.moment gone after.report) at'
  pub copies : CopiesPromoted (tables_of before) (tables_of after) g.moment g.at at' after.report.promoted.items
  pub apart : CopiesLieApart before g at' after.report.promoted.items
  pub unchosen : AvoidChosen (tables_of after) at' after.report.promoted.items
  pub stay : StayForWantOfLines (tables_of before) (tables_of after) before.limits.blocks g.moment g.at at' after.report.promoted.items (λ line. ⊥)
  pub traced : IsTracedBy after.limits (tables_of after) [] (at_moment (standing g at') (counted g.moment gone after.report)) (counted g.moment gone after.report).trace
  pub tells_the_end : TellsTheEnd before after g gone g.moment.trace
  pub queues : QueuesOldValues kind.Plain before after
  pub few_dead : length after.report.dead.items ≤ GRANULES_IN_BLOCK * after.limits.blocks
  pub no_logs : after.logged.items ≡ []
  pub none_out : (line : ℕ) → (tables_of after).outs line ≡ false
  pub no_rest : after.rest_next ≡ after.rest_end
  pub keeps : KeepsLists (with_remembered_of (tables_of before) (tables_of after)) (tables_of after)
  pub remembered : NoneChosen (tables_of before) before.limits.blocks → SameRemembered (tables_of before) (tables_of after)
  pub draws : DrawsFor before g (IsToRaise g (report_of after.report)) ((tables_of before).cursors REMEMBERED_CURSOR) ((tables_of after).cursors REMEMBERED_CURSOR)
  pub states : (b : ℕ) → KeepsState (tables_of before) (tables_of after) b
  pub traces : Traces kind.Plain g.moment.trace before after g at' (report_of after.report) (counted g.moment gone after.report).unreclaimed
  pub space : after ≡ record before {
    words = after.words;
    registers = record before.registers { items = after.registers.items };
    deferred = after.deferred;
    logged = after.logged;
    report = after.report;
    rest_next = after.rest_next;
    rest_end = after.rest_end;
  }

-- ---- tracing

-- the names that a pause keeps once counting is done; without those that its second dead are; and without what it sweeps
abbrev pub kept_by : Moment → PauseParts → Report → List Name
kept_by m parts r = with_promoted (survived m parts.first_dead) r.promoted.items

abbrev pub drained_by : Moment → PauseParts → Report → List Name
drained_by m parts r = without (kept_by m parts r) parts.second_dead

abbrev pub remaining_by : Moment → PauseParts → Report → List Name
remaining_by m parts r = without (drained_by m parts r) r.swept.items

-- the trace that runs after a pause of this kind
abbrev pub trace_by : Moment → PauseParts → Report → Kind → Option Trace
trace_by m parts r kind.Plain = going_on m (report_of r) m.trace
trace_by m parts r kind.Begin = Some (record {
  began = r.number;
  state = m.state;
  unreclaimed = without (remaining_by m parts r) parts.third_dead;
  promoted_slots = 0;
  written_slots = 0;
})
trace_by m parts r (kind.End j) = None
trace_by m parts r kind.Collect = None

-- the moment that a pause leads to whose dead fall into these parts, whatever the order of its names
abbrev pub settled_by : Moment → PauseParts → Report → Moment
settled_by m parts r = record m {
  last = m.state;
  number = m.number + 1;
  unreclaimed = without (remaining_by m parts r) parts.third_dead;
  stuck = without (union r.stuck.items m.stuck) r.swept.items;
  trace = trace_by m parts r r.kind;
  made = [];
  written = [];
}

-- the second and the third dead: none where nothing was drained
abbrev pub DiesBy : Moment → PauseParts → Report → Bool → Type 0
DiesBy m parts r false = (parts.second_dead ≡ []) × (parts.third_dead ≡ [])
DiesBy m parts r true =
    ((n : Name) → IsTrue (has parts.second_dead n) ↔ Dead m.state (kept_by m parts r) (union r.stuck.items m.stuck) n)
    × ((n : Name) → IsTrue (has parts.third_dead n) ↔ Dead m.state (remaining_by m parts r) (union r.stuck.items m.stuck) n)

-- what a trace sweeps that ends: what was garbage when it began
abbrev pub IsSweptOf : List Name → Option Trace → Type 0
IsSweptOf swept None = ⊥
IsSweptOf swept (Some trace) = (n : Name) → IsTrue (has swept n) ↔ IsGarbageOf trace n

-- what a pause of this kind sweeps
abbrev pub IsSweptBy : Moment → PauseParts → Report → Kind → Type 0
IsSweptBy m parts r kind.Plain = r.swept.items ≡ []
IsSweptBy m parts r kind.Begin = r.swept.items ≡ []
IsSweptBy m parts r (kind.End j) = IsSweptOf r.swept.items m.trace
IsSweptBy m parts r kind.Collect = (n : Name) → IsTrue (has r.swept.items n) ↔ (IsTrue (has (drained_by m parts r) n) × ¬ Reachable m.state n)

-- the report of a pause has each name of these parts, and each promoted, newly stuck and swept one, once and in some order, and nothing is
-- told yet
pub record Tells (r : Report) (parts : PauseParts) (m : Moment) : Type 0 where
  pub number : r.number ≡ m.number + 1
  pub dead : r.dead.items ≡ parts.first_dead ++ (parts.second_dead ++ parts.third_dead)
  pub first : (n : Name) → IsTrue (has parts.first_dead n) ↔ Dead m.last m.unreclaimed m.stuck n
  pub raised : AreRaised (survived m parts.first_dead) r.promoted.items r.stuck.items
  pub drained : DiesBy m parts r (is_draining r.kind)
  pub swept : IsSweptBy m parts r r.kind
  pub distinct : HasDistinctNames r
  pub counts : r.counts.items ≡ []
  pub told : r.told.items ≡ []

-- Counting and tracing are done: the report tells what died and was promoted, stuck and swept, and the space holds the moment that it
-- leads to. Promoted objects are copied where lines fit them, apart from what lives on, those that stood in Chosen blocks as a trace ended are
-- moved out of them, and registers hold the new places. Lists stay, and blocks are chosen and released by the kind. A line is out where it has a
-- moved object. Nothing else has changed, but that the list of decrements is that of the next pause, the remembered set and mark and gray bits
-- are those that the kind asks for, the tracing word tells whether a trace runs, and what was moved and kept is counted.
pub record Settles (before after : Space) (g : AbstractState) (at' : Name → ℕ) (parts : PauseParts) (moved kept : List Name) : Type 0 where
  pub tells : Tells after.report parts g.moment
  pub holds : HoldsMoment after (settled_by g.moment parts after.report) at'
  pub undecremented : IsUndecremented (tables_of after) (settled_by g.moment parts after.report) at'
  pub evacuates : Evacuates before after g at' (settled_by g.moment parts after.report).unreclaimed moved kept
  pub relocates : Relocates before after g at' (settled_by g.moment parts after.report).unreclaimed after.report.promoted.items moved
  pub apart : CopiesLieApart before g at' after.report.promoted.items
  pub stay : StayForWantOfLines (tables_of before) (tables_of after) before.limits.blocks g.moment g.at at' after.report.promoted.items (IsLetGo g at' (report_of after.report))
  pub traced : IsTracedBy after.limits (tables_of after) [] (at_moment (standing g at') (settled_by g.moment parts after.report)) (settled_by g.moment parts after.report).trace
  pub trace : after.trace ≡ option_map (λ (trace : Trace). trace.began) (settled_by g.moment parts after.report).trace
  pub queues : QueuesOldValues after.report.kind before after
  pub drained : IsDrained after (is_draining after.report.kind)
  pub no_logs : after.logged.items ≡ []
  pub outs : (line : ℕ) → IsTrue ((tables_of after).outs line) ↔ HasCopy g.moment.state.graph g.at at' moved line
  pub no_rest : moved ≡ [] → after.rest_next ≡ after.rest_end
  pub keeps : KeepsThroughPause (tables_of before) (tables_of after)
  pub remembered : LeavesRemembered after.report.kind (tables_of before) (tables_of after) before.limits.blocks
  pub draws : DrawsByKind after.report.kind before g parts (report_of after.report) ((tables_of before).cursors REMEMBERED_CURSOR) ((tables_of after).cursors REMEMBERED_CURSOR)
  pub chosen : ChoosesBlocks after.report.kind (tables_of before) (tables_of after) before.limits
  pub traces : Traces after.report.kind g.moment.trace before after g at' (report_of after.report) (settled_by g.moment parts after.report).unreclaimed
  pub tally : after.tally ≡ record before.tally { moved = before.tally.moved + length moved; kept = before.tally.kept + length kept }
  pub space : after ≡ record before {
    words = after.words;
    registers = record before.registers { items = after.registers.items };
    deferred = after.deferred;
    logged = after.logged;
    report = after.report;
    rest_next = after.rest_next;
    rest_end = after.rest_end;
    tally = after.tally;
    trace = after.trace;
  }
