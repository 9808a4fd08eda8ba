-- Each step of a pause that begins a trace, ends one or collects finds what it asks for.
use Rattle.std.proofs.Common.{◌≡◌, ◌≢◌, ℕ, ◌+◌, ◌*◌, ◌≤◌, refl, sym, ap, subst, ◌∙◌, arith, List, [], ◌++◌, IsTrue, length}
use Rattle.std.specs.Prelude.{Option, Some, None}
use Rattle.std.proofs.lemmas.List.{length-append}
use Rattle.lxr_layout.specs.declared.Name.{Name}
use Rattle.lxr_layout.specs.declared.TheConstants.{DECREMENT_COUNT, DECREMENT_CURSOR, GRANULES_IN_BLOCK, REMEMBERED_CURSOR}
use Rattle.lxr_graph.specs.Names.{has}
use Rattle.lxr_graph.proofs.NameSets.{not_both}
use Rattle.lxr_image.specs.declared.space.Space.{Space}
use Rattle.lxr_image.specs.Tables.{Tables}
use Rattle.lxr_image.specs.Spaces.{Turns, tables_of}
use Rattle.lxr_image.specs.Reads.{granule_of}
use Rattle.lxr_blocks.specs.declared.states.BlockState.TheVariants.{Chosen}
use Rattle.lxr_blocks.specs.States.{state_in}
use Rattle.lxr_model.specs.Moments.{Moment, Trace}
use Rattle.lxr_model.specs.Reachable.{Reachable}
use Rattle.lxr_model_counting.specs.Garbage.{IsGarbageOf}
use Rattle.lxr_invariant.specs.AbstractState.{AbstractState}
use Rattle.lxr_invariant.specs.Counting.{IsUndecremented, passing}
use Rattle.lxr_invariant.specs.Lines.{HasBlocks, FreeAreUnused}
use Rattle.lxr_invariant.specs.Quiescent.{HoldsMoment}
use Rattle.lxr_invariant.specs.Settled.{IsSettled}
use Rattle.lxr_invariant.specs.Tracing.{IsTracedBy, TraceHolds}
use Rattle.lxr_invariant.proofs.EntryLemmas.{changed_other, passing_few}
use Rattle.lxr_invariant.proofs.FrameLemmas.{undecremented_still}
use Rattle.lxr_remset.specs.Remembering.{CanRemember, with_remembered_of}
use Rattle.lxr_evac_blocks.specs.Releasing.{with_releases}
use Rattle.lxr_pause_decrements.specs.Finishing.{CanFinish, Finishes, HandledAreTraced}
use Rattle.lxr_pause_trace_laws.specs.Laws.{FindsGarbage, RemembersMarked, at_moment}
use Rattle.lxr_pause_trace_laws.proofs.EndRememberedLemmas.{end_remembered as remembered_at_end}
use Rattle.lxr_pause_trace_laws.proofs.EndLemmas.{collect_finds, end_finds}
use Rattle.lxr_pause_trace_laws.proofs.FinishingLemmas.{finishing_keeps}
use Rattle.lxr_pause_trace.specs.Tracing.{BeginsTrace, CanFinishTrace, CanTrace, FinishesTrace}
use Rattle.lxr_sweep_unmarked.specs.Sweeping.{CanSweep}
use Rattle.lxr_one_pause.specs.Pausing.{KeepsObjects}
use Rattle.lxr_one_pause.specs.Tracing.{CanDrain, CanEnd, drained}
use Rattle.lxr_one_pause.proofs.BlocksLemmas.{released_blocks, was_so, released_free}
use Rattle.lxr_one_pause.proofs.FrameLemmas.{IsReworded, holds_then, rest_then}
use Rattle.lxr_one_pause.proofs.RememberedLemmas.{changed_twice, remember_still, with_same}
use Rattle.lxr_invariant.proofs.UnusedLemmas.{unused_by_lines}

-- where nothing is done, nothing is asked of what is
none_handled : (t : Tables) (m : Moment) (at : Name → ℕ) (trace : Option Trace) → IsUndecremented t m at → HandledAreTraced t m at trace
none_handled t m at None is = tt
none_handled t m at (Some trace) is = λ u n h done f. not_both (t.dones (granule_of (at u))) done (is.none_done (granule_of (at u)))

-- ---- what is left as it was

-- What traces and releases leave as it was: all but marks and grays, the remembered set and the states of blocks.
pub record KeepsButMarks (before after : Space) : Type 0 where
  pub tables : tables_of after ≡ record (with_remembered_of (tables_of before) (tables_of after)) { marks = (tables_of after).marks; grays = (tables_of after).grays; states = (tables_of after).states }
  pub space : after ≡ record before { words = after.words }

pub keeps_two : (a b c : Space) → KeepsButMarks a b → KeepsButMarks b c → KeepsButMarks a c
keeps_two a b c first second = record {
  tables =
      second.tables
      ∙ ap (λ (t : Tables). record (with_remembered_of t (tables_of c)) { marks = (tables_of c).marks; grays = (tables_of c).grays; states = (tables_of c).states }) first.tables
      ∙ (λ i. record (tables_of a) {
        remembered = (tables_of c).remembered;
        cursors = changed_twice (tables_of a).cursors REMEMBERED_CURSOR ((tables_of b).cursors REMEMBERED_CURSOR) ((tables_of c).cursors REMEMBERED_CURSOR) i;
        marks = (tables_of c).marks;
        grays = (tables_of c).grays;
        states = (tables_of c).states;
      });
  space = second.space ∙ ap (λ (x : Space). record x { words = c.words }) first.space;
}

pub kept_cursor : (a b : Space) (k : ℕ) → KeepsButMarks a b → k ≢ REMEMBERED_CURSOR → (tables_of b).cursors k ≡ (tables_of a).cursors k
kept_cursor a b k keeps other = ap (λ (t : Tables). t.cursors k) keeps.tables ∙ changed_other (tables_of a).cursors REMEMBERED_CURSOR ((tables_of b).cursors REMEMBERED_CURSOR) k other

-- where the remembered set stays too
keeps_plainly : (a b : Space) → (tables_of b).remembered ≡ (tables_of a).remembered → (tables_of b).cursors REMEMBERED_CURSOR ≡ (tables_of a).cursors REMEMBERED_CURSOR
    → tables_of b ≡ record (tables_of a) { marks = (tables_of b).marks; grays = (tables_of b).grays; states = (tables_of b).states } → b ≡ record a { words = b.words } → KeepsButMarks a b
keeps_plainly a b entries cursor tables space = record {
  tables = tables ∙ ap (λ (t : Tables). record t { marks = (tables_of b).marks; grays = (tables_of b).grays; states = (tables_of b).states }) (sym (with_same (tables_of a) (tables_of b) entries cursor));
  space = space;
}

-- a trace that begins
pub keeps_begun : (a b : Space) (m : Moment) (at : Name → ℕ) → BeginsTrace a b m at → KeepsButMarks a b
keeps_begun a b m at begins = keeps_plainly a b (ap (λ (t : Tables). t.remembered) begins.tables) (ap (λ (t : Tables). t.cursors REMEMBERED_CURSOR) begins.tables)
    (begins.tables ∙ (λ i. record (tables_of a) { marks = (tables_of b).marks; grays = (tables_of b).grays; states = sym (ap (λ (t : Tables). t.states) begins.tables) i })) begins.space

-- one that is finished
pub keeps_finished : (a b : Space) (m : Moment) (at : Name → ℕ) → FinishesTrace a b m at → KeepsButMarks a b
keeps_finished a b m at traces = record {
  tables = traces.tables
      ∙ (λ i. record (with_remembered_of (tables_of a) (tables_of b)) { marks = (tables_of b).marks; grays = (tables_of b).grays; states = sym (ap (λ (t : Tables). t.states) traces.tables) i });
  space = traces.space;
}

-- a release
pub keeps_released : (a b : Space) (blocks : ℕ) → Turns a b (with_releases (tables_of a) blocks) → KeepsButMarks a b
keeps_released a b blocks turns = keeps_plainly a b (ap (λ (t : Tables). t.remembered) turns.tables) (ap (λ (t : Tables). t.cursors REMEMBERED_CURSOR) turns.tables)
    (turns.tables ∙ (λ i. record (tables_of a) {
      marks = sym (ap (λ (t : Tables). t.marks) turns.tables) i;
      grays = sym (ap (λ (t : Tables). t.grays) turns.tables) i;
      states = sym (ap (λ (t : Tables). t.states) turns.tables) i;
    }))
    turns.rest

-- ---- what each step asks

module _ (s : Space) (g : AbstractState) (can : CanDrain s g) where
  abbrev m : Moment
  m = g.moment

  pub can_finish : CanFinish s m g.at
  can_finish = record {
    holds = can.holds;
    handled = none_handled (tables_of s) m g.at m.trace can.undecremented;
    room = (let e = can.holds.room.report.dead in let few = passing_few (tables_of s).starts (GRANULES_IN_BLOCK * s.limits.blocks) in let dead = can.few_dead in omega (arith, e, few, dead));
  }

  module _ (found : Space) (gone : List Name) (finishes : Finishes s found m g.at gone) where
    abbrev pub left : Moment
    left = drained g gone

    pub settled_left : IsSettled left
    settled_left = record { same = can.settled.same; none_made = can.settled.none_made; none_written = can.settled.none_written }

    pub can_trace : CanTrace found left g.at
    can_trace = record { holds = finishes.holds; settled = settled_left }

    remembers_found : CanRemember m.trace (tables_of found)
    remembers_found = remember_still (tables_of s) (tables_of found) m.trace (finishes.keeps.cursors REMEMBERED_CURSOR (λ e. cc) (λ e. cc)) can.remembers

    -- a trace that runs may be finished
    pub can_finish_trace : CanFinishTrace found left g.at
    can_finish_trace = record { trace = can_trace; remembers = remembers_found }

    -- once blocks are released, one may begin
    module _ (released : Space) (releases : Turns found released (with_releases (tables_of found) found.limits.blocks)) where
      is_released : IsReworded found released found.trace
      is_released = record {
        same = releases.rest;
        agree = record { states = (with_releases (tables_of found) found.limits.blocks).states; cursors = (tables_of found).cursors; tables = releases.tables; drawn = refl; waiting = refl };
      }

      pub can_trace_released : CanTrace released left g.at
      can_trace_released = record {
        holds = holds_then found released found.trace is_released left left.trace g.at can.settled.none_made
            (rest_then found released found.trace is_released (λ b e. was_so (tables_of found) found.limits.blocks b (subst (λ t. state_in t b ≡ Chosen) releases.tables e)) finishes.holds.rest.rest)
            (subst (λ t. HasBlocks t found.limits left.trace) (sym releases.tables) (released_blocks (tables_of found) found.limits left.trace finishes.holds.blocks))
            (subst (λ t. FreeAreUnused t g.at left.unreclaimed) (sym releases.tables)
            (unused_by_lines (tables_of found) (with_releases (tables_of found) found.limits.blocks) g.at left.unreclaimed refl (released_free (tables_of found) found.limits.blocks) finishes.undecremented.positive finishes.holds.unused))
            finishes.holds;
        settled = settled_left;
      }

      -- and be finished
      pub can_finish_begun : (begun : Space) → BeginsTrace released begun left g.at → CanFinishTrace begun left g.at
      can_finish_begun begun begins = record {
        trace = record { holds = begins.holds; settled = settled_left };
        remembers = remember_still (tables_of found) (tables_of begun) m.trace (ap (λ (t : Tables). t.cursors REMEMBERED_CURSOR) begins.tables ∙ ap (λ (t : Tables). t.cursors REMEMBERED_CURSOR) releases.tables) remembers_found;
      }

    no_logs : found.logged.items ≡ []
    no_logs = ap (λ (x : Space). x.logged.items) finishes.space ∙ can.no_logs

    -- what isn't marked may be swept, where a trace has found the garbage
    module _ (traced : Space) (keeps : KeepsButMarks found traced) (holds : HoldsMoment traced left g.at) (IsGarbage : Name → Type 0) (finds : FindsGarbage traced left g.at IsGarbage) where
      same_starts : (tables_of traced).starts ≡ (tables_of found).starts
      same_starts = ap (λ (t : Tables). t.starts) keeps.tables

      same_blocks : traced.limits.blocks ≡ s.limits.blocks
      same_blocks = ap (λ (x : Space). x.limits.blocks) keeps.space ∙ ap (λ (x : Space). x.limits.blocks) finishes.space

      dead_are : traced.report.dead.items ≡ s.report.dead.items ++ gone
      dead_are = ap (λ (x : Space). x.report.dead.items) keeps.space ∙ ap (λ (x : Space). x.report.dead.items) finishes.space

      swept_are : traced.report.swept.items ≡ []
      swept_are = ap (λ (x : Space). x.report.swept.items) keeps.space ∙ ap (λ (x : Space). x.report.swept.items) finishes.space ∙ can.none_swept

      pub undecremented_traced : IsUndecremented (tables_of traced) left g.at
      undecremented_traced =
          undecremented_still (tables_of found) (tables_of traced) left g.at (ap (λ (t : Tables). t.dones) keeps.tables) (ap (λ (t : Tables). t.counts) keeps.tables)
          (kept_cursor found traced DECREMENT_CURSOR keeps (λ e. cc)) finishes.undecremented

      pub can_sweep : CanSweep traced left g.at
      can_sweep = record {
        holds = holds;
        settled = settled_left;
        undecremented = undecremented_traced;
        empty = kept_cursor found traced DECREMENT_COUNT keeps (λ e. cc) ∙ finishes.empty;
        roots = finds.roots;
        closed = finds.closed;
        dead_room = subst (λ f. length traced.report.dead.items + passing f (GRANULES_IN_BLOCK * traced.limits.blocks) ≤ traced.report.dead.room) (sym same_starts)
            (subst (λ b. length traced.report.dead.items + passing (tables_of found).starts (GRANULES_IN_BLOCK * b) ≤ traced.report.dead.room) (sym same_blocks)
            (let room = holds.room.report.dead in
            let same = same_blocks in
            let fewer = finishes.fewer in
            let few = passing_few (tables_of s).starts (GRANULES_IN_BLOCK * s.limits.blocks) in
            let dead = can.few_dead in
            let many = ap (λ (ns : List Name). length ns) dead_are ∙ length-append s.report.dead.items gone in
            omega (arith, room, same, fewer, few, dead, many)));
        swept_room = (
            let room = holds.room.report.swept in
            let few = passing_few (tables_of traced).starts (GRANULES_IN_BLOCK * traced.limits.blocks) in
            let none = ap (λ (ns : List Name). length ns) swept_are in
            omega (arith, room, few, none));
      }

-- ---- a trace that ends finds what was garbage as it began

module _ (s : Space) (g : AbstractState) (can : CanEnd s g) (found : Space) (gone : List Name) (finishes : Finishes s found g.moment g.at gone) where
  -- what holds of the trace once the dead are gone
  pub trace_found : TraceHolds found.limits (tables_of found) [] (at_moment g (drained g gone)) can.trace
  trace_found =
      let is : TraceHolds s.limits (tables_of s) [] g can.trace = subst (IsTracedBy s.limits (tables_of s) [] g) can.runs can.drains.traced in
      let there : TraceHolds s.limits (tables_of s) s.logged.items g can.trace = subst (λ es. TraceHolds s.limits (tables_of s) es g can.trace) (sym can.drains.no_logs) is in
      subst (λ es. TraceHolds found.limits (tables_of found) es (at_moment g (drained g gone)) can.trace) (no_logs s g can.drains found gone finishes)
      (finishing_keeps s found g can.trace gone can.drains.holds can.runs there finishes)

  module _ (traced : Space) (traces : FinishesTrace found traced (drained g gone) g.at) where
    pub end_traced : FindsGarbage traced (drained g gone) g.at (IsGarbageOf can.trace) × ((n : Name) → IsGarbageOf can.trace n → IsTrue (has (drained g gone).unreclaimed n))
    end_traced =
        let objects : KeepsObjects g.moment (Some can.trace) = subst (KeepsObjects g.moment) can.runs can.drains.objects in
        end_finds found traced (at_moment g (drained g gone)) can.trace (settled_left s g can.drains found gone finishes) objects.1 trace_found traces

    -- references into Chosen blocks are remembered then
    pub end_remembered : RemembersMarked found.limits (tables_of traced) (drained g gone) g.at can.trace
    end_remembered = remembered_at_end found traced (at_moment g (drained g gone)) can.trace (settled_left s g can.drains found gone finishes) can.runs trace_found traces

    pub can_sweep_ended : CanSweep traced (drained g gone) g.at
    can_sweep_ended = can_sweep s g can.drains found gone finishes traced (keeps_finished found traced (drained g gone) g.at traces) traces.holds (IsGarbageOf can.trace) end_traced.0

-- ---- one that is made as a whole finds what isn't reachable

module _ (s : Space) (g : AbstractState) (can : CanDrain s g) (found released begun traced : Space) (gone : List Name) (finishes : Finishes s found g.moment g.at gone)
    (releases : Turns found released (with_releases (tables_of found) found.limits.blocks)) (begins : BeginsTrace released begun (drained g gone) g.at) (traces : FinishesTrace begun traced (drained g gone) g.at) where
  pub collect_traced : FindsGarbage traced (drained g gone) g.at (λ n. ¬ Reachable g.moment.state n)
  collect_traced = collect_finds released begun traced (drained g gone) g.at (settled_left s g can found gone finishes) begins traces

  pub keeps_collected : KeepsButMarks found traced
  keeps_collected = keeps_two found released traced (keeps_released found released found.limits.blocks releases)
      (keeps_two released begun traced (keeps_begun released begun (drained g gone) g.at begins) (keeps_finished begun traced (drained g gone) g.at traces))

  -- so it may be swept there
  pub may_sweep : CanSweep traced (drained g gone) g.at
  may_sweep = can_sweep s g can found gone finishes traced keeps_collected traces.holds (λ n. ¬ Reachable g.moment.state n) collect_traced
