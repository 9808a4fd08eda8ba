-- All actors keep what is remembered: mutators only clear unlogged bits, decrementers change nothing that it reads, and each step of a tracer keeps
-- it.
use Rattle.std.proofs.Common.{◌≡◌, ℕ, refl, sym, ap, subst, ◌∙◌, inl, inr, arith, false, true}
use Rattle.std.specs.Prelude.{Option, Some, None, slice_get}
use Rattle.lxr_layout.specs.declared.Name.{Name}
use Rattle.lxr_layout.specs.declared.TheConstants.{FREE_BLOCK_CURSOR, PAUSE_WORD, REMEMBERED_CURSOR, RUN_CURSOR}
use Rattle.lxr_image.specs.Tables.{Tables}
use Rattle.lxr_model.specs.Moments.{Moment, Trace}
use Rattle.lxr_invariant.proofs.EntryLemmas.{changed_cases, changed_other}
use Rattle.lxr_core_access.specs.declared.Access.{Access}
use Rattle.lxr_core_access.specs.Accesses.{done_to}
use Rattle.lxr_core_access.specs.Tracers.{Tracing}
use Rattle.lxr_core_invariant.specs.ThreadStates.{ThreadState}
use Rattle.lxr_core_invariant.specs.EpochStates.{Beginning, EpochState, limits_of, moment_of}
use Rattle.lxr_core_invariant.specs.Events.{Event}
use Rattle.lxr_core_invariant.specs.Events as event
use Rattle.lxr_core_invariant.specs.Happening.{happen, with_cursor, with_logged}
use Rattle.lxr_core_invariant.specs.Decremented.{MayTrace, decremented, traced}
use Rattle.lxr_core_invariant.specs.Remembered.{AreIdle, AreRemembered, AreRememberedIn, AreRememberedWhile}
use Rattle.lxr_core_invariant.specs.Epoch.{IsEpoch}
use Rattle.lxr_core_invariant.specs.Laws.{DecrementersKeepRemembered, RememberedIsKept, TracersKeepRemembered}
use Rattle.lxr_core_inv_counts.proofs.KeepingLemmas.{decrementers_are_sound}
use Rattle.lxr_core_inv_counts.proofs.StepLemmas.{after_access}
use Rattle.lxr_core_inv_trace.proofs.RememberedGroundLemmas.{ground_of, marks_snapshot, pause}
use Rattle.lxr_core_inv_trace.proofs.RememberedTurnLemmas.{KeepsRemembered, Moves, moved, remembered_still}
use Rattle.lxr_core_inv_trace.proofs.RememberedTracerLemmas.{tracer_moves}
use Rattle.lxr_core_inv_trace.proofs.RememberedIdleLemmas.{idle_stays}

-- what a tracer remembers for a trace
abbrev IsRememberedFor : Beginning → EpochState → Trace → Type 0
IsRememberedFor b s trace = AreRemembered (limits_of b) s.tables s.tracers b.abstract_state.moment b.abstract_state.at trace

-- what is shown of a trace that runs is enough
while_runs : (b : Beginning) (s z : EpochState) (o : Option Trace) → ((trace : Trace) → o ≡ Some trace → IsRememberedFor b s trace → IsRememberedFor b z trace) → AreRememberedWhile b s o → AreRememberedWhile b z o
while_runs b s z None on is = tt
while_runs b s z (Some trace) on is = on trace refl is

-- tracers are about to do what they were, and nothing that this reads of tables has changed
still_in : (b : Beginning) (s z : EpochState) → z.tracers ≡ s.tracers → KeepsRemembered s.tables z.tables → AreRememberedIn b s → AreRememberedIn b z
still_in b s z tracers same is = record {
  few_pauses = is.few_pauses;
  traced = while_runs b s z b.abstract_state.moment.trace
      (λ trace runs remembered. subst (λ ts. AreRemembered (limits_of b) z.tables ts b.abstract_state.moment b.abstract_state.at trace) (sym tracers)
      (remembered_still (limits_of b) s.tables z.tables s.tracers b.abstract_state.moment b.abstract_state.at trace same remembered))
      is.traced;
  idle = λ unchosen.
      let idle : AreIdle b s = is.idle unchosen in
      record { none = λ j d shows. idle.none j d (ap (λ ts. slice_get ts j) (sym tracers) ∙ shows); drawn = same.drawn ∙ idle.drawn };
}

-- ---- mutators

-- tables with another heap, or with a cursor put that isn't that of remembered entries
heap_keeps : (t : Tables) (heap : ℕ → ℕ) → KeepsRemembered t (record t { heap = heap })
heap_keeps t heap = record { keeps = record { unlogged = λ w k. k; reuse = refl; states = refl; drawn = omega arith }; marks = refl; remembered = refl; drawn = refl }

cursor_keeps : (t : Tables) (cursor value : ℕ) → ((REMEMBERED_CURSOR ≡ cursor) → ⊥) → KeepsRemembered t (with_cursor t cursor value)
cursor_keeps t cursor value other =
    let same = changed_other t.cursors cursor value REMEMBERED_CURSOR other in
    record { keeps = record { unlogged = λ w k. k; reuse = refl; states = refl; drawn = omega (arith, same) }; marks = refl; remembered = refl; drawn = same }

-- tables with an unlogged bit cleared
logged_keeps : (t : Tables) (w : ℕ) → KeepsRemembered t (with_logged t w)
logged_keeps t w = record {
  keeps = record {
    unlogged = λ k set. elim (changed_cases t.unlogged w false k) [ inl q ↦ absurd (let both : false ≡ true = sym q.1 ∙ set in cc) | inr q ↦ sym q.1 ∙ set ];
    reuse = refl;
    states = refl;
    drawn = omega arith;
  };
  marks = refl;
  remembered = refl;
  drawn = refl;
}

-- each event leaves what this reads
event_remembered : (b : Beginning) (s : EpochState) (i : ℕ) (v : ThreadState) (e : Event) → AreRememberedIn b s → AreRememberedIn b (happen b s i v e)
event_remembered b s i v event.Stays is = is
event_remembered b s i v (event.PutsValue o place refs index value) is = still_in b s (happen b s i v (event.PutsValue o place refs index value)) refl (heap_keeps s.tables _) is
event_remembered b s i v (event.AddsValue o place refs index value) is = still_in b s (happen b s i v (event.AddsValue o place refs index value)) refl (heap_keeps s.tables _) is
event_remembered b s i v (event.ClearsFirst e n) is = still_in b s (happen b s i v (event.ClearsFirst e n)) refl (logged_keeps s.tables _) is
event_remembered b s i v (event.StoresReference o place index value) is = still_in b s (happen b s i v (event.StoresReference o place index value)) refl (heap_keeps s.tables _) is
event_remembered b s i v (event.SwapsReference o dest place index value) is = still_in b s (happen b s i v (event.SwapsReference o dest place index value)) refl (heap_keeps s.tables _) is
event_remembered b s i v event.DrawsRun is = still_in b s (happen b s i v event.DrawsRun) refl (cursor_keeps s.tables RUN_CURSOR _ (λ e. absurd (omega (arith, e)))) is
event_remembered b s i v event.DrawsBlock is = still_in b s (happen b s i v event.DrawsBlock) refl (cursor_keeps s.tables FREE_BLOCK_CURSOR _ (λ e. absurd (omega (arith, e)))) is
event_remembered b s i v (event.Wipes place shape wiped) is = still_in b s (happen b s i v (event.Wipes place shape wiped)) refl (heap_keeps s.tables _) is
event_remembered b s i v (event.MakesObject o dest place shape) is = still_in b s (happen b s i v (event.MakesObject o dest place shape)) refl (heap_keeps s.tables _) is
event_remembered b s i v (event.Asks o r) is = still_in b s (happen b s i v (event.Asks o r)) refl (cursor_keeps s.tables PAUSE_WORD _ (λ e. absurd (omega (arith, e)))) is
event_remembered b s i v (event.Leaves why) is = still_in b s (happen b s i v (event.Leaves why)) refl (cursor_keeps s.tables PAUSE_WORD _ (λ e. absurd (omega (arith, e)))) is
event_remembered b s i v e is = still_in b s (happen b s i v e) refl (heap_keeps s.tables s.tables.heap) is

pub remembered_is_kept : RememberedIsKept
remembered_is_kept b s i v e is shown may = event_remembered b s i v e is.remembered

-- ---- decrementers

pub decrementers_keep_remembered : DecrementersKeepRemembered
decrementers_keep_remembered b s i access after is may =
    let sound = decrementers_are_sound b s i access after is may in
    let rest = sound.0.leaves.rest in
    let drawn = sound.1.drawn in
    still_in b s (decremented s i access after) refl
    (record {
      keeps = record {
        unlogged = λ w set. ap (λ (z : Tables). z.unlogged w) (sym rest) ∙ set;
        reuse = ap (λ (z : Tables). z.reuse) rest;
        states = ap (λ (z : Tables). z.states) rest;
        drawn = omega (arith, drawn);
      };
      marks = sound.1.marks;
      remembered = sound.1.remembered;
      drawn = drawn;
    })
    is.remembered

-- ---- tracers

module _ (b : Beginning) (s : EpochState) (i : ℕ) (access : Access) (after : Tracing) (is : IsEpoch b s) (may : MayTrace b s i access after) where
  abbrev m : Moment
  m = b.abstract_state.moment

  abbrev at : Name → ℕ
  at = b.abstract_state.at

  step_on : (trace : Trace) → m.trace ≡ Some trace → IsRememberedFor b s trace → IsRememberedFor b (traced s i access after) trace
  step_on trace runs remembered =
      let runs_now : (moment_of b s).trace ≡ Some trace = (pause b s is).trace ∙ runs in
      let moves = tracer_moves (limits_of b) s.tables m at (ground_of b s is) trace (λ snapshot names. marks_snapshot b s is trace snapshot runs_now names)
      may.before may.steps.about after (is.scanned.knows i may.before may.shows) (remembered.knows i may.before may.shows) may.steps.attempts may.steps.goes in
      moved (limits_of b) s.tables (done_to s.tables access) s.tracers m at trace i may.before after remembered may.shows
      (subst (λ (o : Option Access). Moves (limits_of b) s.tables (after_access s.tables o) m at trace may.before after) may.steps.access_is moves)

  step_remembered : AreRememberedIn b (traced s i access after)
  step_remembered = record {
    few_pauses = is.remembered.few_pauses;
    traced = while_runs b s (traced s i access after) m.trace step_on is.remembered.traced;
    idle = λ unchosen. idle_stays b s is unchosen i access after may;
  }

pub tracers_keep_remembered : TracersKeepRemembered
tracers_keep_remembered b s i access after is may = step_remembered b s i access after is may
