-- Numbers of the remembered set: its cursor is far from coming round, since no more references are remembered than there may be; and a tracer
-- that is about to write an entry has drawn a number below the room of the set.
use Rattle.std.proofs.Common.{◌≡◌, ℕ, ◌+◌, ◌*◌, ◌^◌, ◌<◌, ◌≤◌, arith}
use Rattle.std.specs.Prelude.{⊤, Option, Some, None, slice_get}
use Rattle.lxr_layout.specs.declared.limits.Limits.{Limits}
use Rattle.lxr_layout.specs.declared.TheConstants.{MOST_WORDS, REMEMBERED_CURSOR}
use Rattle.lxr_layout.specs.Spaces.{AreLimits}
use Rattle.lxr_image.specs.Tables.{Tables}
use Rattle.lxr_model.specs.Moments.{Trace, rememberable}
use Rattle.lxr_invariant.specs.Lines.{ChosenNeedTrace}
use Rattle.lxr_invariant.specs.Tracing.{IsTracedBy, most_remembered, unscanned_slots}
use Rattle.lxr_invariant.proofs.MostLemmas.{most_any_heap, parts_larger}
use Rattle.lxr_core_access.specs.Tracers.{Attempts, Tracing, begins, goes_on, pocket, nothing, DrawsNumber, Enters}
use Rattle.lxr_core_invariant.specs.EpochStates.{Beginning, EpochState, limits_of, opening_tables}
use Rattle.lxr_core_invariant.specs.Remembered.{AreIdle, AreRememberedWhile, undrawn}
use Rattle.lxr_core_invariant.specs.Epoch.{IsEpoch}

-- what a step that draws a number asks of the cursor, and one that writes an entry of its number
abbrev pub MayRemember : Limits → Tables → Tracing → Type 0
MayRemember l t (DrawsNumber place refs index counter) = t.cursors REMEMBERED_CURSOR + 1 < 2 ^ 64
MayRemember l t (Enters place refs index counter number) = number < l.remember
MayRemember l t _ = ⊤

-- a cursor that is no further than what may be remembered stays a word
cursor_far : (l : Limits) (cursor unscanned undrawn most pauses number : ℕ) → AreLimits l → cursor + unscanned + undrawn ≤ most → most ≤ most_remembered l * (number + 1) → pauses ≡ number → pauses < 2 ^ 32 → cursor + 1 < 2 ^ 64
cursor_far l cursor unscanned undrawn most pauses number are bound few same short =
    let far = parts_larger (most_remembered l) (2 * MOST_WORDS) most number few (most_any_heap l are) in
    omega (arith, bound, far, same, short)

module _ (b : Beginning) (s : EpochState) (is : IsEpoch b s) where
  -- while a trace runs
  number_while : (trace : Trace) → IsTracedBy (limits_of b) (opening_tables b) b.space.logged.items b.abstract_state (Some trace) → AreRememberedWhile b s (Some trace)
      → s.tables.cursors REMEMBERED_CURSOR + 1 < 2 ^ 64
  number_while trace began remembered =
      cursor_far (limits_of b) (s.tables.cursors REMEMBERED_CURSOR) (unscanned_slots s.tables b.abstract_state.moment b.abstract_state.at began.snapshot) (undrawn b.abstract_state.moment b.abstract_state.at s.tracers)
      (rememberable trace began.snapshot) b.space.pauses b.abstract_state.moment.number is.begins.between.safepoint.holds.space.limits (remembered.bound began.snapshot began.reachable) began.few is.begins.between.safepoint.numbers.pauses is.remembered.few_pauses

  -- where a tracer is about to draw, a trace runs
  far_by : (o : Option Trace) → ChosenNeedTrace (opening_tables b) (limits_of b).blocks o → IsTracedBy (limits_of b) (opening_tables b) b.space.logged.items b.abstract_state o → AreRememberedWhile b s o
      → (i place refs index counter : ℕ) → slice_get s.tracers i ≡ Some (DrawsNumber place refs index counter) → s.tables.cursors REMEMBERED_CURSOR + 1 < 2 ^ 64
  far_by None chosen began remembered i place refs index counter shows = let idle : AreIdle b s = is.remembered.idle chosen in absurd (idle.none i (DrawsNumber place refs index counter) shows tt)
  far_by (Some trace) chosen began remembered i place refs index counter shows = number_while trace began remembered

  within_by : (o : Option Trace) → ChosenNeedTrace (opening_tables b) (limits_of b).blocks o → AreRememberedWhile b s o
      → (i place refs index counter number : ℕ) → slice_get s.tracers i ≡ Some (Enters place refs index counter number) → number < (limits_of b).remember
  within_by None chosen remembered i place refs index counter number shows = let idle : AreIdle b s = is.remembered.idle chosen in absurd (idle.none i (Enters place refs index counter number) shows tt)
  within_by (Some trace) chosen remembered i place refs index counter number shows = (remembered.knows i (Enters place refs index counter number) shows).within

  -- each tracer may do what it is about to do
  knows_numbers : (i : ℕ) (d : Tracing) → slice_get s.tracers i ≡ Some d → MayRemember (limits_of b) s.tables d
  knows_numbers i (DrawsNumber place refs index counter) shows =
      far_by b.abstract_state.moment.trace is.begins.between.safepoint.holds.blocks.chosen is.begins.between.safepoint.traced is.remembered.traced i place refs index counter shows
  knows_numbers i (Enters place refs index counter number) shows =
      within_by b.abstract_state.moment.trace is.begins.between.safepoint.holds.blocks.chosen is.remembered.traced i place refs index counter number shows
  knows_numbers i _ shows = tt

  -- so it is with what it tries first in a unit
  pub may_remember : (i : ℕ) (before about : Tracing) → slice_get s.tracers i ≡ Some before → Attempts (limits_of b).blocks before about → MayRemember (limits_of b) s.tables about
  may_remember i before about shows (begins d (pocket place some within)) = tt
  may_remember i before about shows (begins d (nothing)) = tt
  may_remember i before about shows (goes_on d) = knows_numbers i before shows
