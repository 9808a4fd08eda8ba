-- Marks stay inside the snapshot of the trace that runs, if one does: from the opening of an epoch, by each step, to its close.
use Rattle.std.proofs.Common.{◌≡◌, ℕ, refl, sym, ap, subst, ◌∙◌, List}
use Rattle.std.specs.Prelude.{Option, Some, None, IsTrue, slice_get}
use Rattle.lxr_layout.specs.declared.Name.{Name}
use Rattle.lxr_layout.specs.declared.LogEntry.{LogEntry}
use Rattle.lxr_layout.specs.declared.limits.Limits.{Limits}
use Rattle.lxr_graph.specs.declared.Op.{Op}
use Rattle.lxr_graph.specs.Names.{has}
use Rattle.lxr_image.specs.Tables.{Tables}
use Rattle.lxr_model.specs.Moments.{Moment, Trace, moment}
use Rattle.lxr_invariant.specs.AbstractState.{AbstractState}
use Rattle.lxr_invariant.specs.Tracing.{IsTracedBy}
use Rattle.lxr_core_access.specs.Tracers.{Tracing}
use Rattle.lxr_core_invariant.specs.ThreadStates.{ThreadState}
use Rattle.lxr_core_invariant.specs.EpochStates.{Beginning, EpochState, limits_of, moment_of, opening_tables}
use Rattle.lxr_core_invariant.specs.Events.{Event}
use Rattle.lxr_core_invariant.specs.Events as event
use Rattle.lxr_core_invariant.specs.Covered.{grayed_by}
use Rattle.lxr_core_invariant.specs.Happening.{happen, with_call}
use Rattle.lxr_core_invariant.specs.Decremented.{decremented, traced}
use Rattle.lxr_core_invariant.specs.Inside.{MarksStayInsideIn, StaysInside, StaysInsideWhile}
use Rattle.lxr_core_invariant.specs.Epoch.{IsEpoch, TracersRest}
use Rattle.lxr_core_invariant.specs.Laws.{ClosingInside, DecrementersKeepInside, InsideIsKept, OpeningInside, TracersKeepInside}
use Rattle.lxr_core_invariant.proofs.ActingLemmas.{acts}
use Rattle.lxr_core_inv_trace.proofs.InsideMutatorLemmas.{HasSameBits, bits_stay, call_stays, next_elsewhere}
use Rattle.lxr_core_inv_trace.proofs.InsideDecrementerLemmas.{decrement_inside}
use Rattle.lxr_core_inv_trace.proofs.InsideTracerLemmas.{trace_inside}

-- marks of an epoch state are inside a snapshot
abbrev IsInsideOf : Beginning → EpochState → Trace → Type 0
IsInsideOf b s trace = StaysInside s.tables (moment_of b s) s.at s.tracers trace

-- it is enough to speak of the trace that runs
while : (b : Beginning) (s z : EpochState) (o : Option Trace) → ((trace : Trace) → o ≡ Some trace → IsInsideOf b s trace → IsInsideOf b z trace) → StaysInsideWhile b s o → StaysInsideWhile b z o
while b s z None keeps is = tt
while b s z (Some trace) keeps is = keeps trace refl is

-- ---- mutators

-- an event by which no operation comes to stand in the history: all that marks are told of stays
record IsQuiet (s z : EpochState) : Type 0 where
  bits : HasSameBits s.tables z.tables
  history : z.history ≡ s.history
  at : z.at ≡ s.at
  tracers : z.tracers ≡ s.tracers

quiet_inside : (b : Beginning) (s z : EpochState) → IsQuiet s z → MarksStayInsideIn b s → MarksStayInsideIn b z
quiet_inside b s z quiet is =
    let same : moment_of b z ≡ moment_of b s = ap (moment (limits_of b).threads) quiet.history in
    subst (λ (m : Moment). StaysInsideWhile b z m.trace) (sym same) (while b s z (moment_of b s).trace (λ trace runs inside.
    subst (λ (m : Moment). StaysInside z.tables m z.at z.tracers trace) (sym same)
    (subst (λ ts. StaysInside z.tables (moment_of b s) z.at ts trace) (sym quiet.tracers)
    (bits_stay s.tables z.tables (moment_of b s) s.at z.at s.tracers trace quiet.bits (λ n h. ap (λ f. f n) quiet.at) inside))) is)

-- an event by which one does
record IsCalled (b : Beginning) (s z : EpochState) (v : ThreadState) (o : Op) : Type 0 where
  bits : HasSameBits s.tables z.tables
  history : z.history ≡ with_call b s v o
  at : (n : Name) → IsTrue (has (moment_of b s).unreclaimed n) → z.at n ≡ s.at n
  tracers : z.tracers ≡ s.tracers

call_inside : (b : Beginning) (s z : EpochState) (i : ℕ) (v : ThreadState) (o : Op) → IsEpoch b s → slice_get s.thread_states i ≡ Some v → IsCalled b s z v o → MarksStayInsideIn b z
call_inside b s z i v o is shown called =
    let known = acts b s i v is shown in
    let now : Moment = moment_of b s in
    let after : Moment = moment (limits_of b).threads (with_call b s v o) in
    let same : moment_of b z ≡ after = ap (moment (limits_of b).threads) called.history in
    subst (λ (m : Moment). StaysInsideWhile b z m.trace) (sym same) (while b s z now.trace (λ trace runs inside.
    subst (λ (m : Moment). StaysInside z.tables m z.at z.tracers trace) (sym same)
    (subst (λ ts. StaysInside z.tables after z.at ts trace) (sym called.tracers)
    (bits_stay s.tables z.tables after s.at z.at s.tracers trace called.bits called.at (call_stays s.tables now s.at s.tracers trace v.thread o is.lives known.row known.thread inside)))) is.inside)

event_inside : (b : Beginning) (s : EpochState) (i : ℕ) (v : ThreadState) (e : Event) → IsEpoch b s → slice_get s.thread_states i ≡ Some v → MarksStayInsideIn b (happen b s i v e)
event_inside b s i v (event.DoesAtOnce o r registers) is shown =
    call_inside b s (happen b s i v (event.DoesAtOnce o r registers)) i v o is shown (record { bits = record { marks = refl; grays = refl; dones = refl }; history = refl; at = λ n h. refl; tracers = refl })
event_inside b s i v (event.FindsNone o) is shown =
    call_inside b s (happen b s i v (event.FindsNone o)) i v o is shown (record { bits = record { marks = refl; grays = refl; dones = refl }; history = refl; at = λ n h. refl; tracers = refl })
event_inside b s i v (event.LoadsReference o dest place index) is shown =
    call_inside b s (happen b s i v (event.LoadsReference o dest place index)) i v o is shown (record { bits = record { marks = refl; grays = refl; dones = refl }; history = refl; at = λ n h. refl; tracers = refl })
event_inside b s i v (event.GetsValue o place refs index) is shown =
    call_inside b s (happen b s i v (event.GetsValue o place refs index)) i v o is shown (record { bits = record { marks = refl; grays = refl; dones = refl }; history = refl; at = λ n h. refl; tracers = refl })
event_inside b s i v (event.PutsValue o place refs index value) is shown =
    call_inside b s (happen b s i v (event.PutsValue o place refs index value)) i v o is shown (record { bits = record { marks = refl; grays = refl; dones = refl }; history = refl; at = λ n h. refl; tracers = refl })
event_inside b s i v (event.AddsValue o place refs index value) is shown =
    call_inside b s (happen b s i v (event.AddsValue o place refs index value)) i v o is shown (record { bits = record { marks = refl; grays = refl; dones = refl }; history = refl; at = λ n h. refl; tracers = refl })
event_inside b s i v (event.StoresReference o place index value) is shown =
    call_inside b s (happen b s i v (event.StoresReference o place index value)) i v o is shown (record { bits = record { marks = refl; grays = refl; dones = refl }; history = refl; at = λ n h. refl; tracers = refl })
event_inside b s i v (event.SwapsReference o dest place index value) is shown =
    call_inside b s (happen b s i v (event.SwapsReference o dest place index value)) i v o is shown (record { bits = record { marks = refl; grays = refl; dones = refl }; history = refl; at = λ n h. refl; tracers = refl })
event_inside b s i v (event.MakesObject o dest place shape) is shown =
    call_inside b s (happen b s i v (event.MakesObject o dest place shape)) i v o is shown
    (record { bits = record { marks = refl; grays = refl; dones = refl }; history = refl; at = next_elsewhere (moment_of b s) s.at v.thread place is.lives; tracers = refl })
event_inside b s i v (event.Asks o r) is shown =
    call_inside b s (happen b s i v (event.Asks o r)) i v o is shown (record { bits = record { marks = refl; grays = refl; dones = refl }; history = refl; at = λ n h. refl; tracers = refl })
event_inside b s i v e is shown = quiet_inside b s (happen b s i v e) (record { bits = record { marks = refl; grays = refl; dones = refl }; history = refl; at = refl; tracers = refl }) is.inside

pub inside_is_kept : InsideIsKept
inside_is_kept b s i v e is shown may = event_inside b s i v e is shown

-- ---- helpers

pub decrementers_keep_inside : DecrementersKeepInside
decrementers_keep_inside counts b s i access after is may =
    while b s (decremented s i access after) (moment_of b s).trace (λ trace runs inside. decrement_inside b s is trace runs inside i access after may (counts b s i access after is may)) is.inside

pub tracers_keep_inside : TracersKeepInside
tracers_keep_inside b s i access after is may =
    while b s (traced s i access after) (moment_of b s).trace (λ trace runs inside. trace_inside b s is trace runs inside i access after may) is.inside

-- ---- the opening and the close

-- tracers that rest have nothing loaded
rests_unloaded : (s : EpochState) → TracersRest s → (i : ℕ) (d : Tracing) (p : ℕ) → slice_get s.tracers i ≡ Some d → grayed_by d ≡ Some p → ⊥
rests_unloaded s rest i d p shows e = let none : None ≡ Some p = sym (ap grayed_by (rest i d shows)) ∙ e in cc

-- what holds between epochs holds of other tables with the same bits
opening_while : (b : Beginning) (s : EpochState) (l : Limits) (t : Tables) (entries : List LogEntry) (g : AbstractState) (o : Option Trace) → HasSameBits t s.tables → moment_of b s ≡ g.moment → s.at ≡ g.at → TracersRest s
    → IsTracedBy l t entries g o → StaysInsideWhile b s o
opening_while b s l t entries g None bits same at rest holds = tt
opening_while b s l t entries g (Some trace) bits same at rest holds =
    subst (λ (m : Moment). StaysInside s.tables m s.at s.tracers trace) (sym same)
    (bits_stay t s.tables g.moment g.at s.at s.tracers trace bits (λ n h. ap (λ f. f n) at)
    (record { marks = holds.inside; loaded = λ i d n shows e h. absurd (rests_unloaded s rest i d (g.at n) shows e) }))

pub opening_inside : OpeningInside
opening_inside b s opens =
    let same : moment_of b s ≡ b.abstract_state.moment = ap (moment (limits_of b).threads) opens.history ∙ sym opens.begins.moment in
    subst (λ (m : Moment). StaysInsideWhile b s m.trace) (sym same)
    (opening_while b s (limits_of b) (opening_tables b) _ b.abstract_state b.abstract_state.moment.trace
    (record { marks = ap (λ z. z.marks) opens.tables; grays = ap (λ z. z.grays) opens.tables; dones = ap (λ z. z.dones) opens.tables }) same opens.at opens.tracers
    opens.begins.between.safepoint.traced)

pub closing_inside : ClosingInside
closing_inside b s trace is runs = let inside : StaysInsideWhile b s (Some trace) = subst (StaysInsideWhile b s) runs is.inside in inside.marks
