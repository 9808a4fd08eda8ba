-- A unit that finds nothing has gone through its whole pocket: a helper turns to anything else only once its pocket is empty.
use Rattle.std.proofs.Common.{◌≡◌, ◌∙◌, ℕ, ◌+◌, List, [], ◌∷◌, ◌++◌, Bool, true, false, Option, Some, None, refl, sym, ap, subst}
use Rattle.std.specs.Prelude.{◌&&◌, ◌||◌, nat_eq, nat_lt, slice_index}
use Rattle.lxr_layout.specs.declared.TheConstants.{STUCK}
use Rattle.lxr_layout.specs.declared.Place.{Place}
use Rattle.lxr_layout.specs.declared.limits.Regions.{Regions}
use Rattle.lxr_actor.specs.Run.{run}
use Rattle.lxr_helper.specs.Words.{has_bit, references_in, referent_in}
use Rattle.lxr_helper.specs.Helpers.{Outcome}
use Rattle.lxr_helper.proofs.HelperLemmas.{either}
use Rattle.lxr_helper.proofs.DrainLemmas as lemma
use Rattle.lxr_decrement.specs.declared.phases.DecEnd.{DecEnd}
use Rattle.lxr_decrement.specs.declared.phases.Handling.{Handling}
use Rattle.lxr_decrement.specs.declared.phases.Handling.TheVariants.{Entry, References}
use Rattle.lxr_decrement.specs.declared.phases.DecrementerPhase.{DecrementerPhase}
use Rattle.lxr_decrement.specs.declared.phases.DecrementerPhase.TheVariants as dec
use Rattle.lxr_decrement.specs.Decrementing.{DecrementerState, rests_in as dec_rests_in}
use Rattle.lxr_decrement.specs.Words.{count_in}
use Rattle.lxr_decrement.specs.Steps.{decrementer_work}
use Rattle.lxr_decrement.specs.Steps as decrementer
use Rattle.lxr_decrement.specs.Lawful.{decrementer_lawful}
use Rattle.lxr_trace.specs.declared.phases.Scan.{Scan}
use Rattle.lxr_trace.specs.declared.phases.TraceEnd.{TraceEnd}
use Rattle.lxr_trace.specs.declared.phases.TracerPhase.{TracerPhase}
use Rattle.lxr_trace.specs.declared.phases.TracerPhase.TheVariants as tra
use Rattle.lxr_trace.specs.Tracing.{TracerState, rests_in as trace_rests_in}
use Rattle.lxr_trace.specs.Words.{is_chosen, remember_room}
use Rattle.lxr_trace.specs.Steps.{tracer_work}
use Rattle.lxr_trace.specs.Steps as tracer
use Rattle.lxr_trace.specs.Lawful.{tracer_lawful}
use Rattle.lxr_core.specs.declared.actors.AnyActor.{AnyActor}
use Rattle.lxr_core.specs.declared.actors.AnyActor.TheVariants as any
use Rattle.lxr_core.specs.Actors.{any_machine}
use Rattle.lxr_shared_passes.specs.Passing.{DoesStep, GoesOn, Passing, Turned}
use Rattle.lxr_shared.proofs.UnitEnds.{acted_actor}

-- ---- decrementers

-- it has turned to the list of decrements
abbrev asks_list : DecrementerPhase → Bool
asks_list dec.AsksCursor = true
asks_list (dec.AsksNumber cursor) = true
asks_list (dec.Draws count) = true
asks_list p = false

abbrev pub DecDrained : DecrementerState → Type 0
DecDrained d = lemma.Drained decrementer_work decrementer_lawful asks_list d

abbrev DecWithin : Outcome DecrementerPhase DecEnd → Type 0
DecWithin o = lemma.StaysWithin decrementer_work decrementer_lawful asks_list o

handled : (handling : Handling) → DecWithin (decrementer.handled handling)
handled Entry = refl
handled (References place refs next traced) = either DecWithin (nat_lt next refs) _ _ (λ e. refl) (λ e. refl)

entered : (place : Option Place) → DecWithin (decrementer.entered place)
entered None = refl
entered (Some referent) = refl

dec_referred : (place : Place) (refs index : ℕ) (traced : Bool) (referent : Option Place) → DecWithin (decrementer.referred place refs index traced referent)
dec_referred place refs index traced None = handled (References place refs (index + 1) traced)
dec_referred place refs index false (Some referent) = refl
dec_referred place refs index true (Some referent) = refl

dec_stays : (r : Regions) (p : DecrementerPhase) (word : ℕ) → dec_rests_in p ≡ false → asks_list p ≡ false → DecWithin (decrementer.leads_in r p word)
dec_stays r dec.Resting word busy asks = absurd (cc)
dec_stays r (dec.AsksCount place) word busy asks = refl
dec_stays r (dec.AsksStart place uncounted) word busy asks = either DecWithin (uncounted && has_bit place word) _ _ (λ e. refl) (λ e. tt)
dec_stays r (dec.Claims place) word busy asks = either DecWithin (has_bit place word) _ _ (λ e. tt) (λ e. refl)
dec_stays r (dec.ReadsHeader place) word busy asks = refl
dec_stays r (dec.AsksTracing place refs) word busy asks = handled (References place refs 0 (nat_eq word 1))
dec_stays r (dec.ReadsReference place refs index traced) word busy asks = dec_referred place refs index traced (referent_in r word)
dec_stays r (dec.MakesGray place refs index referent) word busy asks = refl
dec_stays r (dec.AsksLowered referent handling) word busy asks =
    either DecWithin (nat_eq (count_in referent word) 0 || nat_eq (count_in referent word) STUCK) _ _ (λ e. handled handling) (λ e. refl)
dec_stays r (dec.Lowers referent handling) word busy asks = handled handling
dec_stays r dec.AsksCursor word busy asks = absurd (cc)
dec_stays r (dec.AsksNumber cursor) word busy asks = absurd (cc)
dec_stays r (dec.Draws count) word busy asks = absurd (cc)
dec_stays r (dec.ReadsEntry number) word busy asks = entered (referent_in r word)

dec_keeps : (p : DecrementerPhase) (word : ℕ) → asks_list p ≡ true → decrementer.keeps_in p word ≡ None
dec_keeps (dec.Lowers referent handling) word asks = absurd (cc)
dec_keeps p word asks = refl

dec_turns : lemma.TurnsByRule decrementer_work decrementer_lawful asks_list
dec_turns = record { rests = refl; asks = λ place. refl; stays = dec_stays; keeps = dec_keeps }

-- ---- tracers

-- it has turned to the tracing word
abbrev finds_nothing : TracerPhase → Bool
finds_nothing tra.FindsNothing = true
finds_nothing p = false

abbrev pub TraceDrained : TracerState → Type 0
TraceDrained t = lemma.Drained tracer_work tracer_lawful finds_nothing t

abbrev TraceWithin : Outcome TracerPhase TraceEnd → Type 0
TraceWithin o = lemma.StaysWithin tracer_work tracer_lawful finds_nothing o

scan_ends : (overflowed : Bool) → tracer.is_nothing (tracer.end_of overflowed) ≡ false
scan_ends true = refl
scan_ends false = refl

at_reference : (scan : Scan) → TraceWithin (tracer.at_reference scan)
at_reference scan = either TraceWithin (nat_lt scan.index scan.refs) _ _ (λ e. refl) (λ e. scan_ends scan.overflowed)

scanned : (scan : Scan) → TraceWithin (tracer.scanned scan)
scanned scan = at_reference (record scan { index = scan.index + 1 })

trace_referred : (scan : Scan) (referent : Option Place) → TraceWithin (tracer.referred scan referent)
trace_referred scan None = scanned scan
trace_referred scan (Some referent) = refl

trace_stays : (r : Regions) (p : TracerPhase) (word : ℕ) → trace_rests_in p ≡ false → finds_nothing p ≡ false → TraceWithin (tracer.leads_in r p word)
trace_stays r tra.Resting word busy asks = absurd (cc)
trace_stays r (tra.AsksGray place) word busy asks = refl
trace_stays r (tra.AsksObject place gray) word busy asks = either TraceWithin (gray && has_bit place word) _ _ (λ e. refl) (λ e. tt)
trace_stays r (tra.Marks place) word busy asks = either TraceWithin (has_bit place word) _ _ (λ e. tt) (λ e. refl)
trace_stays r (tra.ReadsShape place) word busy asks = at_reference (tracer.scan_from_first place (references_in r place word))
trace_stays r (tra.Scans scan) word busy asks = trace_referred scan (referent_in r word)
trace_stays r (tra.AsksReferent scan referent) word busy asks = either TraceWithin (has_bit referent word) _ _ (λ e. refl) (λ e. scanned scan)
trace_stays r (tra.GraysReferent scan referent) word busy asks = refl
trace_stays r (tra.AsksBlock scan referent) word busy asks = either TraceWithin (is_chosen word) _ _ (λ e. refl) (λ e. scanned scan)
trace_stays r (tra.ReadsReuse scan) word busy asks = refl
trace_stays r (tra.DrawsNumber scan counter) word busy asks = either TraceWithin (nat_lt word (remember_room r)) _ _ (λ e. refl) (λ e. scanned (record scan { overflowed = true }))
trace_stays r (tra.Enters scan counter number) word busy asks = scanned scan
trace_stays r tra.FindsNothing word busy asks = absurd (cc)

trace_keeps : (p : TracerPhase) (word : ℕ) → finds_nothing p ≡ true → tracer.keeps_in p word ≡ None
trace_keeps (tra.GraysReferent scan referent) word asks = absurd (cc)
trace_keeps p word asks = refl

trace_turns : lemma.TurnsByRule tracer_work tracer_lawful finds_nothing
trace_turns = record { rests = refl; asks = λ place. refl; stays = trace_stays; keeps = trace_keeps }

-- ---- turns

-- so it is of any helper
abbrev pub IsDrained : AnyActor → Type 0
IsDrained (any.Mutator m) = Unit {0}
IsDrained (any.Decrementer d) = DecDrained d
IsDrained (any.Tracer t) = TraceDrained t

after_drained : (a : AnyActor) (old : ℕ) → (any_machine.rests a ≡ false → IsDrained a) → IsDrained (any_machine.after a old)
after_drained (any.Mutator m) old before = tt
after_drained (any.Decrementer d) old before = lemma.after_drained decrementer_work decrementer_lawful asks_list dec_turns d old before
after_drained (any.Tracer t) old before = lemma.after_drained tracer_work tracer_lawful finds_nothing trace_turns t old before

step_drained : (p q : Passing AnyActor) (old : ℕ) → DoesStep any_machine p old q → (any_machine.rests p.actor ≡ false → IsDrained p.actor) → IsDrained q.actor
step_drained p q old d before =
    let words = (run any_machine p.opening (p.seen ++ d.1)).words in
    let after : q.actor ≡ any_machine.after p.actor (slice_index words d.0.word) = ap (λ (r : Passing AnyActor). r.actor) d.4.2 ∙ acted_actor words p.actor d.0 d.2 in
    subst IsDrained (sym after) (after_drained p.actor (slice_index words d.0.word) before)

goes_drained : (olds : List ℕ) (p q : Passing AnyActor) → GoesOn any_machine p olds q → IsDrained p.actor → IsDrained q.actor
goes_drained [] p q t before = subst (λ (r : Passing AnyActor). IsDrained r.actor) (sym t) before
goes_drained (old ∷ olds) p q t before = goes_drained olds t.1.0 q t.1.2 (step_drained p t.1.0 old t.1.1 (λ busy. before))

-- a finished helper's pocket is empty
finished_drained : (a : AnyActor) → any_machine.action a ≡ None → IsDrained a
finished_drained (any.Mutator m) none = tt
finished_drained (any.Decrementer d) none = lemma.finished_drained decrementer_work decrementer_lawful asks_list dec_turns d none
finished_drained (any.Tracer t) none = lemma.finished_drained tracer_work tracer_lawful finds_nothing trace_turns t none

-- So it is behind each turn, whatever was in the pocket before.
pub turn_drains : (olds : List ℕ) (p q : Passing AnyActor) → any_machine.rests p.actor ≡ true → Turned any_machine p olds q → IsDrained q.actor
turn_drains [] p q rests t = subst (λ (r : Passing AnyActor). IsDrained r.actor) (sym t.1) (finished_drained p.actor t.0)
turn_drains (old ∷ olds) p q rests t = goes_drained olds t.0 q t.2 (step_drained p t.0 old t.1 (λ busy. absurd (cc)))
