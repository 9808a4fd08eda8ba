-- What follows an epoch of a heap is what follows one of rounds with its settings.
use Rattle.std.proofs.Common.{◌≡◌, refl, sym, ap, subst, ◌∙◌, ℕ, ◌+◌, ◌%◌, ◌&&◌, ◌||◌, ◌↔◌, inl, inr, Bool, true, false, IsTrue, List, ◌∷◌}
use Rattle.lxr_layout.specs.declared.TheConstants.{DECREMENT_COUNT}
use Rattle.std.specs.Prelude.{Option, Some, None, nat_eq, nat_le, not, if◌then◌else◌}
use Rattle.std.proofs.lemmas.Bool.{eq-eqb}
use Rattle.lxr_graph.specs.declared.report.Kind.TheVariants as kind
use Rattle.lxr_graph.specs.History.{Item, Pause, PauseReport, report_of}
use Rattle.lxr_image.specs.declared.space.Space.{Space}
use Rattle.lxr_image.specs.Tables.{Tables}
use Rattle.lxr_image.specs.Spaces.{tables_of}
use Rattle.lxr_model.specs.Kinds.{MustCollect}
use Rattle.lxr_model.specs.Moments.{Moment, Trace, moment}
use Rattle.lxr_model.specs.Reports.{is_draining}
use Rattle.lxr_invariant.specs.AbstractState.{AbstractState}
use Rattle.lxr_core.specs.declared.actors.AnyActor.{AnyActor}
use Rattle.lxr_core.specs.Actors.{mutators_in}
use Rattle.lxr_core.specs.Ordering.{orders_of}
use Rattle.lxr_one_pause.specs.declared.Ask.TheVariants as ask
use Rattle.lxr_one_pause.specs.declared.Pace.{Pace}
use Rattle.lxr_one_pause.specs.Deciding.{kind_apart, kind_of}
use Rattle.lxr_one_pause.specs.Pausing.{IsDrained}
use Rattle.lxr_placing.specs.Listing.{Lists}
use Rattle.lxr_placing.specs.declared.listing.ToList.{ToList}
use Rattle.lxr_placing.proofs.TurnLemmas.{lists_turn}
use Rattle.lxr_rounds_invariant.specs.LoopInvariant.{HasRunEpoch, HasRunTo, HaveEnded, Task, asked_by, pace_of, terms_of, threads_of}
use Rattle.lxr_rounds_invariant.proofs.ActorLemmas.{ends_are_all}
use Rattle.lxr_rounds.specs.Following.{FollowsEach, HasFollowed, IsFollowedByPause, asked_for}
use Rattle.lxr_shared_heap.specs.declared.settings.Settings.{Settings}
use Rattle.lxr_shared_heap.specs.Resting.{BeginsAsWished, HasMadeEpoch, HasRested, ListsBehind, RestsEach}
use Rattle.lxr_shared_heap.specs.Settings.{plan_in, run_of}
use Rattle.lxr_sights.specs.Sights.{Sight}
use Rattle.lxr_shared_heap.proofs.IdleLemmas.{idle_answers}

-- what is drained is so by a cursor alone
drained_as : (before after : Space) (b : Bool) → (tables_of after).cursors DECREMENT_COUNT ≡ (tables_of before).cursors DECREMENT_COUNT → IsDrained before b → IsDrained after b
drained_as before after false same none = tt
drained_as before after true same none = same ∙ none

-- where nothing was answered behind a pause, listing leaves the space drained that it drained
drained_listed : (l l' : ToList) (paused answered after : Space) → answered ≡ paused → Lists l answered after l' → IsDrained paused (is_draining paused.report.kind) → IsDrained after (is_draining after.report.kind)
drained_listed l l' paused answered after same listed drained =
    let (runs, frees, lists) = lists_turn l l' answered after listed in
    let kinds = ap (λ (s : Space). is_draining s.report.kind) lists.rest ∙ ap (λ (s : Space). is_draining s.report.kind) same in
    let cursors : (tables_of after).cursors DECREMENT_COUNT ≡ (tables_of paused).cursors DECREMENT_COUNT =
    ap (λ (t : Tables). t.cursors DECREMENT_COUNT) lists.tables ∙ ap (λ (s : Space). (tables_of s).cursors DECREMENT_COUNT) same in
    subst (IsDrained after) (sym kinds) (drained_as paused after (is_draining paused.report.kind) cursors drained)

-- by what the pause is asked for a trace begins where that is wished for, it needn't collect and none runs
kind_begins : (begins collects : Bool) (pace : Pace) (k : ℕ) (trace : Option Trace) (traced free : Bool) → free ≡ true → nat_eq pace.trace 0 ≡ free
    → (kind_of (asked_by collects (begins && nat_eq pace.trace 0)) pace k trace traced ≡ kind.Begin) ↔ (IsTrue begins × (collects ≡ false) × (trace ≡ None))
kind_begins begins collects pace k trace traced free is told =
    subst (λ b. (kind_of (asked_by collects (begins && b)) pace k trace traced ≡ kind.Begin) ↔ (IsTrue begins × (collects ≡ false) × (trace ≡ None))) (sym (told ∙ is)) (by begins collects trace)
  where
    never_along : (began : ℕ) (b : Bool) → (if b then kind.End began else kind.Plain) ≡ kind.Begin → ⊥
    never_along began true e = cc
    never_along began false e = cc

    never_apart : kind_apart pace k ≡ kind.Begin → ⊥
    never_apart e = let plain : kind_apart pace k ≡ kind.Plain = ap (λ b. if not b && nat_eq (k % pace.trace) 0 then kind.Begin else kind.Plain) (told ∙ is) in let both : kind.Plain ≡ kind.Begin = sym plain ∙ e in cc

    by : (begins collects : Bool) (trace : Option Trace) → (kind_of (asked_by collects (begins && true)) pace k trace traced ≡ kind.Begin) ↔ (IsTrue begins × (collects ≡ false) × (trace ≡ None))
    by begins true trace = (λ e. absurd (cc), λ all. absurd (let e = all.1 in cc))
    by true false None = (λ e. (refl, refl, refl), λ all. refl)
    by true false (Some t) = (λ e. absurd (never_along t.began (traced || nat_le (t.began + pace.within) k) e), λ all. absurd (let e = all.2 in cc))
    by false false None = (λ e. absurd (never_apart e), λ all. absurd (let e = all.0 in cc))
    by false false (Some t) = (λ e. absurd (never_along t.began (traced || nat_le (t.began + pace.within) k) e), λ all. absurd (let e = all.0 in cc))

-- a pause that needn't collect is one that isn't asked to
collects_where : (task : Task) (begins collects : Bool) (calls : List Item) → (asked_for task begins collects ≡ ask.Collect) ↔ MustCollect (terms_of task) calls → (collects ≡ false) ↔ ¬ MustCollect (terms_of task) calls
collects_where task begins true calls right = (λ e. absurd (cc), λ never. absurd (never (right.0 refl)))
collects_where task begins false calls right = (λ e must. uncollecting (begins && nat_eq task.plan.trace 0) (right.1 must), λ never. refl)
  where
    uncollecting : (begins : Bool) → asked_by false begins ≡ ask.Collect → ⊥
    uncollecting true e = cc
    uncollecting false e = cc

-- so the pause behind an epoch begins a trace as it is wished for
begun_as_wished : (task : Task) (begins collects : Bool) (calls : List Item) (before after : Space) (seen : Option (List Sight)) (pause : IsFollowedByPause task begins collects calls before after seen)
    → BeginsAsWished begins task calls pause.report
begun_as_wished task begins collects calls before after seen pause free =
    let g = pause.behind.abstract_state in
    let kind_is = pause.behind.pauses.kind in
    let named : (report_of after.report).kind ≡ pause.report.kind = ap (λ (r : PauseReport). r.kind) (pause.paused.come.safepoint.numbers.report ∙ pause.paused.come.stands.reported) in
    let is : pause.report.kind ≡ kind_of (asked_for task begins collects) (pace_of task.plan) (g.moment.number + 1) g.moment.trace kind_is.traced = sym named ∙ kind_is.kind in
    let told = kind_begins begins collects (pace_of task.plan) (g.moment.number + 1) g.moment.trace kind_is.traced true refl (eq-eqb task.plan.trace 0 free) in
    let where_due = collects_where task begins collects calls pause.right in
    let same : g.moment.trace ≡ (moment (threads_of task) calls).trace = ap (λ (m : Moment). m.trace) pause.behind.stands.moment in
    (λ e. let all = told.0 (sym is ∙ e) in (all.0, where_due.0 all.1, sym same ∙ all.2), λ all. is ∙ told.1 (all.0, where_due.1 all.1, same ∙ all.2))

-- by whether all threads have ended
rested : (begins : Bool) (l l' : ToList) (told : List Item → List Item → Type 0) (task : Task) (before after : Space) (earlier actors actors' : List AnyActor) (calls : List Item) (g : AbstractState) (ended : Bool)
    → HasRunEpoch task before None earlier actors calls g → HasFollowed ended begins (λ from to. Lists l from to l') told task before after None earlier actors actors' calls → HasRested begins task calls actors after actors' ended
rested begins l l' told task before after earlier actors actors' calls g true ran last = record {
  report = last.pause.report;
  collects = (λ e. last.pause.right.0 (last.pause.paused.collects.0 e), λ must. last.pause.paused.collects.1 (last.pause.right.1 must));
  traces = begun_as_wished task begins true calls before after None last.pause;
  history = Pause last.pause.report ∷ calls;
  behind = inl (ends_are_all task calls (mutators_in actors) ran.come.history.0 ran.actors_rest.mutators last.ended, refl);
  stands = subst (λ xs. HasRunTo task after None xs (Pause last.pause.report ∷ calls)) (sym last.same) last.ran;
  asked = ap (λ xs. orders_of (mutators_in xs)) last.same;
  all_ended = λ e. subst (λ xs. HaveEnded (mutators_in xs)) (sym last.same) last.ended;
  drained = λ none. last.pause.behind.pauses.drained;
}
rested begins l l' told task before after earlier actors actors' calls g false ran next = record {
  report = next.pause.report;
  collects = (λ e. next.pause.right.0 (next.pause.paused.collects.0 e), λ must. next.pause.paused.collects.1 (next.pause.right.1 must));
  traces = begun_as_wished task begins next.collects calls before next.paused next.sighted next.pause;
  history = next.history;
  behind = inr (record {
    collected = next.collects;
    collects = next.serves.collected_is;
    mutators_rest = ran.actors_rest.mutators;
    paused = next.paused;
    reported = next.pause.paused.come.safepoint.numbers.report ∙ next.pause.paused.come.stands.reported;
    answered = next.answered;
    answers = next.answers;
  });
  stands = (next.abstract_state, next.again.amid);
  asked = next.asked;
  all_ended = λ e. absurd (cc);
  drained = λ none.
      let stays = idle_answers (pace_of task.plan) next.collects (mutators_in actors) (mutators_in actors') next.paused next.answered (Pause next.pause.report ∷ calls) next.history (λ i m at waits. none (i, m, at, waits)) next.answers in
      drained_listed l l' next.paused next.answered after stays.1 next.lists next.pause.behind.pauses.drained;
}

-- by whether all threads have ended, those runs were listed that were to be
listed : (begins : Bool) (l l' : ToList) (told : List Item → List Item → Type 0) (task : Task) (before after : Space) (earlier actors actors' : List AnyActor) (calls : List Item) (ended : Bool)
    → HasFollowed ended begins (λ from to. Lists l from to l') told task before after None earlier actors actors' calls → (IsTrue ended → l' ≡ l) → ListsBehind ended l after l'
listed begins l l' told task before after earlier actors actors' calls true last kept = kept refl
listed begins l l' told task before after earlier actors actors' calls false next kept = (next.answered, next.lists)

-- so it is after an epoch of rounds with the settings of the heap
pub lists_behind : (begins : Bool) (l l' : ToList) (told : List Item → List Item → Type 0) (settings : Settings) (pace : Pace) (before after : Space) (actors actors' : List AnyActor) (ended : Bool) → pace ≡ pace_of (plan_in settings)
    → FollowsEach begins (λ from to. Lists l from to l') told pace before None actors after None actors' ended → (IsTrue ended → l' ≡ l) → HasMadeEpoch settings before actors → ListsBehind ended l after l'
lists_behind begins l l' told settings pace before after actors actors' ended is followed kept (script, earlier, calls, g, ran) =
    listed begins l l' told (run_of settings script) before after earlier actors actors' calls ended (followed (run_of settings script) (sym is) earlier calls g ran) kept

-- each rounds with the settings of the heap have rested
pub rests_each : (begins : Bool) (l l' : ToList) (told : List Item → List Item → Type 0) (settings : Settings) (pace : Pace) (before after : Space) (actors actors' : List AnyActor) (ended : Bool) → pace ≡ pace_of (plan_in settings)
    → FollowsEach begins (λ from to. Lists l from to l') told pace before None actors after None actors' ended → RestsEach begins settings before actors after actors' ended
rests_each begins l l' told settings pace before after actors actors' ended is followed = λ script earlier calls g ran.
    rested begins l l' told (run_of settings script) before after earlier actors actors' calls g ended ran (followed (run_of settings script) (sym is) earlier calls g ran)
