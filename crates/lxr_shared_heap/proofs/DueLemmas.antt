-- Names are renewed by the tests of the code exactly where that is due by the pause, the history and the mutators.
use Rattle.std.proofs.Common.{◌≡◌, ℕ, zero, suc, ◌+◌, ◌<◌, ◌≤◌, refl, sym, ap, subst, ◌∙◌, inl, inr, arith, Bool, true, false, List, [], ◌∷◌, IsTrue, length}
use Rattle.std.specs.Prelude.{◌⊎◌, ◌/◌, ◌&&◌, ◌||◌, Option, Some, None, is_some, nat_lt, not, option_map, slice_get}
use Rattle.std.specs.List.{list_any}
use Rattle.std.proofs.lemmas.Bool.Decides.{nat_tests}
use Rattle.std.proofs.lemmas.Bool.{and_from, and_parts, false_from_ne_true, not-true, or_cases}
use Rattle.lxr_graph.specs.History.{Item, Pause, PauseReport, report_of}
use Rattle.lxr_image.specs.declared.space.Space.{Space}
use Rattle.lxr_model.specs.Belongs.{Script}
use Rattle.lxr_model.specs.Legal.{IsLegalSoFar}
use Rattle.lxr_model.specs.Moments.{Moment, Trace, moment}
use Rattle.lxr_model.specs.Reports.{is_draining}
use Rattle.lxr_layout.specs.declared.limits.Limits.{Limits}
use Rattle.lxr_mutator.specs.Dialogues.{most_operations}
use Rattle.lxr_mutator.specs.declared.phases.MutEnd.{MutEnd}
use Rattle.lxr_mutator.specs.declared.phases.MutEnd.TheVariants as ends
use Rattle.lxr_mutator.specs.declared.phases.Waiting.{Waiting}
use Rattle.lxr_mutator.specs.Mutating.{IsWaiting, Mutating, waiting_by}
use Rattle.lxr_mutator.specs.Mutators.{IsThrough}
use Rattle.lxr_core.specs.declared.actors.AnyActor.{AnyActor}
use Rattle.lxr_core.specs.declared.actors.AnyActor.TheVariants as any
use Rattle.lxr_core.specs.Actors.{mutators_in}
use Rattle.lxr_core.specs.Resting.{RestsAfter}
use Rattle.lxr_rounds_history.specs.Left.{last_report}
use Rattle.lxr_rounds_invariant.specs.LoopInvariant.{HasCome, IsBetweenEpochs, Task, terms_of}
use Rattle.lxr_shared_heap.specs.declared.settings.Settings.{Settings}
use Rattle.lxr_shared_heap.specs.Renewing.{IsRenewalDue, has_drained, is_at_end, is_renewal_due, is_worn, waits}
use Rattle.lxr_shared_heap.specs.Resting.{HasRested}
use Rattle.lxr_shared_heap.specs.Settings.{run_of}
use Rattle.lxr_stations.specs.Wanting.{is_ended}
use Rattle.lxr_shared_heap.proofs.IdleLemmas.{idle_last, none_wait, some_waiting}
use Rattle.lxr_shared_heap.proofs.RenewingLemmas.{none_at_end, none_traced}

-- ---- tests of lists

or_right : (a b : Bool) → b ≡ true → (a || b) ≡ true
or_right true b is = refl
or_right false b is = is

-- where nobody waits, none is found that does
all_idle : (actors : List AnyActor) → ((i : ℕ) (m : Mutating) → slice_get (mutators_in actors) i ≡ Some m → ¬ IsWaiting m) → list_any waits actors ≡ false
all_idle [] idle = refl
all_idle (any.Mutator m ∷ actors) idle =
    let here = no_waiting (waiting_by m m.end) refl in
    ap (λ b. b || list_any waits actors) here ∙ all_idle actors (λ i x at. idle (suc i) x at)
  where
    no_waiting : (o : Option Waiting) → waiting_by m m.end ≡ o → is_some (waiting_by m m.end) ≡ false
    no_waiting None none = ap (λ (o : Option Waiting). is_some o) none
    no_waiting (Some w) is = absurd (idle 0 m refl (some_waiting m w is))
all_idle (any.Decrementer d ∷ actors) idle = all_idle actors idle
all_idle (any.Tracer d ∷ actors) idle = all_idle actors idle

less_told : (n k : ℕ) → IsTrue (nat_lt n k) → n < k
less_told n k is = grind (arith, nat_tests, is)

less_tested : (n k : ℕ) → n < k → IsTrue (nat_lt n k)
less_tested n k less = grind (arith, nat_tests, less)

-- who is found to be worn is a mutator that was ordered so much
worn_told : (actors : List AnyActor) → IsTrue (list_any is_worn actors) → (i : ℕ) × (m : Mutating) × (slice_get (mutators_in actors) i ≡ Some m) × (most_operations m.thread / 2 < length m.operations)
worn_told [] some = absurd (cc)
worn_told (any.Mutator m ∷ actors) some = elim (or_cases (is_worn (any.Mutator m)) (list_any is_worn actors) some) [
  | inl here ↦ (0, m, refl, less_told (most_operations m.thread / 2) (length m.operations) here)
  | inr more ↦ let (i, x, at, less) = worn_told actors more in (suc i, x, at, less)
]
worn_told (any.Decrementer d ∷ actors) some = worn_told actors some
worn_told (any.Tracer d ∷ actors) some = worn_told actors some

-- and each such mutator is found
worn_tested : (actors : List AnyActor) (i : ℕ) (m : Mutating) → slice_get (mutators_in actors) i ≡ Some m → most_operations m.thread / 2 < length m.operations → IsTrue (list_any is_worn actors)
worn_tested [] i m at less = absurd (cc)
worn_tested (any.Mutator x ∷ actors) zero m at less =
    let same : x ≡ m = cc in
    let here : is_worn (any.Mutator x) ≡ true = ap (λ (z : Mutating). is_worn (any.Mutator z)) same ∙ less_tested (most_operations m.thread / 2) (length m.operations) less in
    ap (λ b. b || list_any is_worn actors) here
worn_tested (any.Mutator x ∷ actors) (suc i) m at less = or_right (is_worn (any.Mutator x)) (list_any is_worn actors) (worn_tested actors i m at less)
worn_tested (any.Decrementer d ∷ actors) i m at less = worn_tested actors i m at less
worn_tested (any.Tracer d ∷ actors) i m at less = worn_tested actors i m at less

ended_is : (e : Option MutEnd) → is_ended e ≡ true → e ≡ Some ends.Ended
ended_is (Some ends.Ended) is = refl
ended_is e is = absurd (cc)

-- one that rests is through where its last unit was its thread's end
ended_through : (l : Limits) (turns : ℕ) (h : List Item) (t : ℕ) (m : Mutating) → RestsAfter l turns h t m → m.end ≡ Some ends.Ended → IsThrough m
ended_through l turns h t m rests ended = by_replies rests.mutator.sound.replies
  where
    by_replies : IsThrough m ⊎ (length m.replies.items ≤ length m.operations) → IsThrough m
    by_replies (inl through) = through
    by_replies (inr few) = absurd (let all = rests.ended ended in omega (arith, all, few))

-- where no mutator is at its end, none is found that is
end_tested : (actors : List AnyActor) → ((i : ℕ) (m : Mutating) → slice_get (mutators_in actors) i ≡ Some m → is_ended m.end ≡ false) → list_any is_at_end actors ≡ false
end_tested [] none = refl
end_tested (any.Mutator m ∷ actors) none = ap (λ b. b || list_any is_at_end actors) (none 0 m refl) ∙ end_tested actors (λ i x at. none (suc i) x at)
end_tested (any.Decrementer d ∷ actors) none = end_tested actors none
end_tested (any.Tracer d ∷ actors) none = end_tested actors none

-- ---- behind a pause

-- the newest pause of a legal history has a number
pause_counts : (task : Task) (report : PauseReport) (calls : List Item) → IsLegalSoFar (terms_of task) (Pause report ∷ calls) → 0 < report.number
pause_counts task report calls legal = let one = legal.2.reports.1.number in omega (arith, one)

module _ (begins : Bool) (settings : Settings) (script : Script) (calls : List Item) (actors : List AnyActor) (space : Space) (actors' : List AnyActor) (rested : HasRested begins (run_of settings script) calls actors space actors' false) (waited : Bool)
    (waited_is : waited ≡ list_any waits actors) where
  abbrev amid : IsBetweenEpochs (run_of settings script) space None actors' rested.history rested.stands.0
  amid = rested.stands.1

  abbrev come : HasCome (run_of settings script) space None rested.history rested.stands.0
  come = amid.come

  reported : report_of space.report ≡ last_report rested.history
  reported = come.safepoint.numbers.report ∙ come.stands.reported

  abbrev IsDue : Type 0
  IsDue = IsRenewalDue (length script) rested.report (mutators_in actors) (mutators_in actors') rested.history

  abbrev is_worn_out : Bool
  is_worn_out = list_any is_worn actors' && not (list_any is_at_end actors')

  -- where they are renewed, that is due
  pub due_told : (not waited && is_renewal_due space actors') ≡ true → IsDue
  due_told is =
      let both = and_parts (not waited) (is_renewal_due space actors') is in
      let idle : list_any waits actors ≡ false = sym waited_is ∙ not-true waited both.0 in
      let last = idle_last (run_of settings script) rested.report calls actors (mutators_in actors') rested.history rested.behind idle in
      let parts = and_parts (has_drained space) is_worn_out both.1 in
      let drained = and_parts (nat_lt 0 space.pauses && is_draining space.report.kind) (not (is_some space.trace)) parts.0 in
      let kinds = and_parts (nat_lt 0 space.pauses) (is_draining space.report.kind) drained.0 in
      let worn = and_parts (list_any is_worn actors') (not (list_any is_at_end actors')) parts.1 in record {
        drains = subst (λ (r : PauseReport). IsTrue (is_draining r.kind)) (reported ∙ ap last_report last) kinds.1;
        unwaiting = none_wait actors idle;
        untraced = ap (λ (m : Moment). m.trace) (sym come.stands.moment) ∙ none_traced rested.stands.0.moment.trace space.trace come.safepoint.numbers.trace drained.1;
        worn = worn_told actors' worn.0;
        unended = λ i m at through. none_at_end actors' (not-true (list_any is_at_end actors') worn.1) i m at through.1;
      }

  -- and where it is due, they are
  pub due_tested : IsDue → (not waited && is_renewal_due space actors') ≡ true
  due_tested due =
      let idle = all_idle actors due.unwaiting in
      let last = idle_last (run_of settings script) rested.report calls actors (mutators_in actors') rested.history rested.behind idle in
      let number = come.safepoint.numbers.pauses ∙ ap (λ (m : Moment). m.number) come.stands.moment ∙ ap (λ h. (moment (length script) h).number) last in
      let counts = pause_counts (run_of settings script) rested.report calls (subst (IsLegalSoFar (terms_of (run_of settings script))) last come.history.0) in
      let drains = subst (λ (r : PauseReport). IsTrue (is_draining r.kind)) (sym (reported ∙ ap last_report last)) due.drains in
      let none : space.trace ≡ None = come.safepoint.numbers.trace ∙ ap (option_map (λ (t : Trace). t.began)) (ap (λ (m : Moment). m.trace) come.stands.moment ∙ due.untraced) in
      let (i, m, at, less) = due.worn in
      let unended = end_tested actors' (λ j x there. false_from_ne_true (is_ended x.end)
      (λ e. due.unended j x there (ended_through _ _ rested.history (j + 1) x (amid.actors_rest.mutators.rest.each j x there) (ended_is x.end e)))) in
      and_from (not waited) (is_renewal_due space actors') (ap not (waited_is ∙ idle))
      (and_from (has_drained space) is_worn_out
      (and_from (nat_lt 0 space.pauses && is_draining space.report.kind) (not (is_some space.trace))
      (and_from (nat_lt 0 space.pauses) (is_draining space.report.kind) (less_tested 0 space.pauses (omega (arith, number, counts))) drains)
      (ap (λ (o : Option ℕ). not (is_some o)) none))
      (and_from (list_any is_worn actors') (not (list_any is_at_end actors')) (worn_tested actors' i m at less) (ap not unended)))
