-- What a storer does by itself: to its own log, and to the words behind the barrier alone.
use Rattle.std.proofs.Common.{◌≡◌, inl, inr, ℕ, ◌+◌, ◌/◌, ◌<◌, refl, sym, ap, subst, ◌∙◌, arith, Bool, true, false, List, [], ◌∷◌, nat_eq, set, get_or-set_other}
use Rattle.std.specs.Prelude.{Option, Some, None, slice_get, slice_set, slice_index, if◌then◌else◌}
use Rattle.std.specs.List.{All}
use Rattle.std.proofs.lemmas.List.{set-get_or}
use Rattle.std.proofs.lemmas.List.Elements.{All-set}
use Rattle.std.proofs.lemmas.Option.{slice_get_within}
use Rattle.lxr_tables.specs.Entries.{is_set}
use Rattle.lxr_layout.specs.declared.Place.{Place}
use Rattle.lxr_layout.specs.declared.limits.Regions.{Regions}
use Rattle.lxr_layout.specs.declared.runs.LogEntry.{LogEntry}
use Rattle.lxr_base.specs.Roomy.{Roomy, pushed}
use Rattle.lxr_actor.specs.declared.Action.{Action}
use Rattle.lxr_actor.specs.declared.Core.{Core}
use Rattle.lxr_actor.specs.declared.Event.{Event}
use Rattle.lxr_actor.specs.declared.Event.TheVariants.{Step, Give, Out, Order}
use Rattle.lxr_actor.specs.Run.{acted, stepped, of_event, change, happened, event, run}
use Rattle.lxr_actor.proofs.Runs.{run-lengths, run-keeps, slice_get-set_same, slice_get-set_other}
use Rattle.lxr_barrier.specs.declared.machines.LastStep.{LastStep}
use Rattle.lxr_barrier.specs.declared.machines.LastStep.TheVariants as last_step
use Rattle.lxr_barrier.specs.declared.machines.StorePhase.{StorePhase}
use Rattle.lxr_barrier.specs.declared.machines.StorePhase.TheVariants.{Begun, Unlogged, Loaded, Logged, Ended}
use Rattle.lxr_barrier.specs.declared.machines.StoreEnd.{StoreEnd}
use Rattle.lxr_barrier.specs.Storing.{Storing, IsPastBarrier, bit_number, entry_of, last_end, next_action, phase_after, reference_word, target}
use Rattle.lxr_barrier.specs.Storers.{Logging, storer_after, storer_machine}
use Rattle.lxr_barrier.specs.Unlogged.{ChangesOnlyBehindBarrier, HasBits, IsStoreIn, KeepOwnLogs, KeepsOwnLog, unlogged_bit}
use Rattle.lxr_barrier.proofs.BitLemmas.{bit_there, word_before, bit_behind}
use Rattle.lxr_barrier.proofs.ViewLemmas.{all_at, all_unset}
use Rattle.lxr_barrier.proofs.StorerLemmas.{change_same, last_change, same_bits, same_store_in}

-- its last step leaves it past the barrier
ends_past : (last : LastStep) (old : ℕ) → IsPastBarrier (Ended (last_end last old))
ends_past last_step.Store old = tt
ends_past last_step.Swap old = tt

-- a log once its store is told what its word was
module _ (s : Logging) (u : ℕ) (place : Place) (index : ℕ) (value : Place) (last : LastStep) (log : Roomy LogEntry) where
  abbrev storing : StorePhase → Storing
  storing p = record { unlogged = u; place = place; index = index; value = value; last = last; phase = p }

  abbrev logging : StorePhase → Logging
  logging p = record { store = storing p; log = log }

  -- before the barrier the log is as it was
  as_it_was : (p : StorePhase) → ¬ IsPastBarrier p → KeepsOwnLog s (logging p) → log ≡ s.log
  as_it_was p yet h = elim h.log [ inl e ↦ e | inr (past, more) ↦ absurd (yet past) ]

  moves_on : (p q : StorePhase) → KeepsOwnLog s (logging p) → storing q ≡ record s.store { phase = q }
  moves_on p q h = ap (λ (x : Storing). record x { phase = q }) h.store

  quiet_on : (p q : StorePhase) → ¬ IsPastBarrier p → KeepsOwnLog s (logging p) → KeepsOwnLog s (logging q)
  quiet_on p q yet h = record { store = moves_on p q h; log = inl (as_it_was p yet h) }

  clears : (old : Place) (b : Bool) → KeepsOwnLog s (logging (Loaded old)) → KeepsOwnLog s (record { store = storing Logged; log = (if b then pushed log (entry_of (storing (Loaded old)) old) else log) })
  clears old true h =
      let was = as_it_was (Loaded old) (λ past. past) h in
      let more = ap (λ (l : Roomy LogEntry). pushed l (entry_of (storing (Loaded old)) old)) was ∙ ap (λ (x : Storing). pushed s.log (entry_of x old)) h.store in
      record { store = moves_on (Loaded old) Logged h; log = inr (tt, (old, more)) }
  clears old false h = quiet_on (Loaded old) Logged (λ past. past) h

  ends : (how : StoreEnd) → IsPastBarrier (Ended how) → KeepsOwnLog s (logging Logged) → KeepsOwnLog s (logging (Ended how))
  ends how behind h = record { store = moves_on Logged (Ended how) h; log = elim h.log [ inl e ↦ inl e | inr (past, more) ↦ inr (behind, more) ] }

  told : (p : StorePhase) (old : ℕ) → KeepsOwnLog s (logging p) → KeepsOwnLog s (storer_after (logging p) old)
  told Begun old h = quiet_on Begun (phase_after (storing Begun) log old Begun) (λ past. past) h
  told Unlogged old h = quiet_on Unlogged _ (λ past. past) h
  told (Loaded first) old h = clears first (is_set old (bit_number (storing (Loaded first)))) h
  told Logged old h = ends (last_end last old) (ends_past last old) h
  told (Ended how) old h = h

change_keeps_log : (s t : Logging) (e : Event) (words : List ℕ) → KeepsOwnLog s t → KeepsOwnLog s (change storer_machine e words t).1
change_keeps_log s t (Step n) words h = acted_keeps_log (next_action t.store)
  where
    acted_keeps_log : (o : Option Action) → KeepsOwnLog s (acted storer_machine words t o).1
    acted_keeps_log None = h
    acted_keeps_log (Some act) = told s t.store.unlogged t.store.place t.store.index t.store.value t.store.last t.log t.store.phase (slice_index words act.word) h
change_keeps_log s t (Give n p) words h = h
change_keeps_log s t (Out n) words h = h
change_keeps_log s t (Order n o) words h = h

module _ (start : List Logging) where
  set_keeps_logs : (storers : List Logging) (n : ℕ) (x y : Logging) → slice_get storers n ≡ Some x → ((s : Logging) → KeepsOwnLog s x → KeepsOwnLog s y) → KeepOwnLogs start storers → KeepOwnLogs start (set storers n y)
  set_keeps_logs storers n x y at on h i s t from to = by_number (nat_eq i n) refl
    where
      by_number : (b : Bool) → nat_eq i n ≡ b → KeepsOwnLog s t
      by_number true e =
          let q : i ≡ n = grind arith in
          let here : y ≡ t = let same : Some y ≡ Some t = sym (slice_get-set_same storers n y (slice_get_within storers n x at)) ∙ ap (slice_get (set storers n y)) (sym q) ∙ to in cc in
          subst (KeepsOwnLog s) here (on s (h i s x from (ap (slice_get storers) q ∙ at)))
      by_number false e = h i s t from (sym (slice_get-set_other storers n i y (grind arith)) ∙ to)

  happened_keeps_logs : (core : Core Logging) (e : Event) (o : Option Logging) → slice_get core.actors (of_event e) ≡ o → KeepOwnLogs start core.actors → KeepOwnLogs start (happened storer_machine core e o).actors
  happened_keeps_logs core e None at h = h
  happened_keeps_logs core e (Some x) at h = set_keeps_logs core.actors (of_event e) x _ at (λ s k. change_keeps_log s x e core.words k) h

  logs_kept : (core : Core Logging) (e : Event) → KeepOwnLogs start core.actors → KeepOwnLogs start (event storer_machine core e).actors
  logs_kept core e h = happened_keeps_logs core e (slice_get core.actors (of_event e)) refl h

own_log : (storers : List Logging) → KeepOwnLogs storers storers
own_log storers i s t from to = subst (KeepsOwnLog s) (let q : s ≡ t = let same : Some s ≡ Some t = sym from ∙ to in cc in q) (record { store = refl; log = inl refl })

-- whatever the schedule, a log has at most one entry more, for its own reference
pub schedule_keeps_logs : (core : Core Logging) (schedule : List Event) → KeepOwnLogs core.actors (run storer_machine core schedule).actors
schedule_keeps_logs core schedule = run-keeps storer_machine (λ (c : Core Logging). KeepOwnLogs core.actors c.actors) (logs_kept core.actors) core schedule (own_log core.actors)

-- a step leaves a heap word and its bit if its store has another reference or isn't past the barrier then
module _ (r : Regions) (words : List ℕ) (has : HasBits r words) (place : Place) (index : ℕ) (value : Place) (last : LastStep) (log : Roomy LogEntry) (heap : reference_word place index < r.counts)
    (at : ℕ) (lt : at < r.counts) where
  abbrev w : ℕ
  w = reference_word place index

  abbrev storer : StorePhase → Logging
  storer p = record { store = record { unlogged = r.unlogged; place = place; index = index; value = value; last = last; phase = p }; log = log }

  abbrev IsLeft : List ℕ → Type 0
  IsLeft words' = (slice_index words' at ≡ slice_index words at) × (unlogged_bit r words' at ≡ unlogged_bit r words at)

  loaded : (k : ℕ) → IsLeft (slice_set words k (slice_index words k))
  loaded k = let same = set-get_or words k 0 in (ap (λ (ws : List ℕ). slice_index ws at) same, ap (λ (ws : List ℕ). unlogged_bit r ws at) same)

  before : (k : ℕ) → k < r.counts → k < r.unlogged
  before k h = let b = has.behind in omega arith

  step_leaves : (p : StorePhase) → (w ≡ at → ¬ IsPastBarrier (stepped storer_machine words (storer p)).1.store.phase) → IsLeft (stepped storer_machine words (storer p)).0
  step_leaves Begun yet = loaded (r.unlogged + w / 64)
  step_leaves Unlogged yet = loaded w
  step_leaves (Loaded old) yet = let room = has.exist w heap in (word_before words r.unlogged w room at (before at lt), bit_there words r.unlogged w room at (has.exist at lt) (λ e. yet (sym e) tt))
  step_leaves Logged yet = subst (λ (x : ℕ). IsLeft (slice_set words w x)) (sym (last_change last (slice_index words w) value.0))
      (get_or-set_other words w at value.0 0 (λ e. yet (sym e) (ends_past last (slice_index words w))), bit_behind words r.unlogged w value.0 at (before w heap) (has.exist at lt))
  step_leaves (Ended how) yet = (refl, refl)

-- who is past the barrier stays so
past_after : (s : Storing) (log : Roomy LogEntry) (old : ℕ) (p : StorePhase) → IsPastBarrier p → IsPastBarrier (phase_after s log old p)
past_after s log old Begun past = absurd past
past_after s log old Unlogged past = absurd past
past_after s log old (Loaded first) past = absurd past
past_after s log old Logged past = ends_past s.last old
past_after s log old (Ended how) past = past

change_past : (t : Logging) (e : Event) (words : List ℕ) → IsPastBarrier t.store.phase → IsPastBarrier (change storer_machine e words t).1.store.phase
change_past t (Step n) words past = acted_past (next_action t.store)
  where
    acted_past : (o : Option Action) → IsPastBarrier (acted storer_machine words t o).1.store.phase
    acted_past None = past
    acted_past (Some act) = past_after t.store t.log (slice_index words act.word) t.store.phase past
change_past t (Give n p) words past = past
change_past t (Out n) words past = past
change_past t (Order n o) words past = past

module _ (r : Regions) (start : List ℕ) where
  pub record LeavesIn (core : Core Logging) : Type 0 where
    pub has : HasBits r core.words
    pub stores : All (λ s. IsStoreIn r s.store) core.actors
    pub left : ChangesOnlyBehindBarrier r start core.words core.actors

  change_leaves : (words : List ℕ) → HasBits r words → (s : Logging) → IsStoreIn r s.store → (e : Event) (at : ℕ) → at < r.counts
      → (target s.store ≡ at → ¬ IsPastBarrier (change storer_machine e words s).1.store.phase)
      → (slice_index (change storer_machine e words s).0 at ≡ slice_index words at) × (unlogged_bit r (change storer_machine e words s).0 at ≡ unlogged_bit r words at)
  change_leaves words has s is (Step n) at lt yet =
      let Leaves : ℕ → Type 0 = λ u.
      let t : Logging = record s { store = record s.store { unlogged = u } } in
      (target t.store ≡ at → ¬ IsPastBarrier (stepped storer_machine words t).1.store.phase)
      → (slice_index (stepped storer_machine words t).0 at ≡ slice_index words at) × (unlogged_bit r (stepped storer_machine words t).0 at ≡ unlogged_bit r words at) in
      subst Leaves (sym is.bits) (step_leaves r words has s.store.place s.store.index s.store.value s.store.last s.log is.heap at lt s.store.phase) yet
  change_leaves words has s is (Give n p) at lt yet = (refl, refl)
  change_leaves words has s is (Out n) at lt yet = (refl, refl)
  change_leaves words has s is (Order n o) at lt yet = (refl, refl)

  happened_leaves : (core : Core Logging) (e : Event) (o : Option Logging) → slice_get core.actors (of_event e) ≡ o → HasBits r (happened storer_machine core e o).words → LeavesIn core → LeavesIn (happened storer_machine core e o)
  happened_leaves core e None at has h = h
  happened_leaves core e (Some s) at has h =
      let is = all_at (λ x. IsStoreIn r x.store) core.actors (of_event e) s at h.stores in
      let same = change_same e core.words s in
      let s' : Logging = (change storer_machine e core.words s).1 in
      record {
        has = has;
        stores = All-set (λ x. IsStoreIn r x.store) core.actors (of_event e) _ (same_store_in r s.store _ same is) h.stores;
        left = λ k lt yet.
            let Yet : Logging → Type 0 = λ t. target t.store ≡ k → ¬ IsPastBarrier t.store.phase in
            let step = change_leaves core.words h.has s is e k lt (λ q. all_at Yet _ (of_event e) s' (slice_get-set_same core.actors (of_event e) s' (slice_get_within core.actors (of_event e) s at)) yet (same.target ∙ q)) in
            let was = h.left k lt (all_unset Yet core.actors (of_event e) s s' at (λ no q past. no (same.target ∙ q) (change_past s e core.words past)) yet) in
            (step.0 ∙ was.0, step.1 ∙ was.1);
      }

  event_leaves : (core : Core Logging) (e : Event) → LeavesIn core → LeavesIn (event storer_machine core e)
  event_leaves core e h = happened_leaves core e (slice_get core.actors (of_event e)) refl (same_bits r core.words (event storer_machine core e).words (run-lengths storer_machine core (e ∷ [])).0 h.has) h

-- whatever the schedule, words and bits change only behind the barrier
pub schedule_leaves : (r : Regions) (core : Core Logging) → HasBits r core.words → All (λ s. IsStoreIn r s.store) core.actors → (schedule : List Event)
    → ChangesOnlyBehindBarrier r core.words (run storer_machine core schedule).words (run storer_machine core schedule).actors
schedule_leaves r core has stores schedule = (run-keeps storer_machine (LeavesIn r core.words) (event_leaves r core.words) core schedule (record { has = has; stores = stores; left = λ at lt yet. (refl, refl) })).left
