-- Each step of a storer keeps unlogged bits and logs, and so does each schedule of steps of any number of storers.
use Rattle.std.proofs.Common.{◌≡◌, ℕ, ◌+◌, ◌/◌, ◌%◌, ◌<◌, ◌≤◌, refl, sym, ap, subst, ◌∙◌, arith, Bool, true, false, List, [], ◌∷◌, length, map, nat_eq, set, get_or-set_other}
use Rattle.std.specs.Prelude.{Option, Some, None, slice_get, slice_set, slice_index, if◌then◌else◌}
use Rattle.std.specs.Option.{option_map}
use Rattle.std.specs.Int.{bit_at}
use Rattle.std.specs.List.{All, count_by}
use Rattle.std.proofs.lemmas.List.{set-get_or, map-set}
use Rattle.std.proofs.lemmas.List.Elements.{All-map, All-nil, All-set}
use Rattle.std.proofs.lemmas.List.Sums.{sum_by-le}
use Rattle.std.proofs.lemmas.Nat.Bits.{bit_at-lt}
use Rattle.std.proofs.lemmas.Option.{slice_get-map}
use Rattle.lxr_tables.specs.Entries.{is_set}
use Rattle.lxr_layout.specs.Places.{place_in}
use Rattle.lxr_layout.specs.declared.Place.{Place}
use Rattle.lxr_layout.specs.declared.limits.Regions.{Regions}
use Rattle.lxr_layout.specs.declared.runs.LogEntry.{LogEntry}
use Rattle.lxr_base.specs.Roomy.{Roomy, pushed}
use Rattle.lxr_actor.specs.declared.Core.{Core}
use Rattle.lxr_actor.specs.declared.Event.{Event}
use Rattle.lxr_actor.specs.declared.Event.TheVariants.{Step, Give, Out, Order}
use Rattle.lxr_actor.specs.Change.{changed}
use Rattle.lxr_actor.specs.Run.{stepped, of_event, change, happened, event, run}
use Rattle.lxr_actor.proofs.Runs.{run-lengths, run-keeps}
use Rattle.lxr_barrier.specs.declared.machines.LastStep.{LastStep}
use Rattle.lxr_barrier.specs.declared.machines.LastStep.TheVariants as last_step
use Rattle.lxr_barrier.specs.declared.machines.StorePhase.{StorePhase}
use Rattle.lxr_barrier.specs.declared.machines.StorePhase.TheVariants.{Begun, Unlogged, Loaded, Logged, Ended}
use Rattle.lxr_barrier.specs.declared.machines.StoreEnd.TheVariants.{LogFull}
use Rattle.lxr_barrier.specs.Storing.{Storing, entry_of, is_full, last_end, last_kind, reference_word}
use Rattle.lxr_barrier.specs.Storers.{Logging, storer_machine}
use Rattle.lxr_barrier.specs.Unlogged.{HasBits, IsBeginning, IsStoreIn, StoreView, UnloggedBitsAndLogs, entries_for, entry_word, loaded_by, ready_for, store_view, unlogged_bit}
use Rattle.lxr_barrier.proofs.BitLemmas.{bit_read, cleared_words, bit_here, bit_there, word_before, bit_behind}
use Rattle.lxr_barrier.proofs.ViewLemmas.{all_at, all_to, set_itself}
use Rattle.lxr_barrier.proofs.UnloggedLemmas.{Clears, EntryFits, LoadedFits, ReadyFits, StoresTo, elsewhere, none_loaded, none_ready, one_loaded, one_ready, quiet, first_clear, late_clear, stored}
use Rattle.lxr_barrier.proofs.StorerLemmas.{change_same, same_bits, same_store_in}

set_bit : (word n : ℕ) → is_set word n ≡ true → bit_at word n ≡ 1
set_bit word n e = grind arith

clear_bit : (word n : ℕ) → is_set word n ≡ false → bit_at word n ≡ 0
clear_bit word n e = let b = bit_at-lt word n in grind arith

module _ (r : Regions) (opening words : List ℕ) (has : HasBits r words) (views : List StoreView) (i : ℕ)
    (place : Place) (index : ℕ) (value : Place) (last : LastStep) (log : Roomy LogEntry) (heap : reference_word place index < r.counts) where
  abbrev w : ℕ
  w = reference_word place index

  before : w < r.unlogged
  before = let b = has.behind in omega arith

  room : r.unlogged + w / 64 < length words
  room = has.exist w heap

  abbrev storing : StorePhase → Storing
  storing p = record { unlogged = r.unlogged; place = place; index = index; value = value; last = last; phase = p }

  abbrev logging : StorePhase → Logging
  logging p = record { store = storing p; log = log }

  -- a step from this phase keeps them
  abbrev Keeps : StorePhase → Type 0
  Keeps p = slice_get views i ≡ Some (store_view (logging p)) → UnloggedBitsAndLogs r opening words views
      → UnloggedBitsAndLogs r opening (stepped storer_machine words (logging p)).0 (set views i (store_view (stepped storer_machine words (logging p)).1))

  -- a load changes no word
  loads : (at : ℕ) (x : StoreView) → UnloggedBitsAndLogs r opening words (set views i x) → UnloggedBitsAndLogs r opening (slice_set words at (slice_index words at)) (set views i x)
  loads at x h =
      let same = set-get_or words at 0 in
      elsewhere r opening words _ _ (λ k lt. ap (λ (ws : List ℕ). unlogged_bit r ws k) same) (λ k set. ap (λ (ws : List ℕ). slice_index ws k) same) h

  clears : Clears r words (cleared_words words r.unlogged w room) w
  clears = record {
    here = bit_here words r.unlogged w room;
    there = λ k lt ne. bit_there words r.unlogged w room k (has.exist k lt) ne;
    heap = λ k lt. word_before words r.unlogged w room k (let b = has.behind in omega arith);
  }

  stores : StoresTo r words (slice_set words w value.0) w
  stores = record {
    bits = λ k lt. bit_behind words r.unlogged w value.0 k before (has.exist k lt);
    heap = λ k ne. get_or-set_other words w k value.0 0 ne;
  }

  abbrev bits : ℕ
  bits = slice_index words (r.unlogged + w / 64)

  bit : unlogged_bit r words w ≡ bit_at bits (w % 64)
  bit = bit_read words r.unlogged w room

  look : (b f : Bool) → is_set bits (w % 64) ≡ b → slice_get views i ≡ Some (store_view (logging Begun)) → UnloggedBitsAndLogs r opening words views
      → UnloggedBitsAndLogs r opening words (set views i (store_view (logging (if b then (if f then Ended LogFull else Unlogged) else Logged))))
  look true true e at h = quiet r opening words views h i _ at None None (none_loaded r opening words) (none_ready r opening words)
  look true false e at h = quiet r opening words views h i _ at None None (none_loaded r opening words) (none_ready r opening words)
  look false f e at h = quiet r opening words views h i _ at None (Some w) (none_loaded r opening words) (one_ready r opening words w (heap, bit ∙ clear_bit bits (w % 64) e))

  -- what is loaded while the bit is set is the first value
  first_value : UnloggedBitsAndLogs r opening words views → unlogged_bit r words w ≡ 1 → (place_in (slice_index words w)).0 ≡ slice_index opening w
  first_value h set =
      let same = h.unwritten w (heap, set) in
      let small = h.places w (h.only w (heap, set)) in
      omega arith

  clear : (old : Place) (b : Bool) → is_set bits (w % 64) ≡ b → slice_get views i ≡ Some (store_view (logging (Loaded old))) → UnloggedBitsAndLogs r opening words views
      → UnloggedBitsAndLogs r opening (cleared_words words r.unlogged w room) (set views i (store_view (record { store = storing Logged; log = (if b then pushed log (entry_of (storing (Loaded old)) old) else log) })))
  clear old true e at h = first_clear r opening words views h i _ at _ w heap clears (entry_of (storing (Loaded old)) old) refl refl (bit ∙ set_bit bits (w % 64) e)
  clear old false e at h = late_clear r opening words views h i _ at _ w heap clears (bit ∙ clear_bit bits (w % 64) e)

  -- both kinds of last step leave the value in the word, and show nothing more of themselves
  ends : (l : LastStep) → slice_get views i ≡ Some (store_view (logging Logged)) → UnloggedBitsAndLogs r opening words views
      → UnloggedBitsAndLogs r opening (slice_set words w (changed (last_kind l) (slice_index words w) value.0)) (set views i (store_view (logging (Ended (last_end l (slice_index words w))))))
  ends last_step.Store at h = stored r opening words views h i _ at _ w stores refl
  ends last_step.Swap at h = stored r opening words views h i _ at _ w stores refl

  step_at : (p : StorePhase) → Keeps p
  step_at Begun at h = loads (r.unlogged + w / 64) _ (look (is_set bits (w % 64)) (is_full log) refl at h)
  step_at Unlogged at h = loads w _ (quiet r opening words views h i _ at (Some (entry_of (storing Unlogged) (place_in (slice_index words w)))) None (one_loaded r opening words _ (λ set. first_value h set.1)) (none_ready r opening words))
  step_at (Loaded old) at h = clear old (is_set bits (w % 64)) refl at h
  step_at Logged at h = ends last at h
  step_at (Ended how) at h = subst (UnloggedBitsAndLogs r opening words) (sym (set_itself views i _ at)) h

-- the same of a store whose bits are those of the regions
pub step_keeps : (r : Regions) (opening words : List ℕ) → HasBits r words → (views : List StoreView) (i : ℕ) (s : Logging) → IsStoreIn r s.store
    → slice_get views i ≡ Some (store_view s) → UnloggedBitsAndLogs r opening words views
    → UnloggedBitsAndLogs r opening (stepped storer_machine words s).0 (set views i (store_view (stepped storer_machine words s).1))
step_keeps r opening words has views i s is =
    let Keeps : ℕ → Type 0 = λ u.
    let t : Logging = record s { store = record s.store { unlogged = u } } in
    slice_get views i ≡ Some (store_view t) → UnloggedBitsAndLogs r opening words views
    → UnloggedBitsAndLogs r opening (stepped storer_machine words t).0 (set views i (store_view (stepped storer_machine words t).1)) in
    subst Keeps (sym is.bits) (step_at r opening words has views i s.store.place s.store.index s.store.value s.store.last s.log is.heap s.store.phase)

-- unlogged bits and logs hold in a core whose stores are those of the regions
pub record HoldsIn (r : Regions) (opening : List ℕ) (core : Core Logging) : Type 0 where
  pub has : HasBits r core.words
  pub stores : All (λ s. IsStoreIn r s.store) core.actors
  pub kept : UnloggedBitsAndLogs r opening core.words (map store_view core.actors)

module _ (r : Regions) (opening : List ℕ) where
  change_keeps : (core : Core Logging) (e : Event) (s : Logging) → slice_get core.actors (of_event e) ≡ Some s → HoldsIn r opening core
      → UnloggedBitsAndLogs r opening (change storer_machine e core.words s).0 (map store_view (set core.actors (of_event e) (change storer_machine e core.words s).1))
  change_keeps core (Step n) s at h =
      let view : slice_get (map store_view core.actors) n ≡ Some (store_view s) = slice_get-map store_view core.actors n ∙ ap (option_map store_view) at in
      subst (UnloggedBitsAndLogs r opening (stepped storer_machine core.words s).0) (sym (map-set store_view core.actors n _))
      (step_keeps r opening core.words h.has (map store_view core.actors) n s (all_at (λ x. IsStoreIn r x.store) core.actors n s at h.stores) view h.kept)
  change_keeps core (Give n p) s at h = subst (λ actors. UnloggedBitsAndLogs r opening core.words (map store_view actors)) (sym (set_itself core.actors n s at)) h.kept
  change_keeps core (Out n) s at h = subst (λ actors. UnloggedBitsAndLogs r opening core.words (map store_view actors)) (sym (set_itself core.actors n s at)) h.kept
  change_keeps core (Order n o) s at h = subst (λ actors. UnloggedBitsAndLogs r opening core.words (map store_view actors)) (sym (set_itself core.actors n s at)) h.kept

  happened_keeps : (core : Core Logging) (e : Event) (o : Option Logging) → slice_get core.actors (of_event e) ≡ o → HasBits r (happened storer_machine core e o).words
      → HoldsIn r opening core → HoldsIn r opening (happened storer_machine core e o)
  happened_keeps core e None at has h = h
  happened_keeps core e (Some s) at has h = record {
    has = has;
    stores = All-set (λ x. IsStoreIn r x.store) core.actors (of_event e) _ (same_store_in r s.store _ (change_same e core.words s) (all_at (λ x. IsStoreIn r x.store) core.actors (of_event e) s at h.stores)) h.stores;
    kept = change_keeps core e s at h;
  }

  event_keeps : (core : Core Logging) (e : Event) → HoldsIn r opening core → HoldsIn r opening (event storer_machine core e)
  event_keeps core e h = happened_keeps core e (slice_get core.actors (of_event e)) refl (same_bits r core.words (event storer_machine core e).words (run-lengths storer_machine core (e ∷ [])).0 h.has) h

  -- every schedule of steps of any number of storers keeps unlogged bits and logs
  pub schedule_keeps : (core : Core Logging) (schedule : List Event) → HoldsIn r opening core → HoldsIn r opening (run storer_machine core schedule)
  schedule_keeps core schedule h = run-keeps storer_machine (HoldsIn r opening) event_keeps core schedule h

-- at a beginning they hold
module _ (r : Regions) (words : List ℕ) (storers : List Logging) (b : IsBeginning r words storers) where
  abbrev Starts : Logging → Type 0
  Starts s = (s.store.phase ≡ Begun) × (s.log.items ≡ [])

  view_holds : (P : StoreView → Type 0) → ((v : StoreView) → v.log ≡ [] → v.loaded ≡ None → v.ready ≡ None → P v) → All P (map store_view storers)
  view_holds P f = All-map P store_view storers (all_to Starts (λ s. P (store_view s)) storers (λ s start. f (store_view s) start.1 (ap (loaded_by s.store) start.0) (ap (ready_for s.store) start.0)) b.begun)

  no_entries : (at : ℕ) → entries_for at (map store_view storers) ≡ 0
  no_entries at =
      let le = sum_by-le (λ (v : StoreView). count_by (λ e. nat_eq (entry_word e) at) v.log) 0 (map store_view storers)
      (view_holds (λ v. count_by (λ e. nat_eq (entry_word e) at) v.log ≤ 0) (λ v log loaded ready. let q = ap (count_by (λ e. nat_eq (entry_word e) at)) log in omega arith)) in
      omega arith

  pub beginning_holds : UnloggedBitsAndLogs r words words (map store_view storers)
  beginning_holds = record {
    places = b.places;
    only = λ at set. set;
    unwritten = λ at set. refl;
    once = λ at ref. let none = no_entries at in let set = ref.1 in omega arith;
    entries = view_holds (λ v. All (EntryFits r words) v.log) (λ v log loaded ready. subst (All (EntryFits r words)) (sym log) (All-nil (EntryFits r words)));
    loaded = view_holds (λ v. LoadedFits r words words v.loaded) (λ v log loaded ready. subst (λ x. LoadedFits r words words x) (sym loaded) (none_loaded r words words));
    ready = view_holds (λ v. ReadyFits r words words v.ready) (λ v log loaded ready. subst (λ x. ReadyFits r words words x) (sym ready) (none_ready r words words));
  }
