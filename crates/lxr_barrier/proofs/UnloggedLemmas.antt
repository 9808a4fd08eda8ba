-- What a store machine can do keeps unlogged bits and logs: it goes on without a change, it clears the bit as the
-- first or behind another, or it stores.
use Rattle.std.proofs.Common.{◌≡◌, ◌≢◌, ℕ, ◌+◌, ◌<◌, refl, sym, subst, ◌∙◌, arith, Bool, true, false, List, [], ◌∷◌, ◌++◌, nat_eq, set, eq-eqb, ne_eqb}
use Rattle.std.specs.Prelude.{Option, Some, None, slice_get, slice_index}
use Rattle.std.specs.List.{All, count_by}
use Rattle.std.proofs.lemmas.List.Elements.{All-push, All-set}
use Rattle.lxr_layout.specs.declared.limits.Regions.{Regions}
use Rattle.lxr_layout.specs.declared.runs.LogEntry.{LogEntry}
use Rattle.lxr_barrier.specs.Unlogged.{StoreView, UnloggedBitsAndLogs, IsLogged, IsUnlogged, unlogged_bit, entries_for, entry_word}
use Rattle.lxr_barrier.proofs.ViewLemmas.{all_at, all_to, sum_set, count_yes, count_no}

-- bit w is cleared, and nothing else of bits and heap changes
pub record Clears (r : Regions) (words words' : List ℕ) (w : ℕ) : Type 0 where
  pub here : unlogged_bit r words' w ≡ 0
  pub there : (k : ℕ) → k < r.counts → k ≢ w → unlogged_bit r words' k ≡ unlogged_bit r words k
  pub heap : (k : ℕ) → k < r.counts → slice_index words' k ≡ slice_index words k

-- heap word w is stored to, and nothing else of bits and heap changes
pub record StoresTo (r : Regions) (words words' : List ℕ) (w : ℕ) : Type 0 where
  pub bits : (k : ℕ) → k < r.counts → unlogged_bit r words' k ≡ unlogged_bit r words k
  pub heap : (k : ℕ) → k ≢ w → slice_index words' k ≡ slice_index words k

-- to show a fact of a number: at w, and elsewhere
by_number : (P : ℕ → Type 0) (w k : ℕ) → (b : Bool) → nat_eq k w ≡ b → P w → (k ≢ w → P k) → P k
by_number P w k true e here there = let q : w ≡ k = grind arith in subst P q here
by_number P w k false e here there = there (grind arith)

module _ (r : Regions) (opening : List ℕ) where
  abbrev pub EntryFits : LogEntry → Type 0
  EntryFits e = IsUnlogged r opening (entry_word e) × (e.old.0 ≡ slice_index opening (entry_word e))

  abbrev pub LoadedFits : List ℕ → Option LogEntry → Type 0
  LoadedFits words held = (e : LogEntry) → held ≡ Some e → IsUnlogged r words (entry_word e) → e.old.0 ≡ slice_index opening (entry_word e)

  abbrev pub ReadyFits : List ℕ → Option ℕ → Type 0
  ReadyFits words free = (w : ℕ) → free ≡ Some w → IsLogged r words w

  pub none_loaded : (words : List ℕ) → LoadedFits words None
  none_loaded words e q = absurd (cc)

  pub none_ready : (words : List ℕ) → ReadyFits words None
  none_ready words w q = absurd (cc)

  pub one_ready : (words : List ℕ) (w : ℕ) → IsLogged r words w → ReadyFits words (Some w)
  one_ready words w clear k q = subst (IsLogged r words) (let s : w ≡ k = cc in s) clear

  pub one_loaded : (words : List ℕ) (e : LogEntry) → (IsUnlogged r words (entry_word e) → e.old.0 ≡ slice_index opening (entry_word e)) → LoadedFits words (Some e)
  one_loaded words e fits k q = subst (λ x. IsUnlogged r words (entry_word x) → x.old.0 ≡ slice_index opening (entry_word x)) (let s : e ≡ k = cc in s) fits

  -- a step that changes no bit of the heap, and no word whose bit is set
  pub elsewhere : (words words' : List ℕ) (views : List StoreView) → ((k : ℕ) → k < r.counts → unlogged_bit r words' k ≡ unlogged_bit r words k)
      → ((k : ℕ) → IsUnlogged r words k → slice_index words' k ≡ slice_index words k) → UnloggedBitsAndLogs r opening words views → UnloggedBitsAndLogs r opening words' views
  elsewhere words words' views bits heap h =
      let was : (k : ℕ) → IsUnlogged r words' k → IsUnlogged r words k = λ k set. (set.0, sym (bits k set.0) ∙ set.1) in
      record {
        places = h.places;
        only = λ k set. h.only k (was k set);
        unwritten = λ k set. heap k (was k set) ∙ h.unwritten k (was k set);
        once = λ k ref. let o = h.once k ref in let z = bits k ref.0 in omega arith;
        entries = h.entries;
        loaded = all_to (λ x. LoadedFits words x.loaded) (λ x. LoadedFits words' x.loaded) views (λ x fits e p set. fits e p (was (entry_word e) set)) h.loaded;
        ready = all_to (λ x. ReadyFits words x.ready) (λ x. ReadyFits words' x.ready) views (λ x fits k p. ((fits k p).0, bits k (fits k p).0 ∙ (fits k p).1)) h.ready;
      }

  module _ (words : List ℕ) (views : List StoreView) (h : UnloggedBitsAndLogs r opening words views) (i : ℕ) (v : StoreView) (at : slice_get views i ≡ Some v) where
    entries_in : ℕ → StoreView → ℕ
    entries_in w x = count_by (λ e. nat_eq (entry_word e) w) x.log

    -- what the machine shows after a step, and what all show then
    abbrev after : List LogEntry → Option LogEntry → Option ℕ → StoreView
    after log loaded ready = record { log = log; loaded = loaded; ready = ready }

    -- a step that changes neither words nor log
    pub quiet : (loaded : Option LogEntry) (ready : Option ℕ) → LoadedFits words loaded → ReadyFits words ready
        → UnloggedBitsAndLogs r opening words (set views i (after v.log loaded ready))
    quiet loaded ready p q = record {
      places = h.places;
      only = h.only;
      unwritten = h.unwritten;
      once = λ w ref. let s = sum_set (λ x. count_by (λ e. nat_eq (entry_word e) w) x.log) views i v (after v.log loaded ready) at in let o = h.once w ref in omega arith;
      entries = All-set (λ x. All EntryFits x.log) views i _ (all_at (λ x. All EntryFits x.log) views i v at h.entries) h.entries;
      loaded = All-set (λ x. LoadedFits words x.loaded) views i _ p h.loaded;
      ready = All-set (λ x. ReadyFits words x.ready) views i _ q h.ready;
    }

    module _ (words' : List ℕ) (w : ℕ) (heap : w < r.counts) (c : Clears r words words' w) where
      still_set : (k : ℕ) → k < r.counts → unlogged_bit r words' k ≡ 1 → unlogged_bit r words k ≡ 1
      still_set k lt = by_number (λ x. x < r.counts → unlogged_bit r words' x ≡ 1 → unlogged_bit r words x ≡ 1) w k (nat_eq k w) refl (λ lt e. let z = c.here in absurd (omega arith)) (λ ne lt e. sym (c.there k lt ne) ∙ e) lt

      still_clear : (k : ℕ) → k < r.counts → unlogged_bit r words k ≡ 0 → unlogged_bit r words' k ≡ 0
      still_clear k lt = by_number (λ x. x < r.counts → unlogged_bit r words x ≡ 0 → unlogged_bit r words' x ≡ 0) w k (nat_eq k w) refl (λ lt e. c.here) (λ ne lt e. c.there k lt ne ∙ e) lt

      cleared : (log : List LogEntry) → ((k : ℕ) → IsUnlogged r opening k → entries_for k (set views i (after log None (Some w))) + unlogged_bit r words' k ≡ 1) → All EntryFits log
          → UnloggedBitsAndLogs r opening words' (set views i (after log None (Some w)))
      cleared log once entries = record {
        places = h.places;
        only = λ k set. h.only k (set.0, still_set k set.0 set.1);
        unwritten = λ k set. c.heap k set.0 ∙ h.unwritten k (set.0, still_set k set.0 set.1);
        once = once;
        entries = All-set (λ x. All EntryFits x.log) views i _ entries h.entries;
        loaded = All-set (λ x. LoadedFits words' x.loaded) views i _ (none_loaded words') (all_to (λ x. LoadedFits words x.loaded) (λ x. LoadedFits words' x.loaded) views (λ x fits e q set. fits e q (set.0, still_set (entry_word e) set.0 set.1)) h.loaded);
        ready = All-set (λ x. ReadyFits words' x.ready) views i _ (one_ready words' w (heap, c.here)) (all_to (λ x. ReadyFits words x.ready) (λ x. ReadyFits words' x.ready) views (λ x fits k q. ((fits k q).0, still_clear k (fits k q).0 (fits k q).1)) h.ready);
      }

      -- the first to clear the bit records what it loaded
      pub first_clear : (e : LogEntry) → entry_word e ≡ w → v.loaded ≡ Some e → unlogged_bit r words w ≡ 1 → UnloggedBitsAndLogs r opening words' (set views i (after (v.log ++ e ∷ []) None (Some w)))
      first_clear e is loaded was =
          let log : List LogEntry = v.log ++ e ∷ [] in
          let test = λ (k : ℕ) (x : LogEntry). nat_eq (entry_word x) k in
          let sums = λ (k : ℕ). sum_set (λ x. count_by (test k) x.log) views i v (after log None (Some w)) at in
          let more = count_yes (test w) v.log e (eq-eqb (entry_word e) w is) in
          let value = all_at (λ x. LoadedFits words x.loaded) views i v at h.loaded e loaded (subst (IsUnlogged r words) (sym is) (heap, was)) in
          cleared log
          (λ k. by_number (λ x. IsUnlogged r opening x → entries_for x (set views i (after log None (Some w))) + unlogged_bit r words' x ≡ 1) w k (nat_eq k w) refl
          (λ ref. let s = sums w in let o = h.once w ref in let z = c.here in omega arith)
          (λ ne ref. let s = sums k in let o = h.once k ref in let z = c.there k ref.0 ne in let same = count_no (test k) v.log e (ne_eqb (entry_word e) k (λ q. ne (sym q ∙ is))) in omega arith))
          (All-push EntryFits v.log e (all_at (λ x. All EntryFits x.log) views i v at h.entries) (subst (λ x. IsUnlogged r opening x) (sym is) (h.only w (heap, was)), value))

      -- who comes late records nothing
      pub late_clear : unlogged_bit r words w ≡ 0 → UnloggedBitsAndLogs r opening words' (set views i (after v.log None (Some w)))
      late_clear was =
          let sums = λ (k : ℕ). sum_set (λ x. count_by (λ e. nat_eq (entry_word e) k) x.log) views i v (after v.log None (Some w)) at in
          cleared v.log
          (λ k. by_number (λ x. IsUnlogged r opening x → entries_for x (set views i (after v.log None (Some w))) + unlogged_bit r words' x ≡ 1) w k (nat_eq k w) refl
          (λ ref. let s = sums w in let o = h.once w ref in let z = c.here in omega arith)
          (λ ne ref. let s = sums k in let o = h.once k ref in let z = c.there k ref.0 ne in omega arith))
          (all_at (λ x. All EntryFits x.log) views i v at h.entries)

    -- a store comes after its bit was cleared
    pub stored : (words' : List ℕ) (w : ℕ) → StoresTo r words words' w → v.ready ≡ Some w → UnloggedBitsAndLogs r opening words' (set views i (after v.log None None))
    stored words' w s ready =
        let clear = all_at (λ x. ReadyFits words x.ready) views i v at h.ready w ready in
        let q = quiet None None (none_loaded words) (none_ready words) in
        elsewhere words words' _ s.bits (λ k set. s.heap k (λ e. let z = subst (IsUnlogged r words) e set in absurd (omega arith))) q
