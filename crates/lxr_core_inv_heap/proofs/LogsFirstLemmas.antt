-- What the first store to a reference since the last pause does: it clears the bit and records the entry.
use Rattle.std.proofs.Common.{◌≡◌, ℕ, ◌<◌, ◌≤◌, refl, sym, ap, subst, ◌∙◌, inl, inr, ◌⊎◌, arith, false, true, List, ◌∷◌, length, map}
use Rattle.std.specs.Prelude.{Some, IsTrue, slice_get, slice_set}
use Rattle.std.specs.List.Sorted.{IsPermutation}
use Rattle.std.proofs.lemmas.List.{length_push}
use Rattle.std.proofs.lemmas.List.Sorted.{IsPermutation-cons, IsPermutation-sym, IsPermutation-trans}
use Rattle.lxr_layout.specs.Places.{field_word}
use Rattle.lxr_layout.specs.declared.LogEntry.{LogEntry}
use Rattle.lxr_layout.specs.declared.Name.{Name}
use Rattle.lxr_base.specs.Roomy.{pushed}
use Rattle.lxr_graph.specs.Names.{has}
use Rattle.lxr_graph.specs.State.{object_at, refs_of}
use Rattle.lxr_image.specs.Tables.{Tables}
use Rattle.lxr_model.specs.Moments.{Field, Moment, same_field}
use Rattle.lxr_model_counting.specs.Distinct.{has_field}
use Rattle.lxr_model_counting.specs.Following.{FollowsPause}
use Rattle.lxr_model_counting.proofs.DistinctLemmas.{field_split, first_field, later_field, or_false}
use Rattle.lxr_invariant.specs.AbstractState.{members}
use Rattle.lxr_invariant.specs.Standing.{entry_of}
use Rattle.lxr_invariant.proofs.NameLemmas.{in_first}
use Rattle.lxr_core_invariant.specs.ThreadStates.{ThreadState, Clears, Stores, Works}
use Rattle.lxr_core_invariant.specs.Happening.{intends, with_logged}
use Rattle.lxr_core_invariant.specs.Imaged.{IsReferenceAt}
use Rattle.lxr_core_invariant.specs.Logged.{logs_of}
use Rattle.lxr_core_invariant.proofs.TellingLemmas.{one_place}
use Rattle.lxr_core_inv_heap.proofs.LogsReferenceLemmas.{ImageOf, cleared_bits, set_is_uncleared, within_object}
use Rattle.lxr_core_inv_heap.proofs.LogsTurnLemmas.{HasLogs, StoresTo, ThreadStatesTell}
use Rattle.lxr_core_inv_heap.proofs.LogsThreadStateLemmas.{logs_grow, one_shown, put_here, put_other}
use Rattle.lxr_core_invariant.proofs.ShowingLemmas.{shown_cases}

-- the thread state of a mutator that has recorded an entry
abbrev pub recording : ThreadState → LogEntry → ThreadState
recording v e = intends (record v { log = pushed v.log e }) (Stores e.place.0 e.index)

-- What holds where a mutator clears a bit that was set: it works on the reference of the object of a name.
pub record ClearsBit (t : Tables) (blocks : ℕ) (m : Moment) (at : Name → ℕ) (v : ThreadState) (e : LogEntry) (n : Name) : Type 0 where
  pub follows : FollowsPause m
  pub image : ImageOf t blocks at m
  pub is : IsReferenceAt m at e.place.0 e.index
  pub set : t.unlogged (field_word e.place.0 e.index) ≡ true
  pub member : IsTrue (has (members m) n)
  pub here : e.place.0 ≡ at n
  pub stage : v.stage ≡ Works (Clears e)
  pub room : length v.log.items < v.log.room

module _ (t : Tables) (blocks : ℕ) (m : Moment) (at : Name → ℕ) (cleared : List Field) (thread_states : List ThreadState) (room i : ℕ) (v : ThreadState) (e : LogEntry) (n : Name)
    (does : ClearsBit t blocks m at v e n) (there : slice_get thread_states i ≡ Some v) (is : HasLogs t m at cleared thread_states room) where
  -- the reference is an unreclaimed object's, and isn't cleared yet
  new_field : IsTrue (has m.unreclaimed n) × (has_field cleared (n, e.index) ≡ false)
  new_field = set_is_uncleared t blocks at m cleared e.place.0 e.index n does.image is.bits does.is does.set does.member does.here

  -- it is a reference of what the object was at the last pause
  within_last : e.index < length (refs_of (object_at m.last.graph n))
  within_last =
      let shape = does.follows.objects n new_field.0 in
      let now = within_object t blocks at m e.place.0 e.index n does.image does.is does.member does.here in
      let same : length (refs_of (object_at m.state.graph n)) ≡ length (refs_of (object_at m.last.graph n)) =
      ap (λ z. length (refs_of z)) shape.3 ∙ shape.4.refs ∙ sym (ap (λ z. length (refs_of z)) shape.2) in
      subst (λ z. e.index < z) same now

  -- the entry is that of the last pause
  entry_is : e ≡ entry_of m at (n, e.index)
  entry_is = (is.thread_states_tell.loaded i v e there does.stage).first n new_field.0 does.here new_field.1

  -- the logs have one entry more, that of the reference
  logs_after : IsPermutation (map (entry_of m at) ((n, e.index) ∷ cleared)) (logs_of (slice_set thread_states i (recording v e)))
  logs_after =
      let xs : List LogEntry = map (entry_of m at) cleared in
      let front : IsPermutation (e ∷ xs) (e ∷ logs_of thread_states) = IsPermutation-cons e xs (logs_of thread_states) is.logs in
      let grown = IsPermutation-sym (logs_of (slice_set thread_states i (recording v e))) (e ∷ logs_of thread_states) (logs_grow thread_states i v (recording v e) e there refl) in
      subst (λ z. IsPermutation (z ∷ xs) (logs_of (slice_set thread_states i (recording v e)))) entry_is (IsPermutation-trans (e ∷ xs) (e ∷ logs_of thread_states) (logs_of (slice_set thread_states i (recording v e))) front grown)

  -- the reference that joins the cleared ones is an unreclaimed object's
  fields_after : (q : Name) (k : ℕ) → IsTrue (has_field ((n, e.index) ∷ cleared) (q, k)) → IsTrue (has m.unreclaimed q) × (k < length (refs_of (object_at m.last.graph q)))
  fields_after q k h = elim (field_split (n, e.index) cleared (q, k) h) [
    | inl same ↦ subst (λ (z : Field). IsTrue (has m.unreclaimed z.0) × (z.1 < length (refs_of (object_at m.last.graph z.0)))) (sym same) (new_field.0, within_last)
    | inr old ↦ is.fields q k old
  ]

  -- its own field is about to be stored to, and who was about to store still is
  cleared_after : (q : Name) (k : ℕ) → IsTrue (has_field ((n, e.index) ∷ cleared) (q, k)) → IsTrue (has_field m.written (q, k)) ⊎ StoresTo at (slice_set thread_states i (recording v e)) q k
  cleared_after q k h = elim (field_split (n, e.index) cleared (q, k) h) [
    | inl same ↦ inr (record {
      number = i;
      thread_state = recording v e;
      shows = put_here thread_states i v (recording v e) there;
      stage = ap (λ z. Works (Stores z e.index)) does.here ∙ ap (λ (z : Field). Works (Stores (at z.0) z.1)) (sym same);
    })
    | inr old ↦ elim (is.cleared_are q k old) [
      | inl w ↦ inl w
      | inr w ↦ inr (record {
        number = w.number;
        thread_state = w.thread_state;
        shows = put_other thread_states i w.number (recording v e) (λ same. clears_or_stores e (at q) k (sym does.stage ∙ ap (λ (z : ThreadState). z.stage) (sym (one_shown thread_states i w.number v w.thread_state there w.shows same)) ∙ w.stage)) ∙ w.shows;
        stage = w.stage;
      })
    ]
  ]
    where
      -- to clear is not to store
      clears_or_stores : (e : LogEntry) (place index : ℕ) → Works (Clears e) ≡ Works (Stores place index) → ⊥
      clears_or_stores e place index same = absurd (let k : Clears e ≡ Stores place index = cc in cc)

  -- what each mutator shows stays true
  thread_states_after : ThreadStatesTell m at ((n, e.index) ∷ cleared) (slice_set thread_states i (recording v e)) room
  thread_states_after = record {
    loaded = λ j x f h stage. elim (shown_cases thread_states i v (recording v e) j x there h) [
      | inl q ↦ absurd (stores_or_clears e.place.0 e.index f (ap (λ (z : ThreadState). z.stage) (sym q.1) ∙ stage))
      | inr q ↦ let old = is.thread_states_tell.loaded j x f q.1 stage in
          record { room = old.room; first = λ p member here none. old.first p member here (or_false (same_field (p, f.index) (n, e.index)) (has_field cleared (p, f.index)) none).1 }
    ];
    stores = λ j x place index p h stage member here. elim (shown_cases thread_states i v (recording v e) j x there h) [
      | inl q ↦ own place index p (ap (λ (z : ThreadState). z.stage) (sym q.1) ∙ stage) member here
      | inr q ↦ later_field (n, e.index) cleared (p, index) (is.thread_states_tell.stores j x place index p q.1 stage member here)
    ];
    rooms = λ j x h. elim (shown_cases thread_states i v (recording v e) j x there h) [
      | inl q ↦ subst (λ z. (z.room ≡ room) × (length z.items ≤ z.room)) (sym (ap (λ (z : ThreadState). z.log) q.1))
          ((is.thread_states_tell.rooms i v there).0, (let long = length_push v.log.items e in let few = does.room in omega (arith, long, few)))
      | inr q ↦ is.thread_states_tell.rooms j x q.1
    ];
  }
    where
      -- to store is not to clear
      stores_or_clears : (place index : ℕ) (f : LogEntry) → Works (Stores place index) ≡ Works (Clears f) → ⊥
      stores_or_clears place index f same = absurd (let k : Stores place index ≡ Clears f = cc in cc)

      -- the mutator is about to store to what it cleared
      own : (place index : ℕ) (p : Name) → Works (Stores e.place.0 e.index) ≡ Works (Stores place index) → IsTrue (has m.unreclaimed p) → place ≡ at p → IsTrue (has_field ((n, e.index) ∷ cleared) (p, index))
      own place index p stage member here =
          let intent : Stores e.place.0 e.index ≡ Stores place index = cc in
          let place_is : e.place.0 ≡ place = cc in
          let index_is : e.index ≡ index = cc in
          let name_is : n ≡ p = one_place t blocks at m.state.graph (members m) n p does.image does.member (in_first m.unreclaimed m.made p member) (sym does.here ∙ place_is ∙ here) in
          subst (λ z. IsTrue (has_field ((n, e.index) ∷ cleared) (z, index))) name_is (subst (λ z. IsTrue (has_field ((n, e.index) ∷ cleared) (n, z))) index_is (first_field (n, e.index) cleared))

  -- the whole
  pub first_keeps_logs : HasLogs (with_logged t (field_word e.place.0 e.index)) m at ((n, e.index) ∷ cleared) (slice_set thread_states i (recording v e)) room
  first_keeps_logs = record {
    once = (new_field.1, is.once);
    fields = fields_after;
    bits = cleared_bits t blocks at m cleared e.place.0 e.index n does.image is.bits does.is new_field.0 does.here;
    logs = logs_after;
    written = λ q k h. later_field (n, e.index) cleared (q, k) (is.written q k h);
    cleared_are = cleared_after;
    thread_states_tell = thread_states_after;
  }
