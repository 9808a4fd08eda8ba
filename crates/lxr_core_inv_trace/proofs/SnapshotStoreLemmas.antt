-- What a mutator stores to, or swaps, has no unlogged bit: so a reference that has it holds what it held at the last pause, and goes on to. The mutator
-- that clears the bit logs what that was.
use Rattle.std.proofs.Common.{◌≡◌, ℕ, ◌<◌, ◌≤◌, refl, sym, ap, subst, ◌∙◌, inl, inr, ◌⊎◌, arith, Bool, true, false, cond, List, [], ◌∷◌, ◌++◌, IsTrue, length, nat_eq}
use Rattle.std.specs.Prelude.{Some, None, if◌then◌else◌, is_some, slice_get, slice_index_or}
use Rattle.std.proofs.lemmas.Option.{get_or_from_slice_get, slice_get_within}
use Rattle.lxr_layout.specs.declared.TheConstants.{REGISTERS}
use Rattle.lxr_layout.specs.declared.LogEntry.{LogEntry}
use Rattle.lxr_layout.specs.declared.Name.{Name}
use Rattle.lxr_layout.specs.declared.Place.{Place}
use Rattle.lxr_layout.specs.declared.Shape.{Shape}
use Rattle.lxr_layout.specs.Places.{field_word}
use Rattle.lxr_graph.specs.declared.Op.{Op}
use Rattle.lxr_graph.specs.declared.Op.TheVariants as op
use Rattle.lxr_graph.specs.declared.Reply.{Reply}
use Rattle.lxr_graph.specs.declared.Reply.TheVariants as reply
use Rattle.lxr_graph.specs.Names.{has}
use Rattle.lxr_graph.specs.State.{State, object_at, refs_of, register_at}
use Rattle.lxr_graph.specs.Step.{state_after, step}
use Rattle.lxr_graph.proofs.NameSets.{not_both}
use Rattle.lxr_image.specs.Image.{place_word}
use Rattle.lxr_model.specs.Moments.{Moment}
use Rattle.lxr_model_counting.specs.Distinct.{has_field}
use Rattle.lxr_model_counting.proofs.DistinctLemmas.{tested}
use Rattle.lxr_model_counting.proofs.ReplyLemmas.{state_after_step}
use Rattle.lxr_model_counting.proofs.StoreLemmas.{WritesField, step_keeps}
use Rattle.lxr_invariant.specs.AbstractState.{members}
use Rattle.lxr_invariant.specs.Standing.{word_of_field}
use Rattle.lxr_invariant.specs.Tracing.{IsOldValue}
use Rattle.lxr_invariant.proofs.EntryLemmas.{changed_cases, equal_numbers}
use Rattle.lxr_invariant.proofs.NameLemmas.{in_first}
use Rattle.lxr_core_invariant.specs.ThreadStates.{Stage, ThreadState, Clears, Stores, Works, held}
use Rattle.lxr_core_invariant.specs.EpochStates.{Beginning, EpochState, limits_of, moment_of}
use Rattle.lxr_core_invariant.specs.Events.{Does, bad_at, base_of, is_for_reference}
use Rattle.lxr_core_invariant.specs.Happening.{MayClearFirst, MayDoAtOnce, MayFindNone, MayStore, MaySwap, with_logged}
use Rattle.lxr_core_invariant.specs.Imaged.{Knows, KnowsReference}
use Rattle.lxr_core_invariant.specs.Epoch.{IsEpoch}
use Rattle.lxr_core_invariant.proofs.ActingLemmas.{Acts, IsBase, acts, base_held, base_nil, same_pair}
use Rattle.lxr_invariant.proofs.FieldLemmas.{field_found}
use Rattle.lxr_core_invariant.proofs.ShowingLemmas.{op_formed}
use Rattle.lxr_core_invariant.proofs.TellingLemmas.{told_is}
use Rattle.lxr_core_inv_trace.proofs.SnapshotFindLemmas.{HeldThen, HoldsNow}
use Rattle.lxr_core_inv_trace.proofs.SnapshotOldLemmas.{old_right}

-- ---- what writes

-- an operation of a thread is a store or a swap of reference i of n's object
abbrev pub WritesTo : State → ℕ → Op → Name → ℕ → Type 0
WritesTo s t (op.Store base index source) n i = (register_at s t base ≡ Some n) × (index ≡ i)
WritesTo s t (op.Swap dest base index source) n i = (register_at s t base ≡ Some n) × (index ≡ i)
WritesTo s t _ n i = ⊥

-- what writes a reference is one
field_written : (s : State) (t : ℕ) (o : Op) (r : Reply) (n : Name) (i : ℕ) → WritesField s t o r n i → WritesTo s t o n i
field_written s t (op.Store base index source) reply.Stored n i w = w
field_written s t (op.Swap dest base index source) (reply.Swapped found) n i w = w
field_written s t o r n i w = absurd w

module _ (b : Beginning) (s : EpochState) (i : ℕ) (v : ThreadState) (is : IsEpoch b s) (shown : slice_get s.thread_states i ≡ Some v) where
  abbrev m : Moment
  m = moment_of b s

  member : (n : Name) → IsTrue (has m.unreclaimed n) → IsTrue (has (members m) n)
  member n h = in_first m.unreclaimed m.made n h

  acting : Acts s.tables (limits_of b).blocks s.at m v
  acting = acts b s i v is shown

  -- what the mutator knows in a stage
  pub known : (stage : Stage) → v.stage ≡ stage → Knows s.tables m s.at v stage
  known stage same = subst (Knows s.tables m s.at v) same (is.image.placed.knows i v shown)

  -- a reference that waits: it has its unlogged bit, and holds a name
  pub record IsWaiting (n o : Name) (k : ℕ) : Type 0 where
    pub member : IsTrue (has m.unreclaimed n)
    pub unlogged : IsTrue (s.tables.unlogged (word_of_field s.at n k))
    pub holds : HoldsNow m n k o

  within : (n o : Name) (k : ℕ) → IsWaiting n o k → k < length (refs_of (object_at m.state.graph n))
  within n o k waits = slice_get_within (refs_of (object_at m.state.graph n)) k (Some o) waits.holds

  -- it isn't cleared
  uncleared : (n o : Name) (k : ℕ) → IsWaiting n o k → has_field s.cleared (n, k) ≡ false
  uncleared n o k waits =
      let (q, j, x) = (is.logged.bits.unlogged (word_of_field s.at n k)).0 waits.unlogged in
      let one = field_found s.tables (limits_of b).blocks s.at m.state.graph (members m) is.image.placed.image q n j k (member q x.member) (member n waits.member) x.index (within n o k waits) (sym x.word) in
      ap (λ z. has_field s.cleared (z, k)) (sym one.0) ∙ ap (λ z. has_field s.cleared (q, z)) (sym one.1) ∙ x.unwritten

  -- so it holds what it held at the last pause
  held_then : (n o : Name) (k : ℕ) → IsWaiting n o k → HeldThen m n k o
  held_then n o k waits =
      let unwritten : has_field m.written (n, k) ≡ false = elim (tested (has_field m.written (n, k))) [
        | inl w ↦ not_both (has_field s.cleared (n, k)) (is.logged.written n k w) (uncleared n o k waits)
        | inr none ↦ none
      ] in
      sym (is.lives.unwritten n k waits.member unwritten) ∙ waits.holds

  -- ---- a bit is cleared

  -- the entry of such a reference has the place of what it holds
  entry_old : (e : LogEntry) (n o : Name) (k : ℕ) → v.stage ≡ Works (Clears e) → IsWaiting n o k → e.place.0 ≡ s.at n → e.index ≡ k → e.old.0 ≡ s.at o
  entry_old e n o k stage waits place index =
      let new : has_field s.cleared (n, e.index) ≡ false = ap (λ z. has_field s.cleared (n, z)) index ∙ uncleared n o k waits in
      let entry = (is.logged.loaded i v e shown stage).first n waits.member place new in
      let old = get_or_from_slice_get (refs_of (object_at m.last.graph n)) k (Some o) None (held_then n o k waits) in
      ap (λ (z : LogEntry). z.old.0) entry ∙ ap (λ z. place_word s.at (slice_index_or (refs_of (object_at m.last.graph n)) z None)) index ∙ ap (place_word s.at) old

  -- it keeps its bit, or what it holds is in the log
  pub clears_logs : (e : LogEntry) (c : Name) (w : ThreadState) → MayClearFirst b s v e c → w.log.items ≡ v.log.items ++ e ∷ [] → (n o : Name) (k : ℕ) → IsWaiting n o k
      → IsTrue ((with_logged s.tables (field_word e.place.0 e.index)).unlogged (word_of_field s.at n k)) ⊎ IsOldValue w.log.items (s.at o)
  clears_logs e c w may log n o k waits = elim (changed_cases s.tables.unlogged (field_word e.place.0 e.index) false (word_of_field s.at n k)) [
    | inr q ↦ inl (q.1 ∙ waits.unlogged)
    | inl q ↦
        let knows : KnowsReference m s.at v e.place.0 e.index = known (Works (Clears e)) may.clear.stage in
        let st = knows.stands in
        let inside : e.index < length (refs_of (object_at m.state.graph st.name)) = subst (λ z. e.index < length (refs_of z)) (sym st.is) st.within in
        let word : word_of_field s.at st.name e.index ≡ word_of_field s.at n k = ap (λ p. field_word p e.index) (sym st.stands) ∙ sym q.0 in
        let one = field_found s.tables (limits_of b).blocks s.at m.state.graph (members m) is.image.placed.image st.name n e.index k st.member (member n waits.member) inside (within n o k waits) word in
        let old = entry_old e n o k may.clear.stage waits (st.stands ∙ ap s.at one.0) one.1 in
        inr (subst (λ z. IsOldValue z (s.at o)) (sym log) (old_right v.log.items (e ∷ []) (s.at o) (0, e, refl, old)))
  ]

  -- ---- a call

  -- a call that doesn't write it leaves it
  pub call_leaves : (op : Op) (n o : Name) (k : ℕ) → IsWaiting n o k → (WritesTo m.state v.thread op n k → ⊥) → HoldsNow (record m { state = state_after m.state v.thread op (step m.state v.thread op).1 }) n k o
  call_leaves op n o k waits never =
      let some = acting.thread in
      let row = acting.row in
      let registers = is.lives.registers in
      let keeps = step_keeps m.state v.thread op row (omega (arith, some, row, registers)) in
      elim (keeps.fields n k (ap is_some (is.lives.objects n waits.member).3)) [
        | inl same ↦ ap (λ (z : State). slice_get (refs_of (object_at z.graph n)) k) (state_after_step m.state v.thread op) ∙ same ∙ waits.holds
        | inr w ↦ absurd (never (field_written m.state v.thread op (step m.state v.thread op).1 n k w))
      ]

  -- what a write names is the object that its mutator works on
  named_is : (o : Op) (place index base k : ℕ) (n : Name) → (own : IsBase s.at m v o place index) → base_of o ≡ Some (base, k) → register_at m.state v.thread base ≡ Some n → (own.name ≡ n) × (k ≡ index)
  named_is o place index base k n own named holds =
      let same = same_pair base k own.base index (sym named ∙ own.named) in
      let both : Some own.name ≡ Some n = sym own.holds ∙ ap (register_at m.state v.thread) (sym same.0) ∙ holds in
      (cc, same.1)

  -- the store or the swap itself: its mutator cleared the bit, or saw it clear
  write_never : (o : Op) (place index base : ℕ) → v.stage ≡ Works (Stores place index) → Does v o → base_of o ≡ Some (base, index) → (n p : Name) (k : ℕ) → IsWaiting n p k
      → (register_at m.state v.thread base ≡ Some n) × (index ≡ k) → ⊥
  write_never o place index base stage does named n p k waits writes =
      let knows : KnowsReference m s.at v place index = known (Works (Stores place index)) stage in
      let own = base_held s.tables (limits_of b).blocks s.at m v o place index acting does knows.on in
      let is_it = named_is o place index base index n own named writes.0 in
      let cleared = is.logged.stores i v place index n shown stage waits.member (own.stands ∙ ap s.at is_it.0) in
      not_both (has_field s.cleared (n, index)) cleared (ap (λ z. has_field s.cleared (n, z)) writes.1 ∙ uncleared n p k waits)

  pub store_never : (o : Op) (place index value : ℕ) → MayStore v o place index value → (n p : Name) (k : ℕ) → IsWaiting n p k → WritesTo m.state v.thread o n k → ⊥
  store_never o place index value may n p k waits writes =
      write_never o place index may.base may.stage may.does (ap base_of may.stores) n p k waits (subst (λ z. WritesTo m.state v.thread z n k) may.stores writes)

  pub swap_never : (o : Op) (dest place index value : ℕ) → MaySwap v o dest place index value → (n p : Name) (k : ℕ) → IsWaiting n p k → WritesTo m.state v.thread o n k → ⊥
  swap_never o dest place index value may n p k waits writes =
      write_never o place index may.base may.stage may.does (ap base_of may.swaps) n p k waits (subst (λ z. WritesTo m.state v.thread z n k) may.swaps writes)

  -- one that finds its index past the references
  past_never : (o : Op) (base j : ℕ) → base_of o ≡ Some (base, j) → is_for_reference o ≡ true → MayFindNone s.tables v o → (n p : Name) (k : ℕ) → IsWaiting n p k
      → (register_at m.state v.thread base ≡ Some n) × (j ≡ k) → ⊥
  past_never o base j named reference may n p k waits writes =
      let own = base_held s.tables (limits_of b).blocks s.at m v o may.place may.index acting may.reads.does may.reads.on in
      let is_it = named_is o may.place may.index base j n own named writes.0 in
      let told = told_is s.tables (limits_of b).blocks s.at m.state.graph (members m) own.name may.reads.name own.object may.shape may.place is.image.placed.image own.member own.is own.stands may.reads.told in
      let many : may.shape.refs ≡ length (refs_of (object_at m.state.graph n)) =
      ap (λ (z : Shape). z.refs) told.1 ∙ sym (ap (λ z. length (refs_of z)) own.is) ∙ ap (λ z. length (refs_of (object_at m.state.graph z))) is_it.0 in
      let past : may.shape.refs ≤ may.index = subst (λ (c : Bool). (if c then may.shape.refs else may.shape.values) ≤ may.index) reference may.past in
      let number = is_it.1 in
      let here = writes.1 in
      let inside = within n p k waits in
      omega (arith, many, past, number, here, inside)

  pub none_never : (o : Op) → MayFindNone s.tables v o → (n p : Name) (k : ℕ) → IsWaiting n p k → WritesTo m.state v.thread o n k → ⊥
  none_never (op.Store base index source) may n p k waits writes = past_never (op.Store base index source) base index refl refl may n p k waits writes
  none_never (op.Swap dest base index source) may n p k waits writes = past_never (op.Swap dest base index source) base index refl refl may n p k waits writes
  none_never o may n p k waits writes = absurd writes

  -- one that is done at once finds nil in its base register
  nil_base : (base : ℕ) (nil : Bool) (answer : Reply × List Place) (q : Reply × List Place) → nat_eq (held v base).0 0 ≡ nil → cond nil (Some answer) None ≡ Some q → (held v base).0 ≡ 0
  nil_base base true answer q tells e = equal_numbers (held v base).0 0 tells
  nil_base base false answer q tells e = absurd (cc)

  nil_never : (base : ℕ) (r : Reply) (registers : List Place) → base < REGISTERS → bad_at v base ≡ Some (r, registers) → (n : Name) → register_at m.state v.thread base ≡ Some n → ⊥
  nil_never base r registers formed replies n holds =
      let nothing = nil_base base (nat_eq (held v base).0 0) (reply.Bad, v.registers) (r, registers) refl replies in
      let none = base_nil s.tables (limits_of b).blocks s.at m v base acting formed nothing in
      let both : None ≡ Some n = sym none ∙ holds in
      cc

  pub at_once_never : (o : Op) (r : Reply) (registers : List Place) → MayDoAtOnce s.tables v o r registers → (n : Name) (k : ℕ) → WritesTo m.state v.thread o n k → ⊥
  at_once_never (op.Store base index source) r registers may n k writes =
      let formed = op_formed v (op.Store base index source) acting.formed may.does in
      nil_never base r registers formed.0 may.replies n writes.0
  at_once_never (op.Swap dest base index source) r registers may n k writes =
      let formed = op_formed v (op.Swap dest base index source) acting.formed may.does in
      nil_never base r registers formed.1 may.replies n writes.0
  at_once_never o r registers may n k writes = absurd writes
