-- What logged references and registers hold: each log entry is a written field, and a register's place changed exactly where
-- what it holds did. What is raised is fixed, and stays so.
use Rattle.std.proofs.Common.{◌≡◌, ◌≢◌, ℕ, zero, suc, ◌+◌, ◌<◌, ◌≤◌, refl, sym, ap, subst, ◌∙◌, inl, inr, ◌⊎◌, arith, Bool, true, false, List, [], ◌∷◌, IsTrue, length}
use Rattle.std.specs.Prelude.{not, ◌&&◌, Option, None, Some, count_by, map, slice_get, slice_index_or, take}
use Rattle.std.specs.List.{zip}
use Rattle.std.proofs.Math.ListN.{length-map}
use Rattle.std.proofs.lemmas.Bool.{or_right}
use Rattle.std.proofs.lemmas.Bool.Decides.{eqb_tells}
use Rattle.std.proofs.lemmas.List.Sorted.{length_permutation}
use Rattle.std.proofs.lemmas.Option.{slice_get-get_or, slice_get_within}
use Rattle.lxr_layout.specs.declared.Name.{Name}
use Rattle.lxr_layout.specs.declared.Place.{Place}
use Rattle.lxr_layout.specs.declared.LogEntry.{LogEntry}
use Rattle.lxr_layout.specs.Registers.{held_at, nil}
use Rattle.lxr_image.specs.Registers.{AreSame}
use Rattle.lxr_graph.specs.Names.{has, same_held}
use Rattle.lxr_graph.proofs.NameSets.{has-union}
use Rattle.lxr_graph.proofs.RowLemmas.{slice_get-mapped}
use Rattle.lxr_image.specs.declared.space.Space.{Space}
use Rattle.lxr_image.specs.Image.{ArePlacesOf, place_word}
use Rattle.lxr_image.proofs.PassedLemmas.{passed_over}
use Rattle.lxr_model.specs.Reachable as reach
use Rattle.lxr_model.specs.Moments.{Field, Moment}
use Rattle.lxr_model.specs.Reports.{field_holds, newly_held}
use Rattle.lxr_model.proofs.CountLemmas.{held_same}
use Rattle.lxr_model_counting.specs.Distinct.{has_field}
use Rattle.lxr_model_counting.proofs.BalanceLemmas.{count_permuted, has_field_permuted, same_sizes}
use Rattle.lxr_model_counting.proofs.DistinctLemmas.{field_split, first_field, later_field}
use Rattle.lxr_invariant.specs.AbstractState.{members}
use Rattle.lxr_invariant.specs.Standing.{entry_of}
use Rattle.lxr_invariant.proofs.EntryLemmas.{one_if}
use Rattle.lxr_invariant.proofs.NameLemmas.{in_first, live_member}
use Rattle.lxr_pause_promote.specs.Either.{HoldsEither, IsPlaceOf}
use Rattle.lxr_pause_increments.specs.Increments.{IsIncrementing, RaisingLeaves, IncrementStage}
use Rattle.lxr_pause_increments.specs.Accounted.{GoesOn, HasRaisedEntries, HasRaisedRoots, IsEven, IsFieldRaised, IsHolder, IsLogOrder, IsPassed, IsRaisable, IsRegisterFixed, IsSettled, Raisings, Settles, fields_held, fields_raise, none_raised, references_at, roots_held, roots_raise, stage_with_held}
use Rattle.lxr_pause_increments.specs.Steps.{AtLater, EntersField, FixesRegister, HeldIsRaised}
use Rattle.lxr_pause_increments.proofs.HeldLemmas.{was_promoted}
use Rattle.lxr_pause_increments.proofs.MovingLemmas.{place_some, unreclaimed_still}
use Rattle.lxr_pause_increments.proofs.StageLemmas.{all_made}
use Rattle.lxr_pause_increments.proofs.RememberedLemmas.{raised_on, stays_none}
use Rattle.lxr_pause_increments.proofs.DrawnLemmas.{at_most_one, fixed_raised, maybe_drawn, none_drawn, not_taken, not_written, passed_on, taken_here, taken_more}
use Rattle.lxr_pause_increments.proofs.FewLemmas.{few_held}
use Rattle.lxr_pause_increments.proofs.OrderLemmas.{accounts_held, accounts_same, counted_more, unmapped, zip_got, zip_taken}

-- ---- logged references

pub got_field : (ws : List Field) (i : ℕ) (w : Field) → slice_get ws i ≡ Some w → IsTrue (has_field ws w)
got_field [] i w e = absurd (cc)
got_field (x ∷ ws) zero w e = let k : x ≡ w = cc in subst (λ z. IsTrue (has_field (z ∷ ws) w)) (sym k) (first_field w ws)
got_field (x ∷ ws) (suc i) w e = later_field x ws w (got_field ws i w e)

field_got : (ws : List Field) (w : Field) → IsTrue (has_field ws w) → (i : ℕ) × (slice_get ws i ≡ Some w)
field_got [] w h = absurd (cc)
field_got (x ∷ ws) w h = elim (field_split x ws w h) [
  | inl k ↦ (0, ap Some (sym k))
  | inr k ↦ let r = field_got ws w k in (suc r.0, r.1)
]

-- the written fields have an order in which they are logged
pub log_order : (s : Space) (m : Moment) (at : Name → ℕ) (st : IncrementStage) → IsIncrementing s m at st → (fields : List Field) × IsLogOrder m at fields s.logged.items
log_order s m at st incrementing = let x = unmapped (entry_of m at) m.written s.logged.items incrementing.logs in (x.0, record { entries = x.1; order = x.2 })

pub as_many_fields : (m : Moment) (at : Name → ℕ) (fields : List Field) (logged : List LogEntry) → IsLogOrder m at fields logged → length logged ≡ length fields
as_many_fields m at fields logged is = sym (ap length is.entries) ∙ length-map fields (entry_of m at)

-- raising keeps the logs
pub same_logs : (s now : Space) (m : Moment) (at : Name → ℕ) (fields : List Field) → RaisingLeaves s now → IsLogOrder m at fields s.logged.items → IsLogOrder m at fields now.logged.items
same_logs s now m at fields leaves order = subst (IsLogOrder m at fields) (sym (ap {A = Space} (λ x. x.logged.items) leaves.space)) order

-- an entry is that of a written field, which may be raised
pub record IsEntryOf (m : Moment) (st : IncrementStage) (fields : List Field) (i : ℕ) (entry : LogEntry) : Type 0 where
  pub field : Field
  pub got : slice_get fields i ≡ Some field
  pub holder : IsHolder m st field.0 entry.place.0
  pub index : entry.index ≡ field.1
  pub raisable : IsRaisable m st field.0 entry.index

pub entry_field : (s : Space) (m : Moment) (at : Name → ℕ) (st : IncrementStage) (fields : List Field) (i : ℕ) (entry : LogEntry) → IsIncrementing s m at st → IsLogOrder m at fields s.logged.items → slice_get s.logged.items i ≡ Some entry
    → IsEntryOf m st fields i entry
entry_field s m at st fields i entry incrementing order got =
    let x = slice_get-mapped (entry_of m at) fields i entry (ap (λ z. slice_get z i) order.entries ∙ got) in
    let w : Field = x.0 in
    let written : IsTrue (has_field m.written w) = has_field_permuted m.written fields w order.order ∙ got_field fields i w x.1 in
    let facts = incrementing.follows.written w.0 w.1 written in
    let size = same_sizes m incrementing.follows w.0 facts.0 in
    let index : entry.index ≡ w.1 = ap (λ z. z.index) x.2 in
    let below = facts.2 in
    let still = unreclaimed_still s st.found m at st.now st.promoted incrementing.moving (all_made s m at st incrementing) incrementing.follows.apart w.0 facts.0 in
    record {
      field = w;
      got = x.1;
      holder = record { live = inl facts.1; known = inl facts.0; stands = ap (λ z. z.place.0) x.2 ∙ sym still };
      index = index;
      raisable = record { within = omega (arith, size, index, below); changes = inr (ap (λ z. has_field m.written (w.0, z)) index ∙ written) };
    }

-- Once what is held is raised, references of promoted objects outside the worklist are raised as before.
pub still_raised : (s now : Space) (m : Moment) (at : Name → ℕ) (st : IncrementStage) (held : Option Name) (q : ℕ) (base : Raisings) → IsEven s m at st base → GoesOn s now m st (stage_with_held m st held q)
    → (u : Name) (i : ℕ) → IsTrue (has (stage_with_held m st held q).promoted u) → has (stage_with_held m st held q).work u ≡ false → i < length (references_at m u) → IsFieldRaised now m (stage_with_held m st held q) u i ⊎ ⊥
still_raised s now m at st held q base is goes_on u i promoted out below =
    let was = was_promoted m st held q u promoted out in
    elim (is.raised u i was.0 was.1 below) [ inl raised ↦ inl (raised_on s now m st (stage_with_held m st held q) u i goes_on raised) | inr none ↦ inr none ]

-- an entry is raised: one more field is accounted for
pub entry_raised : (s now : Space) (m : Moment) (at : Name → ℕ) (st : IncrementStage) (fields : List Field) (i : ℕ) (entry : LogEntry) (q : ℕ) → IsLogOrder m at fields s.logged.items → IsSettled s m at st (fields_raise m fields i) → (x : IsEntryOf m st fields i entry)
    → EntersField s now m at st x.field.0 entry.index q → IsEven now m at (stage_with_held m st (slice_index_or (references_at m x.field.0) entry.index None) q) (fields_raise m fields (i + 1))
entry_raised s now m at st fields i entry q order settled x fixes =
    let held : Option Name = slice_index_or (references_at m x.field.0) entry.index None in
    record {
      incrementing = fixes.incrementing;
      accounts = accounts_held m st held q (fields_held m fields i) (λ o. 0) (fields_held m fields (i + 1)) (λ o. 0) settled.accounted.accounts
          (λ o.
          let k = counted_more (field_holds m.state.graph o) fields i x.field x.got in
          let e : one_if (same_held (Some o) held) ≡ one_if (field_holds m.state.graph o x.field) = ap (λ z. one_if (same_held (Some o) (slice_index_or (references_at m x.field.0) z None))) x.index in
          omega (arith, k, e));
      few =
          let low = slice_get_within fields i x.field x.got in
          let all = length_permutation m.written fields order.order in
          let more = at_most_one s now m (stage_with_held m st held q).now (x.field.0, entry.index) fixes.drawn in
          few_held s now m st held q i 0 (i + 1) 0 fixes.goes_on.found (omega (arith, more)) (omega (arith, low, all)) settled.accounted.few;
      entered = maybe_drawn s now m st (stage_with_held m st held q) fixes.goes_on.remembered fixes.goes_on.found (IsPassed m st (take i fields) (λ u j. ⊥)) (IsPassed m (stage_with_held m st held q) (take (i + 1) fields) (λ u j. ⊥))
          (passed_on m st held q (take i fields) (take (i + 1) fields) (λ u j. ⊥) (λ u j. ⊥) (λ u j h. h) (taken_more fields i))
          x.field.0 entry.index (fixed_raised now m (stage_with_held m st held q) x.field.0 entry.index fixes.raised.fixed (inr written)) (inr (written, this (take (i + 1) fields) (taken_here fields i x.field x.got)))
          still_open fixes.drawn settled.accounted.entered;
      raised = still_raised s now m at st held q (fields_raise m fields i) settled.accounted fixes.goes_on;
    }
  where
    this : (ws : List Field) → IsTrue (has_field ws x.field) → IsTrue (has_field ws (x.field.0, entry.index))
    this ws h = ap (λ z. has_field ws (x.field.0, z)) x.index ∙ h

    written : IsTrue (has_field m.written (x.field.0, entry.index))
    written = this m.written (has_field_permuted m.written fields x.field order.order ∙ got_field fields i x.field x.got)

    still_open : ¬ IsPassed m st (take i fields) (λ u j. ⊥) x.field.0 entry.index
    still_open (inl passed) = not_written s m at st x.field.0 entry.index settled.accounted.incrementing passed.0 written
    still_open (inr passed) = not_taken m.written fields i x.field settled.accounted.incrementing.follows.written_once order.order x.got (sym (ap (λ z. has_field (take i fields) (x.field.0, z)) x.index) ∙ passed.1)

-- with all that it brought along
pub entry_settled : (s now after : Space) (m : Moment) (at : Name → ℕ) (st : IncrementStage) (fields : List Field) (i : ℕ) (entry : LogEntry) (q : ℕ) → HasRaisedEntries s m at st fields i → (x : IsEntryOf m st fields i entry)
    → EntersField s now m at st x.field.0 entry.index q → RaisingLeaves s after
    → Settles now after m at (stage_with_held m st (slice_index_or (references_at m x.field.0) entry.index None) q) (fields_raise m fields (i + 1)) → AtLater st (λ later. HasRaisedEntries after m at later fields (i + 1))
entry_settled s now after m at st fields i entry q is x fixes leaves settles = (
  settles.0,
  settles.2.found ∙ fixes.goes_on.found,
  record {
    order = same_logs s after m at fields leaves is.order;
    settled = settles.1;
    raised = λ k w below got. elim (eqb_tells k i) [
      | inl e ↦
          let same : Some w ≡ Some x.field = sym got ∙ ap (slice_get fields) e.1 ∙ x.got in
          let is_w : w ≡ x.field = cc in
          subst (λ z. IsFieldRaised after m settles.0 z.0 z.1) (sym is_w) (subst (λ z. IsFieldRaised after m settles.0 x.field.0 z) x.index (on x.field.0 entry.index fixes.raised))
      | inr e ↦ on w.0 w.1 (raised_on s now m st next w.0 w.1 fixes.goes_on (is.raised k w (let ne = e.1 in omega (arith, below, ne)) got))
    ];
  },
)
  where
    next : IncrementStage
    next = stage_with_held m st (slice_index_or (references_at m x.field.0) entry.index None) q

    on : (u : Name) (j : ℕ) → IsFieldRaised now m next u j → IsFieldRaised after m settles.0 u j
    on u j raised = raised_on now after m next settles.0 u j settles.2 raised

-- before the first entry nothing is
pub no_entries : (s : Space) (m : Moment) (at : Name → ℕ) (st : IncrementStage) (fields : List Field) → IsLogOrder m at fields s.logged.items → IsSettled s m at st none_raised → HasRaisedEntries s m at st fields 0
no_entries s m at st fields order is = record {
  order = order;
  settled = record {
    accounted = record {
      incrementing = is.accounted.incrementing;
      accounts = accounts_same m st (λ o. 0) (λ o. 0) (fields_held m fields 0) (λ o. 0) (λ o. none fields o) (λ o. refl) is.accounted.accounts;
      few = is.accounted.few;
      entered = none_drawn s s m st st (stays_none s m st) refl (IsPassed m st [] (λ u j. ⊥)) (IsPassed m st (take 0 fields) (λ u j. ⊥)) (λ u j passed. elim passed [ inl was ↦ inl was | inr was ↦ absurd (let none = was.1 in cc) ]) refl is.accounted.entered;
      raised = is.accounted.raised;
    };
    no_work = is.no_work;
  };
  raised = λ k w below got. absurd (omega (arith, below));
}
  where
    none : (ws : List Field) (o : Name) → fields_held m ws 0 o ≡ 0
    none [] o = refl
    none (w ∷ ws) o = refl

-- after the last, all written fields are, and no register is yet
pub all_entries : (s : Space) (m : Moment) (at : Name → ℕ) (st : IncrementStage) (fields : List Field) (i : ℕ) → i ≡ length fields → HasRaisedEntries s m at st fields i → HasRaisedRoots s m at st 0
all_entries s m at st fields i end is = record {
  settled = record {
    accounted = record {
      incrementing = is.settled.accounted.incrementing;
      accounts = accounts_same m st (fields_held m fields i) (λ o. 0) (roots_held m 0) (λ o. 0)
          (λ o.
          let whole : fields_held m fields i o ≡ count_by (field_holds m.state.graph o) fields = ap (λ z. fields_held m fields z o) end ∙ ap (count_by (field_holds m.state.graph o)) (all_taken fields) in
          let same = count_permuted (field_holds m.state.graph o) m.written fields is.order.order in
          let none = none_new m.last.registers m.state.registers o in
          omega (arith, whole, same, none)) (λ o. refl) is.settled.accounted.accounts;
      few = let few = is.settled.accounted.few.cursor in let within = is.settled.accounted.few.within in record { cursor = omega (arith, few, within); within = omega arith };
      entered = none_drawn s s m st st (stays_none s m st) refl (IsPassed m st (take i fields) (λ u j. ⊥)) (IsPassed m st m.written (λ u j. ⊥)) (λ u j passed. elim passed [ inl was ↦ inl was | inr was ↦ inr (was.0, was.0) ]) refl is.settled.accounted.entered;
      raised = is.settled.accounted.raised;
    };
    no_work = is.settled.no_work;
  };
  written = λ u j h.
      let got = field_got fields (u, j) (sym (has_field_permuted m.written fields (u, j) is.order.order) ∙ h) in
      let below = slice_get_within fields got.0 (u, j) got.1 in
      is.raised got.0 (u, j) (omega (arith, below, end)) got.1;
  registers = λ k below. absurd (omega (arith, below));
}
  where
    all_taken : (ws : List Field) → take (length ws) ws ≡ ws
    all_taken [] = refl
    all_taken (w ∷ ws) = ap (λ z. w ∷ z) (all_taken ws)

    none_new : (before now : List (Option Name)) (o : Name) → newly_held (take 0 before) (take 0 now) o ≡ 0
    none_new [] [] o = refl
    none_new [] (n ∷ now) o = refl
    none_new (b ∷ before) [] o = refl
    none_new (b ∷ before) (n ∷ now) o = refl

-- ---- registers

place_got : (at : Name → ℕ) (places : List Place) (held : List (Option Name)) (i : ℕ) (p : Place) → ArePlacesOf at places held → slice_get places i ≡ Some p → (v : Option Name) × (slice_get held i ≡ Some v) × (p.0 ≡ place_word at v)
place_got at [] held i p are e = absurd (cc)
place_got at (q ∷ places) [] i p are e = absurd (cc)
place_got at (q ∷ places) (v ∷ held) zero p are e =
    let same : q ≡ p = cc in
    let word : q.0 ≡ place_word at v = cc in
    (v, refl, ap (λ z. z.0) (sym same) ∙ word)
place_got at (q ∷ places) (v ∷ held) (suc i) p are e =
    let rest : map (λ z. z.0) places ≡ map (place_word at) held = cc in
    place_got at places held i p rest e

-- a register's two places are the same exactly where it holds what it held
pub record IsRegisterAt (s : Space) (m : Moment) (at : Name → ℕ) (st : IncrementStage) (i : ℕ) (p q : Place) (v b : Option Name) : Type 0 where
  pub raises : HeldIsRaised s m at st i p v
  pub held : slice_get m.last.registers i ≡ Some b
  pub same : p.0 ≡ q.0 → v ≡ b
  pub changed : p.0 ≢ q.0 → v ≢ b
  -- what it held is unreclaimed, and stands where it stood
  pub was : (o : Name) → b ≡ Some o → IsTrue (has m.unreclaimed o)
  pub word_was : q.0 ≡ place_word st.now b

module _ (s : Space) (m : Moment) (at : Name → ℕ) (st : IncrementStage) (incrementing : IsIncrementing s m at st) where
  kept_member : (o : Name) → IsTrue (has m.unreclaimed o) → IsTrue (has (members m) o)
  kept_member o h = in_first m.unreclaimed m.made o h

  kept_still : (o : Name) → IsTrue (has m.unreclaimed o) → st.now o ≡ at o
  kept_still = unreclaimed_still s st.found m at st.now st.promoted incrementing.moving (all_made s m at st incrementing) incrementing.follows.apart

  held_still : (b : Option Name) → ((o : Name) → b ≡ Some o → IsTrue (has m.unreclaimed o)) → place_word at b ≡ place_word st.now b
  held_still None was = refl
  held_still (Some o) was = sym (kept_still o (was o refl))

  some_place : (o : Name) (p : ℕ) → IsTrue (has (members m) o) → IsPlaceOf at st.now o p → 1 ≤ p
  some_place o p member place = (place_some s st.found m at st.now st.promoted incrementing.moving o p member place).0

  one_held : (p : ℕ) (v b : Option Name) → ((o : Name) → v ≡ Some o → IsTrue (has (members m) o)) → ((o : Name) → b ≡ Some o → IsTrue (has m.unreclaimed o)) → HoldsEither at st.now p v → p ≡ place_word at b → v ≡ b
  one_held p None None g h x k = refl
  one_held p None (Some b) g h x k =
      let placed = some_place b (at b) (kept_member b (h b refl)) (inl refl) in
      absurd (elim x [ inl e ↦ omega (arith, placed, k, e) | inr e ↦ omega (arith, placed, k, e) ])
  one_held p (Some v) None g h x k =
      let placed = some_place v p (g v refl) (elim x as (λ z. IsPlaceOf at st.now v p) [ inl e ↦ inr e | inr e ↦ inl e ]) in
      absurd (omega (arith, placed, k))
  one_held p (Some v) (Some b) g h x k =
      ap Some (incrementing.moving.own v b p (g v refl) (kept_member b (h b refl)) (elim x as (λ z. IsPlaceOf at st.now v p) [ inl e ↦ inr e | inr e ↦ inl e ]) (inl k))

  -- where a register holds what it held, it has the place that it had
  one_place : (p : ℕ) (v b : Option Name) → ((o : Name) → b ≡ Some o → IsTrue (has m.unreclaimed o)) → HoldsEither at st.now p v → v ≡ b → p ≡ place_word at b
  one_place p v b was x e = elim x [ inl h ↦ h ∙ ap (place_word st.now) e ∙ sym (held_still b was) | inr h ↦ h ∙ ap (place_word at) e ]

  pub register_at : (i : ℕ) (p q : Place) → slice_get s.registers.items i ≡ Some p → slice_get s.deferred.items i ≡ Some q → (v : Option Name) × (b : Option Name) × IsRegisterAt s m at st i p q v b
  register_at i p q e f =
      let below = slice_get_within s.registers.items i p e in
      let as_many = incrementing.moving.registers.as_many in
      let v : Option Name = slice_index_or m.state.registers i None in
      let holds : slice_get m.state.registers i ≡ Some v = slice_get-get_or m.state.registers i None (omega (arith, below, as_many)) in
      let word : HoldsEither at st.now p.0 v = incrementing.moving.registers.each i p v e holds in
      let y = place_got at s.deferred.items m.last.registers i q incrementing.moving.deferred f in
      let in_now : (o : Name) → v ≡ Some o → IsTrue (has (members m) o) = λ o k. live_member m o incrementing.follows (incrementing.follows.held o (i, holds ∙ ap Some k)) in
      let was : (o : Name) → y.0 ≡ Some o → IsTrue (has m.unreclaimed o) = λ o k. incrementing.follows.kept o (reach.held (i, y.1 ∙ ap Some k)) in (
        v,
        y.0,
        record {
          raises = record { incrementing = incrementing; may = record { word = word; member = in_now; held_up = λ o k. inl (i, holds ∙ ap Some k) }; place_is = e; held_is = holds };
          held = y.1;
          same = λ k. one_held p.0 v y.0 in_now was word (k ∙ y.2);
          changed = λ k h. k (one_place p.0 v y.0 was word h ∙ sym y.2);
          was = was;
          word_was = y.2 ∙ held_still y.0 was;
        },
      )

-- at two stages there are as many registers
pub same_registers : (s now : Space) (m : Moment) (at : Name → ℕ) (st later : IncrementStage) → IsIncrementing s m at st → IsIncrementing now m at later → length now.registers.items ≡ length s.registers.items
same_registers s now m at st later is then_is = then_is.moving.registers.as_many ∙ sym is.moving.registers.as_many

-- one more register
roots_more : (m : Moment) (i : ℕ) (v b : Option Name) (o : Name) → slice_get m.state.registers i ≡ Some v → slice_get m.last.registers i ≡ Some b
    → roots_held m (i + 1) o ≡ roots_held m i o + one_if (same_held (Some o) v && not (same_held (Some o) b))
roots_more m i v b o now before =
    let test : Option Name × Option Name → Bool = λ p. same_held (Some o) p.1 && not (same_held (Some o) p.0) in
    let more = counted_more test (zip m.last.registers m.state.registers) i (b, v) (zip_got m.last.registers m.state.registers i b v before now) in
    let here = ap (count_by test) (zip_taken m.last.registers m.state.registers i) in
    let there = ap (count_by test) (zip_taken m.last.registers m.state.registers (i + 1)) in
    omega (arith, more, here, there)

none_new : (x : Bool) → (x && not x) ≡ false
none_new true = refl
none_new false = refl

-- it holds what it held, and is fixed
pub register_same : (s : Space) (m : Moment) (at : Name → ℕ) (st : IncrementStage) (i : ℕ) (p q : Place) (v b : Option Name) → IsRegisterAt s m at st i p q v b → p.0 ≡ q.0 → HasRaisedRoots s m at st i → HasRaisedRoots s m at st (i + 1)
register_same s m at st i p q v b is e roots = record {
  settled = record {
    accounted = record {
      incrementing = roots.settled.accounted.incrementing;
      accounts = accounts_same m st (roots_held m i) (λ o. 0) (roots_held m (i + 1)) (λ o. 0)
          (λ o.
          let k = roots_more m i v b o is.raises.held_is is.held in
          let n : one_if (same_held (Some o) v && not (same_held (Some o) b)) ≡ 0 = ap (λ z. one_if (same_held (Some o) v && not (same_held (Some o) z))) (sym (is.same e)) ∙ ap one_if (none_new (same_held (Some o) v)) in
          omega (arith, k, n)) (λ o. refl) roots.settled.accounted.accounts;
      few = roots.settled.accounted.few;
      entered = roots.settled.accounted.entered;
      raised = roots.settled.accounted.raised;
    };
    no_work = roots.settled.no_work;
  };
  written = roots.written;
  registers = λ k below. elim (eqb_tells k i) [
    | inl h ↦ subst (IsRegisterFixed s m st) (sym h.1) here
    | inr h ↦ roots.registers k (let ne = h.1 in omega (arith, below, ne))
  ];
}
  where
    here : IsRegisterFixed s m st i
    here = record {
      place = p;
      held = v;
      place_is = is.raises.place_is;
      held_is = is.raises.held_is;
      holds = e ∙ is.word_was ∙ ap (place_word st.now) (sym (is.same e));
      known = λ o k. has-union st.promoted m.unreclaimed o ∙ or_right (has st.promoted o) (has m.unreclaimed o) (is.was o (sym (is.same e) ∙ k));
    }

-- registers that hold what they held at the last pause are passed over
pub registers_passed : (s : Space) (m : Moment) (at : Name → ℕ) (st : IncrementStage) (from to : ℕ) → from ≤ to → to ≤ length s.registers.items → AreSame s.registers.items s.deferred.items from to
    → HasRaisedRoots s m at st from → HasRaisedRoots s m at st to
registers_passed s m at st from to low end same = passed_over (HasRaisedRoots s m at st) from to low (λ k above below roots.
    let incrementing = roots.settled.accounted.incrementing in
    let many = incrementing.as_many in
    let held : Place = held_at s.registers.items k in
    let there : slice_get s.deferred.items k ≡ Some held = slice_get-get_or s.deferred.items k nil (omega (arith, end, many, below)) ∙ ap Some (sym (same k above below)) in
    let x = register_at s m at st incrementing k held held (slice_get-get_or s.registers.items k nil (omega (arith, end, below))) there in
    register_same s m at st k held held x.0 x.1 x.2 refl roots)

-- it holds something else, which was raised
pub register_raised : (s now : Space) (m : Moment) (at : Name → ℕ) (st : IncrementStage) (i : ℕ) (p q : Place) (v b : Option Name) (w : ℕ) → IsRegisterAt s m at st i p q v b → p.0 ≢ q.0 → HasRaisedRoots s m at st i
    → FixesRegister s now m at st i v w → IsEven now m at (stage_with_held m st v w) (roots_raise m (i + 1))
register_raised s now m at st i p q v b w is differ roots fixes = record {
  incrementing = fixes.incrementing;
  accounts = accounts_held m st v w (roots_held m i) (λ o. 0) (roots_held m (i + 1)) (λ o. 0) roots.settled.accounted.accounts
      (λ o.
      let k = roots_more m i v b o is.raises.held_is is.held in
      let n : one_if (same_held (Some o) v && not (same_held (Some o) b)) ≡ one_if (same_held (Some o) v) = ap one_if (new o) in
      omega (arith, k, n));
  few = few_held s now m st v w (length m.written) 0 (length m.written) 0 fixes.goes_on.found (let same = fixes.cursor in omega (arith, same)) (omega arith) roots.settled.accounted.few;
  entered = none_drawn s now m st (stage_with_held m st v w) fixes.goes_on.remembered fixes.goes_on.found (IsPassed m st m.written (λ u j. ⊥)) (IsPassed m (stage_with_held m st v w) m.written (λ u j. ⊥))
      (passed_on m st v w m.written m.written (λ u j. ⊥) (λ u j. ⊥) (λ u j h. h) (λ f h. h)) fixes.cursor roots.settled.accounted.entered;
  raised = still_raised s now m at st v w (roots_raise m i) roots.settled.accounted fixes.goes_on;
}
  where
    not_same : (x y : Bool) → (IsTrue x → IsTrue y → ⊥) → (x && not y) ≡ x
    not_same true true h = absurd (h refl refl)
    not_same true false h = refl
    not_same false y h = refl

    new : (o : Name) → (same_held (Some o) v && not (same_held (Some o) b)) ≡ same_held (Some o) v
    new o = not_same (same_held (Some o) v) (same_held (Some o) b) (λ h k. is.changed differ (held_same o v h ∙ sym (held_same o b k)))

-- with all that it brought along
pub register_settled : (s now after : Space) (m : Moment) (at : Name → ℕ) (st : IncrementStage) (i : ℕ) (v : Option Name) (w : ℕ) → HasRaisedRoots s m at st i → FixesRegister s now m at st i v w
    → Settles now after m at (stage_with_held m st v w) (roots_raise m (i + 1)) → AtLater st (λ later. HasRaisedRoots after m at later (i + 1))
register_settled s now after m at st i v w is fixes settles = (
  settles.0,
  settles.2.found ∙ fixes.goes_on.found,
  record {
    settled = settles.1;
    written = λ u j h. raised_on now after m (stage_with_held m st v w) settles.0 u j settles.2 (raised_on s now m st (stage_with_held m st v w) u j fixes.goes_on (is.written u j h));
    registers = λ k below. elim (eqb_tells k i) [
      | inl h ↦ settles.2.registers k (subst (IsRegisterFixed now m (stage_with_held m st v w)) (sym h.1) fixes.fixed)
      | inr h ↦ settles.2.registers k (fixes.goes_on.registers k (is.registers k (let ne = h.1 in omega (arith, below, ne))))
    ];
  },
)
