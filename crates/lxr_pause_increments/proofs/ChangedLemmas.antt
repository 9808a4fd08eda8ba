-- A reference or a register is written with the place where what it holds stands now: it is fixed then.
use Rattle.std.proofs.Common.{◌≡◌, ◌≢◌, ℕ, ◌<◌, refl, sym, ap, subst, ◌∙◌, inl, inr, ◌⊎◌, arith, false, cond, length}
use Rattle.std.specs.Prelude.{◌↔◌, Option, None, Some, IsTrue, nat_eq, slice_get, slice_index_or, slice_set}
use Rattle.std.proofs.lemmas.Bool.Decides.{eqb_tells}
use Rattle.std.proofs.lemmas.Option.{slice_get-get_or, slice_get_within}
use Rattle.std.proofs.Math.ListN.{length-set}
use Rattle.lxr_layout.specs.declared.Name.{Name}
use Rattle.lxr_layout.specs.declared.Place.{Place}
use Rattle.lxr_layout.specs.declared.TheConstants.{REMEMBERED_CURSOR}
use Rattle.lxr_layout.specs.Places.{field_word}
use Rattle.lxr_layout.specs.Registers.{held_at, nil}
use Rattle.lxr_graph.specs.Names.{has}
use Rattle.lxr_graph.proofs.RowLemmas.{slice_get-set}
use Rattle.lxr_image.specs.declared.space.Space.{Space}
use Rattle.lxr_image.specs.Spaces.{Turns, tables_of}
use Rattle.lxr_image.specs.Image.{place_word}
use Rattle.lxr_image.specs.ImageLaws.{with_heap}
use Rattle.lxr_model.specs.Moments.{Moment}
use Rattle.lxr_model_counting.specs.Distinct.{IsDistinct, has_field}
use Rattle.lxr_invariant.specs.AbstractState.{members}
use Rattle.lxr_invariant.specs.Counting.{count_at, passing}
use Rattle.lxr_invariant.specs.Raised.{with_promoted}
use Rattle.lxr_invariant.specs.Standing.{word_of_field}
use Rattle.lxr_invariant.proofs.EntryLemmas.{same_number}
use Rattle.lxr_invariant.proofs.FrameLemmas.{bits_still, marks_still}
use Rattle.lxr_pause_promote.specs.Either.{IsPlaceOf}
use Rattle.lxr_pause_promote.proofs.FewerLemmas.{states_same}
use Rattle.lxr_pause_increments.specs.Accounted.{IsHolder, IsKnown, IsRaisable, IsRegisterFixed, references_at, stage_with_held}
use Rattle.lxr_pause_increments.specs.Increments.{HasCountsSoFar, HasRoomToRaise, IncrementStage, IsFull, IsIncrementing, RaisingLeaves, RaisingLeavesTables, StaysRemembered, left}
use Rattle.lxr_pause_increments.specs.Moving.{IsMoving}
use Rattle.lxr_pause_increments.specs.Steps.{FixesField, FixesRegister, HeldIsRaised, RaisesHeld}
use Rattle.lxr_pause_increments.proofs.TracedLemmas.{marks_same}
use Rattle.lxr_pause_increments.proofs.FrameLemmas.{leaves_spread}
use Rattle.lxr_pause_increments.proofs.IncrementLemmas.{LeavesBlocks, incrementing_with}
use Rattle.lxr_pause_increments.proofs.RoomLemmas.{full_at, granules}
use Rattle.lxr_pause_increments.proofs.FixedLemmas.{fixed_left, fixed_written, moving_register, moving_written, register_left, word_written}
use Rattle.lxr_pause_increments.proofs.RememberedLemmas.{LeavesSet, stays_left}
use Rattle.lxr_pause_increments.proofs.StageLemmas.{all_made}
use Rattle.lxr_pause_increments.proofs.HeldLemmas.{either_fixed, field_holds, goes_both, holder_known, holder_member, member_place, still_held, still_known, still_placed, still_promoted}

-- ---- what a write leaves

-- nothing but the heap, the remembered set and what registers hold has changed
pub record ChangesHeld (b c : Space) : Type 0 where
  pub tables : tables_of c ≡ record (tables_of b) { heap = (tables_of c).heap; remembered = (tables_of c).remembered; cursors = (tables_of c).cursors }
  pub cursors : (k : ℕ) → k ≢ REMEMBERED_CURSOR → (tables_of c).cursors k ≡ (tables_of b).cursors k
  pub space : c ≡ record b { words = c.words; registers = record b.registers { items = c.registers.items } }
  pub as_many : length c.registers.items ≡ length b.registers.items

module _ (b c : Space) (changes : ChangesHeld b c) where
  pub changed_leaves : RaisingLeaves b c
  changed_leaves =
      leaves_spread b c c.words c.registers.items b.work.items b.report.promoted.items b.report.stuck.items b.rest_next b.rest_end changes.space
      (subst (RaisingLeavesTables (tables_of b)) (sym changes.tables)
      (record { runs = refl; frees = refl; cursors = changes.cursors; starts = λ k h. h; marks = marks_same (tables_of b); grays = refl; decs = refl }))

  changed_starts : passing (tables_of c).starts (granules c) ≡ passing (tables_of b).starts (granules b)
  changed_starts = λ i. passing (changes.tables i).starts (granules (changes.space i))

  -- what is left to do is as much
  pub changed_left : left c ≡ left b
  changed_left =
      let size = ap granules changes.space in
      let starts = changed_starts in
      let work = ap (λ s. length s.work.items) changes.space in
      omega (arith, size, starts, work)

  changed_room : HasRoomToRaise b → HasRoomToRaise c
  changed_room is =
      let starts = changed_starts in
      let fulls : passing (full_at (tables_of c)) (granules c) ≡ passing (full_at (tables_of b)) (granules b) = λ i. passing (full_at (changes.tables i)) (granules (changes.space i)) in
      let promoted = ap (λ s. length s.report.promoted.items) changes.space in
      let work = ap (λ s. length s.work.items) changes.space in
      let stuck = ap (λ s. length s.report.stuck.items) changes.space in
      let enough_promoted = is.promoted in
      let enough_work = is.work in
      let enough_stuck = is.stuck in
      record { promoted = omega (arith, starts, promoted, enough_promoted); work = omega (arith, work, promoted, enough_work); stuck = omega (arith, fulls, stuck, enough_stuck) }

  changed_counts : (m : Moment) (st : IncrementStage) → HasCountsSoFar b m st → HasCountsSoFar c m st
  changed_counts m st is =
      let names : c.report.stuck.items ≡ b.report.stuck.items = ap (λ s. s.report.stuck.items) changes.space in
      let same : (n : Name) → count_at (tables_of c) st.now n ≡ count_at (tables_of b) st.now n = λ n. ap (λ t. count_at t st.now n) changes.tables in
      record {
        stuck = λ n h. same n ∙ is.stuck n h;
        exact = λ n h unstuck. same n ∙ is.exact n h unstuck;
        positive = λ n h e. is.positive n h (sym (same n) ∙ e);
        unraised = is.unraised;
        reported = λ n. subst (λ ns. IsTrue (has ns n) ↔ IsFull m st n) (sym names) (is.reported n);
        reported_once = subst IsDistinct (sym names) is.reported_once;
      }

  pub changed_incrementing : (m : Moment) (at : Name → ℕ) (st : IncrementStage) → StaysRemembered b c m st st → IsMoving c st.found m at st.now st.promoted → IsIncrementing b m at st → IsIncrementing c m at st
  changed_incrementing m at st stays moving is = incrementing_with b c m at st st changed_leaves still stays refl is (record {
    moving = moving;
    growth = is.growth;
    once_promoted = is.once_promoted;
    work_promoted = is.work_promoted;
    once_work = is.once_work;
    bits = bits_still (tables_of b) (tables_of c) m st.now (with_promoted m st.promoted) (ap (λ t. t.starts) changes.tables) (ap (λ t. t.marks) changes.tables) (ap (λ t. t.grays) changes.tables)
        (ap (λ t. t.dones) changes.tables) (ap (λ t. t.unlogged) changes.tables) is.bits;
    marks = marks_still (tables_of b) (tables_of c) m.state.graph st.now (with_promoted m st.promoted) (ap (λ t. t.counts) changes.tables) is.marks;
    counts = changed_counts m st is.counts;
    reported = ap (λ s. s.report.promoted.items) changes.space ∙ is.reported;
    worklist = ap (λ s. s.work.items) changes.space ∙ is.worklist;
    lists = changed_room is.lists;
  })
    where
      still : LeavesBlocks b c
      still = record { size = ap (λ t. t.size) changes.tables; dones = ap (λ t. t.dones) changes.tables; states = λ k. states_same (tables_of b) (tables_of c) k (ap (λ t. t.states) changes.tables); registers = changes.as_many }

-- ---- a reference

pub written_changes : (b c : Space) (k w : ℕ) → Turns b c (with_heap (tables_of b) k w) → ChangesHeld b c
written_changes b c k w turns = record {
  tables = turns.tables ∙ (λ i. record (tables_of b) { heap = (sym turns.tables i).heap; remembered = (sym turns.tables i).remembered; cursors = (sym turns.tables i).cursors });
  cursors = λ j other. ap (λ t. t.cursors j) turns.tables;
  space = turns.rest ∙ (λ i. record b { words = c.words; registers = record b.registers { items = sym (ap (λ s. s.registers.items) turns.rest) i } });
  as_many = ap (λ s. length s.registers.items) turns.rest;
}

-- nothing is remembered
written_set : (b c : Space) (k w : ℕ) → Turns b c (with_heap (tables_of b) k w) → LeavesSet b c
written_set b c k w turns = record { limits = ap (λ s. s.limits) turns.rest; remembered = ap (λ t. t.remembered) turns.tables; cursor = ap (λ t. t.cursors REMEMBERED_CURSOR) turns.tables }

written_stays : (b c : Space) (k w : ℕ) (m : Moment) (st : IncrementStage) → Turns b c (with_heap (tables_of b) k w) → StaysRemembered b c m st st
written_stays b c k w m st turns = stays_left b c m st st (record { promoted = refl; now = refl }) (written_set b c k w turns) (ap (λ t. t.reuse) turns.tables) (ap (λ t. t.states) turns.tables)

module _ (a b : Space) (m : Moment) (at : Name → ℕ) (st : IncrementStage) (u : Name) (p i w : ℕ) (is : IsIncrementing a m at st) (holder : IsHolder m st u p) (raisable : IsRaisable m st u i)
    (raises : RaisesHeld a b m at st (slice_index_or (references_at m u) i None) w) where
  abbrev ref : Option Name
  ref = slice_index_or (references_at m u) i None

  abbrev later : IncrementStage
  later = stage_with_held m st ref w

  member : IsTrue (has (members m) u)
  member = holder_member a m at st u p is holder

  known : IsTrue (has (with_promoted m st.promoted) u)
  known = holder_known m st u p holder

  there : later.now u ≡ st.now u
  there = still_placed m st ref w u is.follows known

  -- it told the place where what it holds stands, and wasn't written
  pub field_unwritten : (tables_of a).heap (word_of_field st.now u i) ≡ w → FixesField a b m at st u i w
  field_unwritten told = record {
    incrementing = raises.incrementing;
    fixed = record {
      holder = still_known m st ref w u known;
      within = raisable.within;
      holds = either_fixed m at st ref ((tables_of a).heap (word_of_field st.now u i)) ((tables_of b).heap (word_of_field later.now u i)) later.now is.moving.others
          (field_holds a m at st u i is member raisable.within) (told ∙ raises.word)
          (λ all. (raises.goes_on.fields u i (record { holder = known; within = raisable.within; holds = told ∙ raises.word ∙ still_held m st ref w ref is.follows all; known = all })).holds)
          (field_holds b m at later u i raises.incrementing member raisable.within);
      known = raises.known;
    };
    word = raises.word;
    goes_on = raises.goes_on;
    cursor = raises.cursor;
  }

  -- that place was written to it
  pub field_written : (c : Space) (k : ℕ) → k ≡ field_word p i → Turns b c (with_heap (tables_of b) k w) → FixesField a c m at st u i w
  field_written c k here turns =
      let moving = raises.incrementing.moving in
      let made = all_made b m at later raises.incrementing in
      let word : k ≡ word_of_field later.now u i = here ∙ ap (λ z. field_word z i) (holder.stands ∙ sym there) in
      let so : Turns b c (with_heap (tables_of b) (word_of_field later.now u i) (place_word later.now ref)) = subst (λ z. Turns b c (with_heap (tables_of b) z (place_word later.now ref))) word (subst (λ z. Turns b c (with_heap (tables_of b) k z)) raises.word turns) in
      let changes : IsTrue (has later.promoted u) ⊎ IsTrue (has_field m.written (u, i)) = elim raisable.changes [ inl h ↦ inl (still_promoted m st ref w u h) | inr h ↦ inr h ] in
      record {
        incrementing = changed_incrementing b c (written_changes b c k w turns) m at later (written_stays b c k w m later turns) (moving_written b c m at later moving u i member raisable.within so is.follows made changes) raises.incrementing;
        fixed = record {
          holder = still_known m st ref w u known;
          within = raisable.within;
          holds = word_written b c (word_of_field later.now u i) (place_word later.now ref) so;
          known = raises.known;
        };
        word = raises.word;
        goes_on = goes_both a b c m st later later raises.goes_on (record {
          found = refl;
          fields = fixed_written b c m at later moving u i member raisable.within so made;
          registers = register_left b c m later later (record { promoted = refl; now = refl }) (ap (λ s. s.registers.items) turns.rest);
          remembered = written_stays b c k w m later turns;
        });
        cursor = (written_set b c k w turns).cursor ∙ raises.cursor;
      }

-- ---- a register

pub set_changes : (b c : Space) (k : ℕ) (p : Place) → c ≡ record b { registers = record b.registers { items = slice_set b.registers.items k p } } → ChangesHeld b c
set_changes b c k p same = record {
  tables = ap {A = Space} tables_of same ∙ (λ i. record (tables_of b) { heap = (tables_of (sym same i)).heap; remembered = (tables_of (sym same i)).remembered; cursors = (tables_of (sym same i)).cursors });
  cursors = λ j other. ap {A = Space} (λ s. (tables_of s).cursors j) same;
  space = same ∙ (λ i. record b { words = sym (ap (λ s. s.words) same) i; registers = record b.registers { items = sym (ap (λ s. s.registers.items) same) i } });
  as_many = ap (λ s. length s.registers.items) same ∙ length-set b.registers.items k p;
}

set_stays : (b c : Space) (k : ℕ) (p : Place) (m : Moment) (st : IncrementStage) → c ≡ record b { registers = record b.registers { items = slice_set b.registers.items k p } } → StaysRemembered b c m st st
set_stays b c k p m st same = stays_left b c m st st (record { promoted = refl; now = refl }) (record {
  limits = ap (λ s. s.limits) same;
  remembered = ap {A = Space} (λ s. (tables_of s).remembered) same;
  cursor = ap {A = Space} (λ s. (tables_of s).cursors REMEMBERED_CURSOR) same;
}) (ap {A = Space} (λ s. (tables_of s).reuse) same) (ap {A = Space} (λ s. (tables_of s).states) same)

-- there are as many registers as the state has
pub registers_as_many : (s : Space) (m : Moment) (at : Name → ℕ) (st : IncrementStage) (k : ℕ) (held : Option Name) → IsIncrementing s m at st → slice_get m.state.registers k ≡ Some held → k < length s.registers.items
registers_as_many s m at st k held is held_is =
    let below = slice_get_within m.state.registers k held held_is in
    let same = is.moving.registers.as_many in
    omega (arith, below, same)

-- a register that is to hold another place holds something
pub register_holds : (a b : Space) (m : Moment) (at : Name → ℕ) (st : IncrementStage) (k : ℕ) (p : Place) (held : Option Name) (w : ℕ) → HeldIsRaised a m at st k p held → RaisesHeld a b m at st held w → p.0 ≢ w
    → held_at b.registers.items k ≢ nil
register_holds a b m at st k p None w is raises differ none = differ (elim is.may.word [ inl e ↦ e ∙ sym raises.word | inr e ↦ e ∙ sym raises.word ])
register_holds a b m at st k p (Some o) w is raises differ none =
    let next : IncrementStage = stage_with_held m st (Some o) w in
    let q : Place = held_at b.registers.items k in
    let got : slice_get b.registers.items k ≡ Some q = slice_get-get_or b.registers.items k nil (registers_as_many b m at next k (Some o) raises.incrementing is.held_is) in
    let place : IsPlaceOf at next.now o q.0 = elim (raises.incrementing.moving.registers.each k q (Some o) got is.held_is) [ inl e ↦ inr e | inr e ↦ inl e ] in
    let some = (member_place b m at next o q.0 raises.incrementing (is.may.member o refl) place).0 in
    let zero : q.0 ≡ 0 = ap (λ z. z.0) none in
    omega (arith, some, zero)

module _ (a b : Space) (m : Moment) (at : Name → ℕ) (st : IncrementStage) (k : ℕ) (p : Place) (held : Option Name) (w : ℕ) (is : HeldIsRaised a m at st k p held) (raises : RaisesHeld a b m at st held w) where
  abbrev next : IncrementStage
  next = stage_with_held m st held w

  -- it told the place where what it holds stands, and wasn't set
  pub register_unset : p.0 ≡ w → FixesRegister a b m at st k held w
  register_unset told =
      let q : Place = slice_index_or b.registers.items k p in
      let got : slice_get b.registers.items k ≡ Some q = slice_get-get_or b.registers.items k p (registers_as_many b m at next k held raises.incrementing is.held_is) in
      let others = is.incrementing.moving.others in
      record {
        incrementing = raises.incrementing;
        fixed = record {
          place = q;
          held = held;
          place_is = got;
          held_is = is.held_is;
          holds = either_fixed m at st held p.0 q.0 next.now others is.may.word (told ∙ raises.word) (known_holds q got told)
              (raises.incrementing.moving.registers.each k q held got is.held_is);
          known = raises.known;
        };
        goes_on = raises.goes_on;
        cursor = raises.cursor;
      }
    where
      known_holds : (q : Place) → slice_get b.registers.items k ≡ Some q → p.0 ≡ w → IsKnown m st held → q.0 ≡ place_word next.now held
      known_holds q got told all =
          let before : IsRegisterFixed a m st k = record {
            place = p;
            held = held;
            place_is = is.place_is;
            held_is = is.held_is;
            holds = told ∙ raises.word ∙ still_held m st held w held is.incrementing.follows all;
            known = all;
          } in
          let after = raises.goes_on.registers k before in
          let same_place : Some after.place ≡ Some q = sym after.place_is ∙ got in
          let same_held : Some after.held ≡ Some held = sym after.held_is ∙ is.held_is in
          let x : after.place ≡ q = cc in
          let y : after.held ≡ held = cc in
          ap (λ z. z.0) (sym x) ∙ after.holds ∙ ap (place_word next.now) y

  -- that place was put into it
  pub register_set : (c : Space) (q : Place) → q.0 ≡ w → c ≡ record b { registers = record b.registers { items = slice_set b.registers.items k q } } → FixesRegister a c m at st k held w
  register_set c q told same =
      let at_q : q.0 ≡ place_word next.now held = told ∙ raises.word in
      let below = registers_as_many b m at next k held raises.incrementing is.held_is in
      let here : IsRegisterFixed c m next k = record {
        place = q;
        held = held;
        place_is = set_here c q same below;
        held_is = is.held_is;
        holds = at_q;
        known = raises.known;
      } in
      record {
        incrementing = changed_incrementing b c (set_changes b c k q same) m at next (set_stays b c k q m next same) (moving_register b c next.found m at next.now next.promoted k q held raises.incrementing.moving is.held_is at_q same) raises.incrementing;
        fixed = here;
        goes_on = goes_both a b c m st next next raises.goes_on (record {
          found = refl;
          fields = fixed_left b c m next next (record { promoted = refl; now = refl }) (ap {A = Space} (λ s. (tables_of s).heap) same);
          registers = λ j fixed. elim (eqb_tells j k) [
            | inl e ↦ subst (IsRegisterFixed c m next) (sym e.1) here
            | inr e ↦ record {
              place = fixed.place;
              held = fixed.held;
              place_is = set_other c q same below j e.0 ∙ fixed.place_is;
              held_is = fixed.held_is;
              holds = fixed.holds;
              known = fixed.known;
            }
          ];
          remembered = set_stays b c k q m next same;
        });
        cursor = ap {A = Space} (λ s. (tables_of s).cursors REMEMBERED_CURSOR) same ∙ raises.cursor;
      }
    where
      set_here : (c : Space) (q : Place) → c ≡ record b { registers = record b.registers { items = slice_set b.registers.items k q } } → k < length b.registers.items → slice_get c.registers.items k ≡ Some q
      set_here c q same below = ap (λ s. slice_get s.registers.items k) same ∙ slice_get-set b.registers.items k q k below ∙ ap (λ t. cond t (Some q) (slice_get b.registers.items k)) (same_number k k refl)

      set_other : (c : Space) (q : Place) → c ≡ record b { registers = record b.registers { items = slice_set b.registers.items k q } } → k < length b.registers.items → (j : ℕ) → nat_eq j k ≡ false
          → slice_get c.registers.items j ≡ slice_get b.registers.items j
      set_other c q same below j ne = ap (λ s. slice_get s.registers.items j) same ∙ slice_get-set b.registers.items k q j below ∙ ap (λ t. cond t (Some q) (slice_get b.registers.items j)) ne
