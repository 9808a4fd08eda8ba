-- A reference that was raised is remembered where it leads into a Chosen block: it is entered then, and all that was remembered is.
use Rattle.std.proofs.Common.{◌≡◌, ◌≢◌, ℕ, ◌+◌, ◌*◌, ◌/◌, ◌^◌, ◌<◌, ◌≤◌, refl, sym, ap, subst, ◌∙◌, inl, inr, ◌⊎◌, arith, true, false, cond, IsTrue, length}
use Rattle.std.specs.Prelude.{Option, None, Some, slice_index_or}
use Rattle.std.proofs.lemmas.Bool.Decides.{eqb_tells}
use Rattle.std.proofs.lemmas.Option.{get_or_from_slice_get, slice_get-get_or}
use Rattle.lxr_layout.specs.declared.limits.Limits.{Limits}
use Rattle.lxr_layout.specs.declared.Name.{Name}
use Rattle.lxr_layout.specs.declared.Place.{Place}
use Rattle.lxr_layout.specs.declared.TheConstants.{GRANULES_IN_BLOCK, REMEMBERED_CURSOR, WORDS_IN_LINE}
use Rattle.lxr_layout.specs.Runs.{word_of_entry}
use Rattle.lxr_graph.specs.Names.{has}
use Rattle.lxr_graph.specs.State.{refs_of, shape_of}
use Rattle.lxr_image.specs.declared.space.Space.{Space}
use Rattle.lxr_image.specs.Tables.{Tables}
use Rattle.lxr_image.specs.Reads.{granule_of}
use Rattle.lxr_image.specs.Image.{place_word}
use Rattle.lxr_image.specs.Spaces.{Turns, tables_of}
use Rattle.lxr_image.proofs.TableLaws.{count_fits, reuse_fits}
use Rattle.lxr_blocks.specs.declared.states.BlockState.TheVariants.{Chosen}
use Rattle.lxr_blocks.specs.States.{state_in, state_of}
use Rattle.lxr_model.specs.Moments.{Moment, Trace}
use Rattle.lxr_model_counting.specs.Distinct.{has_field}
use Rattle.lxr_model_counting.proofs.DistinctLemmas.{tested}
use Rattle.lxr_invariant.specs.Lines.{is_chosen}
use Rattle.lxr_invariant.specs.Raised.{with_promoted}
use Rattle.lxr_invariant.specs.Standing.{place_of, word_of_field}
use Rattle.lxr_invariant.specs.Tracing.{HasOverflowed, IsRemembered}
use Rattle.lxr_invariant.proofs.BlockLemmas.{none_chosen, none_counted}
use Rattle.lxr_invariant.proofs.EntryLemmas.{changed_here, changed_other}
use Rattle.lxr_remset.specs.Remembering.{AreEntries, HasEntryAtNumber, HasEntryOf, IsField, KeepsSet, is_in_chosen, remembering, remembering_chosen}
use Rattle.lxr_remset.proofs.ChosenLemmas.{chosen_told}
use Rattle.lxr_remset.proofs.FieldLemmas.{field_of_object}
use Rattle.lxr_remset.proofs.SetLemmas.{new_entry, old_entry, remembering_keeps_set}
use Rattle.lxr_pause_promote.proofs.FewerLemmas.{states_same}
use Rattle.lxr_pause_increments.specs.Accounted.{IsEntered, IsHolder, IsKnown, IsRaisable, references_at, stage_with_held}
use Rattle.lxr_pause_increments.specs.Entering.{CanEnter, MayEnter, remembering_held}
use Rattle.lxr_pause_increments.specs.Increments.{IncrementStage, IsIncrementing, StaysRemembered, WasRaised}
use Rattle.lxr_pause_increments.specs.Steps.{Draws, EntersField, FixesField, KeepsCursor}
use Rattle.lxr_pause_increments.proofs.ChangedLemmas.{ChangesHeld, changed_incrementing}
use Rattle.lxr_pause_increments.proofs.FixedLemmas.{LeavesMoving, fixed_left, moving_left, register_left}
use Rattle.lxr_pause_increments.proofs.HeldLemmas.{goes_both, holder_known, still_placed, still_promoted}
use Rattle.lxr_pause_increments.proofs.MovingLemmas.{known_member, place_some}
use Rattle.lxr_pause_increments.proofs.RememberedLemmas.{stays_left}
use Rattle.lxr_pause_increments.proofs.StageLemmas.{all_made}

-- ---- whether it is remembered

-- what is held is nil or stands outside Chosen blocks, and nothing is done; or it stands in one, and the reference is remembered
data Case (s : Space) (p : Place) (i : ℕ) (q : Place) : Type 0 where
  nothing : ((q.0 ≡ 0) ⊎ (is_in_chosen (tables_of s) q ≡ false)) → remembering_held s.limits (tables_of s) p i q ≡ tables_of s → Case s p i q
  entry : q.0 ≢ 0 → is_in_chosen (tables_of s) q ≡ true → remembering_held s.limits (tables_of s) p i q ≡ remembering s.limits (tables_of s) p i → Case s p i q

case_of : (s : Space) (p : Place) (i : ℕ) (q : Place) → Case s p i q
case_of s p i q = elim (eqb_tells q.0 0) [
  | inl e ↦ nothing (inl e.1) (ap (λ b. cond b (tables_of s) (remembering_chosen s.limits (tables_of s) p i q)) e.0)
  | inr e ↦
      let some : remembering_held s.limits (tables_of s) p i q ≡ remembering_chosen s.limits (tables_of s) p i q = ap (λ b. cond b (tables_of s) (remembering_chosen s.limits (tables_of s) p i q)) e.0 in
      elim (tested (is_in_chosen (tables_of s) q)) [
        | inl k ↦ entry e.1 k (some ∙ ap (λ b. cond b (remembering s.limits (tables_of s) p i) (tables_of s)) k)
        | inr k ↦ nothing (inr k) (some ∙ ap (λ b. cond b (remembering s.limits (tables_of s) p i) (tables_of s)) k)
      ]
]

-- the tables are those of a space but for its heap and its set
spread_tables : (t r u : Tables) → u ≡ r → r ≡ record t { heap = r.heap; remembered = r.remembered; cursors = r.cursors } → u ≡ record t { heap = u.heap; remembered = u.remembered; cursors = u.cursors }
spread_tables t r u e is = subst (λ x. x ≡ record t { heap = x.heap; remembered = x.remembered; cursors = x.cursors }) (sym e) is

can_enter_on : (trace : Option Trace) (t u : Tables) → u.cursors REMEMBERED_CURSOR ≡ t.cursors REMEMBERED_CURSOR → CanEnter trace t → CanEnter trace u
can_enter_on None t u e can = tt
can_enter_on (Some trace) t u e can = omega (arith, e, can)

-- ---- reference i of u's object at place p, which holds place q

module _ (b : Space) (m : Moment) (at : Name → ℕ) (st : IncrementStage) (u : Name) (i : ℕ) (p q : Place) (is : IsIncrementing b m at st) (known : IsTrue (has (with_promoted m st.promoted) u)) (within : i < length (references_at m u))
    (changes : IsTrue (has st.promoted u) ⊎ IsTrue (has_field m.written (u, i))) (stands : p.0 ≡ st.now u) (word : q.0 ≡ place_word st.now (slice_index_or (references_at m u) i None)) (all : IsKnown m st (slice_index_or (references_at m u) i None)) where
  here : p ≡ place_of st.now u
  here = λ k. record { 0 = stands k }

  known_place : (n : Name) → IsTrue (has (with_promoted m st.promoted) n) → (1 ≤ st.now n) × (granule_of (st.now n) < GRANULES_IN_BLOCK * b.limits.blocks)
  known_place n h = place_some b st.found m at st.now st.promoted is.moving n (st.now n) (known_member m st.promoted (all_made b m at st is) n h) (inr refl)

  -- what it holds is nil or stands in the heap
  held_in_heap : q.0 ≤ GRANULES_IN_BLOCK * b.limits.blocks
  held_in_heap = by (slice_index_or (references_at m u) i None) all word
    where
      by : (held : Option Name) → IsKnown m st held → q.0 ≡ place_word st.now held → q.0 ≤ GRANULES_IN_BLOCK * b.limits.blocks
      by None all e = omega (arith, e)
      by (Some v) all e = let k = known_place v (all v refl) in omega (arith, e, k.0, k.1)

  field : IsField b.limits p i
  field =
      let x = is.moving.stands u (known_member m st.promoted (all_made b m at st is) u known) in
      let size : length (references_at m u) ≡ length x.0.refs = ap (λ z. length (refs_of z)) x.1 in
      subst (λ z. IsField b.limits z i) (sym here) (field_of_object b.limits (tables_of b) (place_of st.now u) u (shape_of x.0) i x.2.placed x.2.whole (omega (arith, size, within)))

  block_within : q.0 ≢ 0 → granule_of q.0 / GRANULES_IN_BLOCK < b.limits.blocks
  block_within some = let low = held_in_heap in omega (arith, some, low)

  pub may_enter : CanEnter m.trace (tables_of b) → MayEnter b p i q
  may_enter can = record {
    space = is.space;
    field = field;
    in_heap = held_in_heap;
    cursor = λ some chosen. by m.trace refl some (chosen_told (state_in (tables_of b) (granule_of q.0 / GRANULES_IN_BLOCK)) chosen) can;
  }
    where
      by : (trace : Option Trace) → m.trace ≡ trace → q.0 ≢ 0 → state_in (tables_of b) (granule_of q.0 / GRANULES_IN_BLOCK) ≡ Chosen → CanEnter trace (tables_of b) → (tables_of b).cursors REMEMBERED_CURSOR < 2 ^ 63
      by None e some chosen can = absurd (none_chosen (tables_of b) b.limits m.trace (granule_of q.0 / GRANULES_IN_BLOCK) is.blocks e (block_within some) chosen)
      by (Some trace) e some chosen can = can

  module _ (c : Space) (turns : Turns b c (remembering_held b.limits (tables_of b) p i q)) where
    limits : c.limits ≡ b.limits
    limits = ap (λ s. s.limits) turns.rest

    entry_tables : remembering_held b.limits (tables_of b) p i q ≡ remembering b.limits (tables_of b) p i → tables_of c ≡ remembering b.limits (tables_of b) (place_of st.now u) i
    entry_tables e = turns.tables ∙ e ∙ ap (λ z. remembering b.limits (tables_of b) z i) here

    -- where it is remembered, so it is, and all that was
    kept : remembering_held b.limits (tables_of b) p i q ≡ remembering b.limits (tables_of b) p i
        → KeepsSet b.limits (tables_of b) (tables_of c) st.now u i
    kept e =
        subst (λ t. KeepsSet b.limits (tables_of b) t st.now u i) (sym (entry_tables e))
        (remembering_keeps_set b.limits (tables_of b) st.now u i is.space.limits (record { counts = count_fits b.limits b.words; reuse = reuse_fits b.limits b.words }) (subst (λ z. IsField b.limits z i) here field))

    pub entered_changes : ChangesHeld b c
    entered_changes = record {
      tables = elim (case_of b p i q) [
        | nothing reason e ↦ spread_tables (tables_of b) (tables_of b) (tables_of c) (turns.tables ∙ e) refl
        | entry some chosen e ↦ spread_tables (tables_of b) (remembering b.limits (tables_of b) p i) (tables_of c) (turns.tables ∙ e) refl
      ];
      cursors = λ k other. elim (case_of b p i q) [
        | nothing reason e ↦ ap (λ t. t.cursors k) (turns.tables ∙ e)
        | entry some chosen e ↦ ap (λ t. t.cursors k) (turns.tables ∙ e) ∙ changed_other (tables_of b).cursors REMEMBERED_CURSOR ((tables_of b).cursors REMEMBERED_CURSOR + 1) k other
      ];
      space = turns.rest ∙ (λ k. record b { words = c.words; registers = record b.registers { items = sym (ap (λ s. s.registers.items) turns.rest) k } });
      as_many = ap (λ s. length s.registers.items) turns.rest;
    }

    entered_heap : (tables_of c).heap ≡ (tables_of b).heap
    entered_heap = elim (case_of b p i q) [
      | nothing reason e ↦ ap (λ t. t.heap) (turns.tables ∙ e)
      | entry some chosen e ↦ ap (λ t. t.heap) (turns.tables ∙ e)
    ]

    entered_still : LeavesMoving b c
    entered_still = record {
      limits = limits;
      heap = entered_heap;
      outs = ap (λ t. t.outs) entered_changes.tables;
      reuse = ap (λ t. t.reuse) entered_changes.tables;
      states = ap (λ t. t.states) entered_changes.tables;
      counts = λ k some none. some (sym (ap (λ t. t.counts k) entered_changes.tables) ∙ none);
      registers = ap (λ s. s.registers.items) turns.rest;
      deferred = ap (λ s. s.deferred.items) turns.rest;
      rest = (ap (λ s. s.rest_next) turns.rest, ap (λ s. s.rest_end) turns.rest);
    }

    entry_cursor : remembering_held b.limits (tables_of b) p i q ≡ remembering b.limits (tables_of b) p i → (tables_of c).cursors REMEMBERED_CURSOR ≡ (tables_of b).cursors REMEMBERED_CURSOR + 1
    entry_cursor e = ap (λ t. t.cursors REMEMBERED_CURSOR) (turns.tables ∙ e) ∙ changed_here (tables_of b).cursors REMEMBERED_CURSOR ((tables_of b).cursors REMEMBERED_CURSOR + 1) REMEMBERED_CURSOR refl

    -- its number is drawn and its entry written then
    drawn_there : (held : Option Name) → slice_index_or (references_at m u) i None ≡ held → q.0 ≢ 0 → is_in_chosen (tables_of b) q ≡ true
        → remembering_held b.limits (tables_of b) p i q ≡ remembering b.limits (tables_of b) p i → Draws b c m st.now (u, i)
    drawn_there None has_none some chosen e = absurd (some (word ∙ ap (place_word st.now) has_none))
    drawn_there (Some v) has_v some chosen e =
        let place : q.0 ≡ st.now v = word ∙ ap (place_word st.now) has_v in
        let block : ℕ = granule_of (st.now v) / GRANULES_IN_BLOCK in
        let in_b : state_in (tables_of b) block ≡ Chosen = chosen_told (state_in (tables_of b) block) (ap (λ z. is_chosen (state_in (tables_of b) (granule_of z / GRANULES_IN_BLOCK))) (sym place) ∙ chosen) in
        record {
          leads = record {
            held = v;
            holds = slice_get-get_or (references_at m u) i None within ∙ ap Some has_v;
            chosen = ap (λ f. state_of (f block)) entered_still.states ∙ in_b;
          };
          entry = λ room. ap (λ t. t.remembered ((tables_of b).cursors REMEMBERED_CURSOR)) (entry_tables e)
              ∙ new_entry b.limits (tables_of b) (place_of st.now u) i (subst (λ l. (tables_of b).cursors REMEMBERED_CURSOR < l.remember) limits room)
              ∙ ap (λ f. word_of_entry b.limits.blocks (f (word_of_field st.now u i / WORDS_IN_LINE)) (place_of st.now u) i) (sym entered_still.reuse)
              ∙ ap (λ (l : Limits). word_of_entry l.blocks ((tables_of c).reuse (word_of_field st.now u i / WORDS_IN_LINE)) (place_of st.now u) i) (sym limits);
          cursor = entry_cursor e;
        }

    entered_drawn : KeepsCursor b c ⊎ Draws b c m st.now (u, i)
    entered_drawn = elim (case_of b p i q) [
      | nothing reason e ↦ inl (ap (λ t. t.cursors REMEMBERED_CURSOR) (turns.tables ∙ e))
      | entry some chosen e ↦ inr (drawn_there (slice_index_or (references_at m u) i None) refl some chosen e)
    ]

    entry_there : (k : ℕ) → q.0 ≢ 0 → is_in_chosen (tables_of b) q ≡ true → remembering_held b.limits (tables_of b) p i q ≡ remembering b.limits (tables_of b) p i
        → k ≡ (tables_of b).cursors REMEMBERED_CURSOR → k < c.limits.remember → HasEntryOf c.limits (tables_of c) m st.now (WasRaised m st) k
    entry_there k some chosen e new room =
        let draws = drawn_there (slice_index_or (references_at m u) i None) refl some chosen e in
        record {
          holder = u;
          held = draws.leads.held;
          index = i;
          one = record { holder = known; changes = changes; known = λ w f. all w (get_or_from_slice_get (references_at m u) i (Some w) None f) };
          holds = draws.leads.holds;
          chosen = draws.leads.chosen;
          entry = ap (tables_of c).remembered new ∙ draws.entry (subst (λ z. z < c.limits.remember) new room);
        }

    entered_stays : StaysRemembered b c m st st
    entered_stays = elim (case_of b p i q) [
      | nothing reason e ↦
          let same : tables_of c ≡ tables_of b = turns.tables ∙ e in
          stays_left b c m st st (record { promoted = refl; now = refl }) (record { limits = limits; remembered = ap (λ t. t.remembered) same; cursor = ap (λ t. t.cursors REMEMBERED_CURSOR) same })
          (ap (λ t. t.reuse) same) (ap (λ t. t.states) same)
      | entry some chosen e ↦ record {
        limits = limits;
        states = λ k. states_same (tables_of b) (tables_of c) k entered_still.states;
        known = λ n h. (h, refl);
        promoted = λ n h. h;
        lines = λ n j h low. ap (λ f. f (word_of_field st.now n j / WORDS_IN_LINE)) entered_still.reuse;
        cursor = let more = entry_cursor e in omega (arith, more);
        below = λ k low. ap (λ t. t.remembered k) (entry_tables e) ∙ old_entry b.limits (tables_of b) (place_of st.now u) i k low;
        since = λ k from high room.
            let more = entry_cursor e in
            let new : k ≡ (tables_of b).cursors REMEMBERED_CURSOR = omega (arith, from, high, more) in
            entry_there k some chosen e new room;
        entries = λ h. subst (λ l. AreEntries l (tables_of c)) (sym limits) ((kept e).entries h);
        idle = λ none. absurd (none_counted (tables_of b) b.limits.blocks (granule_of q.0 / GRANULES_IN_BLOCK) none (block_within some) (chosen_told (state_in (tables_of b) (granule_of q.0 / GRANULES_IN_BLOCK)) chosen));
      }
    ]

    -- it is entered
    entered : IsEntered c m st u i
    entered v e chosen =
        let there : q.0 ≡ st.now v = word ∙ ap (place_word st.now) e in
        let placed = (known_place v (all v e)).0 in
        let block : ℕ = granule_of (st.now v) / GRANULES_IN_BLOCK in
        let told : state_in (tables_of b) block ≡ Chosen = ap (λ f. state_of (f block)) (sym entered_still.states) ∙ chosen in
        let in_chosen : is_in_chosen (tables_of b) q ≡ true = ap (λ z. is_chosen (state_in (tables_of b) (granule_of z / GRANULES_IN_BLOCK))) there ∙ ap is_chosen told in
        elim (case_of b p i q) [
          | nothing reason same ↦ absurd (elim reason [ inl zero ↦ omega (arith, zero, there, placed) | inr out ↦ let k : true ≡ false = sym in_chosen ∙ out in cc ])
          | entry some told_chosen same ↦ elim (kept same).field [
            | inl is_there ↦ inl (subst (λ l. IsRemembered l (tables_of c) st.now u i) (sym limits) is_there)
            | inr full ↦ inr (subst (λ l. HasOverflowed l (tables_of c)) (sym limits) full)
          ]
        ]

-- ---- a reference that was raised

module _ (a b : Space) (m : Moment) (at : Name → ℕ) (st : IncrementStage) (u : Name) (p : Place) (i : ℕ) (q : Place) (is : IsIncrementing a m at st) (holder : IsHolder m st u p.0) (raisable : IsRaisable m st u i)
    (fixes : FixesField a b m at st u i q.0) where
  abbrev later : IncrementStage
  later = stage_with_held m st (slice_index_or (references_at m u) i None) q.0

  there : p.0 ≡ later.now u
  there = holder.stands ∙ sym (still_placed m st (slice_index_or (references_at m u) i None) q.0 u is.follows (holder_known m st u p.0 holder))

  changed_then : IsTrue (has later.promoted u) ⊎ IsTrue (has_field m.written (u, i))
  changed_then = elim raisable.changes [ inl h ↦ inl (still_promoted m st (slice_index_or (references_at m u) i None) q.0 u h) | inr h ↦ inr h ]

  pub field_may_enter : CanEnter m.trace (tables_of a) → MayEnter b p i q
  field_may_enter can =
      may_enter b m at later u i p q fixes.incrementing fixes.fixed.holder raisable.within changed_then there fixes.word fixes.fixed.known
      (can_enter_on m.trace (tables_of a) (tables_of b) fixes.cursor can)

  module _ (c : Space) (turns : Turns b c (remembering_held b.limits (tables_of b) p i q)) where
    pub field_changes : ChangesHeld b c
    field_changes = entered_changes b m at later u i p q fixes.incrementing fixes.fixed.holder raisable.within changed_then there fixes.word fixes.fixed.known c turns

    pub field_enters : EntersField a c m at st u i q.0
    field_enters =
        let stays = entered_stays b m at later u i p q fixes.incrementing fixes.fixed.holder raisable.within changed_then there fixes.word fixes.fixed.known c turns in
        let still = entered_still b m at later u i p q fixes.incrementing fixes.fixed.holder raisable.within changed_then there fixes.word fixes.fixed.known c turns in
        let draws = entered_drawn b m at later u i p q fixes.incrementing fixes.fixed.holder raisable.within changed_then there fixes.word fixes.fixed.known c turns in
        let same = fixes.cursor in
        record {
          incrementing = changed_incrementing b c field_changes m at later stays (moving_left b c later.found m at later.now later.promoted still fixes.incrementing.moving) fixes.incrementing;
          raised = record {
            fixed = fixed_left b c m later later (record { promoted = refl; now = refl }) still.heap u i fixes.fixed;
            entered = entered b m at later u i p q fixes.incrementing fixes.fixed.holder raisable.within changed_then there fixes.word fixes.fixed.known c turns;
          };
          goes_on = goes_both a b c m st later later fixes.goes_on (record {
            found = refl;
            fields = fixed_left b c m later later (record { promoted = refl; now = refl }) still.heap;
            registers = register_left b c m later later (record { promoted = refl; now = refl }) still.registers;
            remembered = stays;
          });
          drawn = drawn_since same draws;
        }
      where
        -- no number was drawn before
        drawn_since : KeepsCursor a b → KeepsCursor b c ⊎ Draws b c m later.now (u, i) → KeepsCursor a c ⊎ Draws a c m later.now (u, i)
        drawn_since same (inl none) = inl (none ∙ same)
        drawn_since same (inr draws) = inr (record {
          leads = draws.leads;
          entry = subst (λ k. HasEntryAtNumber c.limits (tables_of c) later.now k (u, i)) same draws.entry;
          cursor = let more = draws.cursor in omega (arith, more, same);
        })
