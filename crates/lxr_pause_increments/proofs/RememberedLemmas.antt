-- What was remembered stays so from stage to stage: what is known moves no more, and lines on which it lies aren't handed out.
use Rattle.std.proofs.Common.{◌≡◌, ℕ, ◌/◌, ◌<◌, refl, sym, ap, subst, ◌∙◌, inl, inr, arith, IsTrue, false, length, true}
use Rattle.std.specs.Prelude.{Some}
use Rattle.std.proofs.lemmas.Bool.Decides.{leb_tells}
use Rattle.std.proofs.lemmas.Option.{slice_get_within}
use Rattle.lxr_layout.specs.declared.limits.Limits.{Limits}
use Rattle.lxr_layout.specs.declared.Name.{Name}
use Rattle.lxr_layout.specs.declared.TheConstants.{GRANULES_IN_BLOCK, REMEMBERED_CURSOR, WORDS_IN_LINE}
use Rattle.lxr_layout.specs.Runs.{word_of_entry}
use Rattle.lxr_graph.specs.Names.{has}
use Rattle.lxr_image.specs.declared.space.Space.{Space}
use Rattle.lxr_image.specs.Tables.{Tables}
use Rattle.lxr_image.specs.Reads.{granule_of}
use Rattle.lxr_image.specs.Spaces.{tables_of}
use Rattle.lxr_blocks.specs.declared.states.BlockState.TheVariants.{Chosen}
use Rattle.lxr_blocks.specs.States.{KeepsState, is_fixed, state_in, state_of}
use Rattle.lxr_model.specs.Moments.{Moment}
use Rattle.lxr_invariant.specs.Lines.{NoneChosen}
use Rattle.lxr_invariant.specs.Raised.{with_promoted}
use Rattle.lxr_invariant.specs.Standing.{place_of, word_of_field}
use Rattle.lxr_invariant.specs.Tracing.{HasOverflowed, IsInChosen, IsRemembered}
use Rattle.lxr_invariant.proofs.BlockLemmas.{none_kept}
use Rattle.lxr_remset.specs.Remembering.{AreEntries, HasEntryOf, LeadsIntoChosen}
use Rattle.lxr_pause_promote.proofs.FewerLemmas.{state_back, states_joined, states_same}
use Rattle.lxr_pause_increments.specs.Accounted.{IsEntered, IsFieldRaised, IsFixed, GoesOn, references_at}
use Rattle.lxr_pause_increments.specs.Increments.{IncrementStage, StaysRemembered, WasRaised}
use Rattle.lxr_pause_increments.proofs.FixedLemmas.{IsSameStage}

-- ---- the same set

pub entries_on : (l k : Limits) (t u : Tables) → k ≡ l → u.remembered ≡ t.remembered → u.cursors REMEMBERED_CURSOR ≡ t.cursors REMEMBERED_CURSOR → AreEntries l t → AreEntries k u
entries_on l k t u limits set cursor are = subst (λ x. AreEntries x u) (sym limits) (λ j below room.
    let e = are j (subst (λ x. j < x) cursor below) room in
    (e.0, e.1, e.2, record { is = ap (λ f. f j) set ∙ e.3.is; entry = e.3.entry; in_heap = e.3.in_heap }))

-- what a step leaves of the set
pub record LeavesSet (a b : Space) : Type 0 where
  pub limits : b.limits ≡ a.limits
  pub remembered : (tables_of b).remembered ≡ (tables_of a).remembered
  pub cursor : (tables_of b).cursors REMEMBERED_CURSOR ≡ (tables_of a).cursors REMEMBERED_CURSOR

-- what a step asks of known names and their lines
pub record KeepsKnown (a b : Space) (m : Moment) (st later : IncrementStage) : Type 0 where
  pub states : (k : ℕ) → KeepsState (tables_of a) (tables_of b) k
  pub known : (u : Name) → IsTrue (has (with_promoted m st.promoted) u) → IsTrue (has (with_promoted m later.promoted) u) × (later.now u ≡ st.now u)
  pub promoted : (u : Name) → IsTrue (has st.promoted u) → IsTrue (has later.promoted u)
  pub lines : (u : Name) (i : ℕ) → IsTrue (has (with_promoted m st.promoted) u) → i < length (references_at m u)
      → (tables_of b).reuse (word_of_field later.now u i / WORDS_IN_LINE) ≡ (tables_of a).reuse (word_of_field st.now u i / WORDS_IN_LINE)

pub stays_by : (a b : Space) (m : Moment) (st later : IncrementStage) → LeavesSet a b → KeepsKnown a b m st later → StaysRemembered a b m st later
stays_by a b m st later leaves keeps = record {
  limits = leaves.limits;
  states = keeps.states;
  known = keeps.known;
  promoted = keeps.promoted;
  lines = keeps.lines;
  cursor = let same = leaves.cursor in omega (arith, same);
  below = λ k low. ap (λ f. f k) leaves.remembered;
  since = λ k from high room. let same = leaves.cursor in absurd (omega (arith, from, high, same));
  entries = entries_on a.limits b.limits (tables_of a) (tables_of b) leaves.limits leaves.remembered leaves.cursor;
  idle = λ none. (leaves.remembered, leaves.cursor);
}

-- ---- entries

-- a block that is Chosen stays so
chosen_on : (t u : Tables) (b : ℕ) → KeepsState t u b → state_in t b ≡ Chosen → state_in u b ≡ Chosen
chosen_on t u b (inl e) is = ap (λ k. state_of k) e ∙ is
chosen_on t u b (inr (was, now)) is = absurd (let k : true ≡ false = ap is_fixed (sym is) ∙ was in cc)

module _ (a b : Space) (m : Moment) (st later : IncrementStage) (stays : StaysRemembered a b m st later) where
  -- what stood in a Chosen block does so, and what does did
  is_in_chosen : (v : Name) → IsTrue (has (with_promoted m st.promoted) v) → IsInChosen (tables_of a) st.now v → IsInChosen (tables_of b) later.now v
  is_in_chosen v known chosen =
      subst (λ p. state_in (tables_of b) (granule_of p / GRANULES_IN_BLOCK) ≡ Chosen) (sym (stays.known v known).1)
      (chosen_on (tables_of a) (tables_of b) (granule_of (st.now v) / GRANULES_IN_BLOCK) (stays.states (granule_of (st.now v) / GRANULES_IN_BLOCK)) chosen)

  was_in_chosen : (v : Name) → IsTrue (has (with_promoted m st.promoted) v) → IsInChosen (tables_of b) later.now v → IsInChosen (tables_of a) st.now v
  was_in_chosen v known chosen =
      let block : ℕ = granule_of (st.now v) / GRANULES_IN_BLOCK in
      chosen_on (tables_of b) (tables_of a) block (state_back (tables_of a) (tables_of b) block (stays.states block))
      (subst (λ p. state_in (tables_of b) (granule_of p / GRANULES_IN_BLOCK) ≡ Chosen) (stays.known v known).1 chosen)

  -- a reference that was raised was so, and leads into a Chosen block still
  pub was_raised_on : (u : Name) (i : ℕ) → WasRaised m st u i → WasRaised m later u i
  was_raised_on u i was = record {
    holder = (stays.known u was.holder).0;
    changes = elim was.changes [ inl h ↦ inl (stays.promoted u h) | inr h ↦ inr h ];
    known = λ v e. (stays.known v (was.known v e)).0;
  }

  pub leads_on : (u : Name) (i : ℕ) → WasRaised m st u i → LeadsIntoChosen (tables_of a) m st.now u i → LeadsIntoChosen (tables_of b) m later.now u i
  leads_on u i was leads = record { held = leads.held; holds = leads.holds; chosen = is_in_chosen leads.held (was.known leads.held leads.holds) leads.chosen }

  -- the entry of a reference is its entry still
  pub entry_stays : (u : Name) (i k : ℕ) → IsTrue (has (with_promoted m st.promoted) u) → i < length (references_at m u) → k < (tables_of a).cursors REMEMBERED_CURSOR
      → (tables_of a).remembered k ≡ word_of_entry a.limits.blocks ((tables_of a).reuse (word_of_field st.now u i / WORDS_IN_LINE)) (place_of st.now u) i
      → (tables_of b).remembered k ≡ word_of_entry b.limits.blocks ((tables_of b).reuse (word_of_field later.now u i / WORDS_IN_LINE)) (place_of later.now u) i
  entry_stays u i k known within below is =
      stays.below k below ∙ is ∙ (λ j. word_of_entry (sym stays.limits j).blocks (sym (stays.lines u i known within) j) (record { 0 = sym (stays.known u known).1 j }) i)

  pub remembered_on : (u : Name) (i : ℕ) → IsTrue (has (with_promoted m st.promoted) u) → i < length (references_at m u) → IsRemembered a.limits (tables_of a) st.now u i → IsRemembered b.limits (tables_of b) later.now u i
  remembered_on u i known within is =
      let more = stays.cursor in
      let below = is.1 in
      (is.0, omega (arith, more, below), subst (λ l. is.0 < l.remember) (sym stays.limits) is.2, entry_stays u i is.0 known within is.1 is.3)

  pub overflowed_on : HasOverflowed a.limits (tables_of a) → HasOverflowed b.limits (tables_of b)
  overflowed_on is = let more = stays.cursor in subst (λ l. l.remember < (tables_of b).cursors REMEMBERED_CURSOR) (sym stays.limits) (omega (arith, is, more))

  pub entry_on : (k : ℕ) → k < (tables_of a).cursors REMEMBERED_CURSOR → HasEntryOf a.limits (tables_of a) m st.now (WasRaised m st) k → HasEntryOf b.limits (tables_of b) m later.now (WasRaised m later) k
  entry_on k below is = record {
    holder = is.holder;
    held = is.held;
    index = is.index;
    one = was_raised_on is.holder is.index is.one;
    holds = is.holds;
    chosen = is_in_chosen is.held (is.one.known is.held is.holds) is.chosen;
    entry = entry_stays is.holder is.index k is.one.holder (slice_get_within (references_at m is.holder) is.index (Some is.held) is.holds) below is.entry;
  }

-- ---- steps

pub stays_none : (s : Space) (m : Moment) (st : IncrementStage) → StaysRemembered s s m st st
stays_none s m st = record { limits = refl; states = λ k. inl refl; known = λ u h. (h, refl); promoted = λ u h. h; lines = λ u i h within. refl; cursor = omega arith; below = λ k low. refl; since = λ k from high room. absurd (omega (arith, from, high)); entries = λ h. h; idle = λ none. (refl, refl) }

-- one step after another
pub stays_both : (a b c : Space) (m : Moment) (st next later : IncrementStage) → StaysRemembered a b m st next → StaysRemembered b c m next later → StaysRemembered a c m st later
stays_both a b c m st next later x y = record {
  limits = y.limits ∙ x.limits;
  states = λ k. states_joined (tables_of a) (tables_of b) (tables_of c) k (x.states k) (y.states k);
  known = λ u h. let k = x.known u h in let l = y.known u k.0 in (l.0, l.1 ∙ k.1);
  promoted = λ u h. y.promoted u (x.promoted u h);
  lines = λ u i h within. y.lines u i (x.known u h).0 within ∙ x.lines u i h within;
  cursor = let first = x.cursor in let second = y.cursor in omega (arith, first, second);
  below = λ k low. let first = x.cursor in y.below k (omega (arith, low, first)) ∙ x.below k low;
  since = λ k from high room. elim (leb_tells ((tables_of b).cursors REMEMBERED_CURSOR) k) [
    | inl there ↦ y.since k there.1 high room
    | inr before ↦ entry_on b c m next later y k before.1 (x.since k from before.1 (subst (λ l. k < l.remember) y.limits room))
  ];
  entries = λ h. y.entries (x.entries h);
  idle = λ none.
      let first = x.idle none in
      let still : NoneChosen (tables_of b) b.limits.blocks = subst (λ l. NoneChosen (tables_of b) l.blocks) (sym x.limits) (none_kept (tables_of a) (tables_of b) a.limits.blocks x.states none) in
      let second = y.idle still in
      (second.0 ∙ first.0, second.1 ∙ first.1);
}

-- a step that promotes nothing, and leaves states and how often lines were handed out
pub stays_left : (a b : Space) (m : Moment) (st later : IncrementStage) → IsSameStage st later → LeavesSet a b → (tables_of b).reuse ≡ (tables_of a).reuse → (tables_of b).states ≡ (tables_of a).states
    → StaysRemembered a b m st later
stays_left a b m st later same leaves reuse states = stays_by a b m st later leaves (record {
  states = λ k. states_same (tables_of a) (tables_of b) k states;
  known = λ u h. (subst (λ ps. IsTrue (has (with_promoted m ps) u)) (sym same.promoted) h, ap (λ f. f u) same.now);
  promoted = λ u h. subst (λ ps. IsTrue (has ps u)) (sym same.promoted) h;
  lines = λ u i h within j. reuse j (word_of_field (same.now j) u i / WORDS_IN_LINE);
})

-- ---- references that were raised

-- one that was entered stays so
pub entered_on : (a b : Space) (m : Moment) (st later : IncrementStage) (u : Name) (i : ℕ) → StaysRemembered a b m st later → IsFixed a m st u i → IsEntered a m st u i → IsEntered b m later u i
entered_on a b m st later u i stays fixed entered v e chosen = elim (entered v e (was_in_chosen a b m st later stays v (fixed.known v e) chosen)) [
  | inl is ↦ inl (remembered_on a b m st later stays u i fixed.holder fixed.within is)
  | inr full ↦ inr (overflowed_on a b m st later stays full)
]

pub raised_on : (a b : Space) (m : Moment) (st later : IncrementStage) (u : Name) (i : ℕ) → GoesOn a b m st later → IsFieldRaised a m st u i → IsFieldRaised b m later u i
raised_on a b m st later u i goes_on raised = record { fixed = goes_on.fields u i raised.fixed; entered = entered_on a b m st later u i goes_on.remembered raised.fixed raised.entered }
