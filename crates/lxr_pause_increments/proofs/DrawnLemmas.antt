-- Numbers that were drawn stay those of their references, and one more is drawn only for a reference that was still to be raised.
use Rattle.std.proofs.Common.{◌≡◌, ℕ, zero, suc, ◌+◌, ◌<◌, ◌≤◌, refl, sym, ap, subst, ◌∙◌, inl, inr, ◌⊎◌, arith, add-one, Bool, true, false, cond, List, [], ◌∷◌, ◌++◌, IsTrue, length}
use Rattle.std.specs.Prelude.{not, Option, None, Some, count_by, slice_get, take}
use Rattle.std.specs.List.Sorted.{IsPermutation}
use Rattle.std.proofs.lemmas.Bool.{and_parts, or_cases}
use Rattle.std.proofs.lemmas.List.Sums.{sum_by-cons, sum_by-take-le}
use Rattle.std.proofs.lemmas.Option.{get_or_from_slice_get, slice_get_within}
use Rattle.lxr_layout.specs.declared.Name.{Name}
use Rattle.lxr_layout.specs.declared.TheConstants.{REMEMBERED_CURSOR}
use Rattle.lxr_graph.specs.Names.{has, same_name}
use Rattle.lxr_graph.proofs.NameSets.{same_names}
use Rattle.lxr_image.specs.declared.space.Space.{Space}
use Rattle.lxr_image.specs.Spaces.{tables_of}
use Rattle.lxr_model.specs.Moments.{Field, Moment, same_field}
use Rattle.lxr_model_counting.specs.Distinct.{AreDistinctFields, has_field}
use Rattle.lxr_model_counting.proofs.BalanceLemmas.{count_permuted}
use Rattle.lxr_model_counting.proofs.DistinctLemmas.{field_split, first_field, later_field, or_false, same_field_itself, same_fields, tested}
use Rattle.lxr_remset.specs.Remembering.{AreEntered, EntersOnce, HasEntryAtNumber}
use Rattle.lxr_invariant.proofs.EntryLemmas.{one_if}
use Rattle.lxr_remset.proofs.OnceLemmas.{entered_one}
use Rattle.lxr_pause_increments.specs.Accounted.{IsFixed, IsPassed, references_at, stage_with_held}
use Rattle.lxr_pause_increments.specs.Increments.{IncrementStage, IsIncrementing, StaysRemembered, WasRaised, is_unpromoted}
use Rattle.lxr_pause_increments.specs.Steps.{Draws, KeepsCursor}
use Rattle.lxr_pause_increments.proofs.HeldLemmas.{still_promoted}
use Rattle.lxr_pause_increments.proofs.OrderLemmas.{counted_more, has_other}
use Rattle.lxr_pause_increments.proofs.RememberedLemmas.{entry_stays, leads_on, was_raised_on}
use Rattle.lxr_pause_increments.proofs.StageLemmas.{all_made, made_unwritten}

-- ---- numbers that were drawn

module _ (a b : Space) (m : Moment) (st later : IncrementStage) (stays : StaysRemembered a b m st later) (found : later.found ≡ st.found) (P Q : Name → ℕ → Type 0) (so : (u : Name) (i : ℕ) → P u i → Q u i) where
  -- they stay those of their references
  entered_on : (from : ℕ) (fields : List Field) → from + length fields ≤ (tables_of a).cursors REMEMBERED_CURSOR → AreEntered a.limits (tables_of a) m st.now (λ u i. WasRaised m st u i × P u i) from fields
      → AreEntered b.limits (tables_of b) m later.now (λ u i. WasRaised m later u i × Q u i) from fields
  entered_on from [] below are = tt
  entered_on from (f ∷ fields) below are = (
    (was_raised_on a b m st later stays f.0 f.1 are.0.0, so f.0 f.1 are.0.1),
    leads_on a b m st later stays f.0 f.1 are.0.0 are.1,
    are.2,
    λ room. entry_stays a b m st later stays f.0 f.1 (from + length fields) are.0.0.holder (slice_get_within (references_at m f.0) f.1 (Some are.1.held) are.1.holds) (omega (arith, below))
        (are.3 (subst (λ l. from + length fields < l.remember) stays.limits room)),
    entered_on from fields (omega (arith, below)) are.4,
  )

  abbrev Before : Type 0
  Before = EntersOnce a.limits (tables_of st.found) (tables_of a) m st.now (λ u i. WasRaised m st u i × P u i)

  abbrev After : Type 0
  After = EntersOnce b.limits (tables_of later.found) (tables_of b) m later.now (λ u i. WasRaised m later u i × Q u i)

  began : (tables_of later.found).cursors REMEMBERED_CURSOR ≡ (tables_of st.found).cursors REMEMBERED_CURSOR
  began = ap {A = Space} (λ x. (tables_of x).cursors REMEMBERED_CURSOR) found

  stay : (is : Before) → AreEntered b.limits (tables_of b) m later.now (λ u i. WasRaised m later u i × Q u i) ((tables_of later.found).cursors REMEMBERED_CURSOR) is.entered
  stay is = subst (λ k. AreEntered b.limits (tables_of b) m later.now (λ u i. WasRaised m later u i × Q u i) k is.entered) (sym began)
      (entered_on ((tables_of st.found).cursors REMEMBERED_CURSOR) is.entered (let drawn = is.drawn in omega (arith, drawn)) is.are)

  -- no number is drawn
  pub none_drawn : KeepsCursor a b → Before → After
  none_drawn same is = record { entered = is.entered; are = stay is; drawn = let drawn = is.drawn in let from = began in omega (arith, drawn, same, from) }

  -- one is drawn for a reference that was still to be raised
  pub one_drawn : (u : Name) (i : ℕ) → WasRaised m later u i → Q u i → ¬ P u i → Draws a b m later.now (u, i) → Before → After
  one_drawn u i was passed due draws is = record {
    entered = (u, i) ∷ is.entered;
    are = (
      (was, passed),
      draws.leads,
      elim (tested (has_field is.entered (u, i))) [
        | inl there ↦ absurd (due (entered_one a.limits (tables_of a) m st.now (λ n j. WasRaised m st n j × P n j) ((tables_of st.found).cursors REMEMBERED_CURSOR) is.entered (u, i) is.are there).1)
        | inr none ↦ none
      ],
      subst (λ k. HasEntryAtNumber b.limits (tables_of b) later.now k (u, i)) (let drawn = is.drawn in let from = began in omega (arith, drawn, from)) draws.entry,
      stay is,
    );
    drawn = let drawn = is.drawn in let from = began in let more = draws.cursor in omega (arith, drawn, from, more);
  }

  pub maybe_drawn : (u : Name) (i : ℕ) → WasRaised m later u i → Q u i → ¬ P u i → KeepsCursor a b ⊎ Draws a b m later.now (u, i) → Before → After
  maybe_drawn u i was passed due (inl same) is = none_drawn same is
  maybe_drawn u i was passed due (inr draws) is = one_drawn u i was passed due draws is

-- at most one is drawn
pub at_most_one : (a b : Space) (m : Moment) (now : Name → ℕ) (w : Field) → KeepsCursor a b ⊎ Draws a b m now w → (tables_of b).cursors REMEMBERED_CURSOR ≤ (tables_of a).cursors REMEMBERED_CURSOR + 1
at_most_one a b m now w (inl same) = omega (arith, same)
at_most_one a b m now w (inr draws) = let more = draws.cursor in omega (arith, more)

-- ---- what is raised already

-- a reference that is fixed was raised
pub fixed_raised : (s : Space) (m : Moment) (st : IncrementStage) (u : Name) (i : ℕ) → IsFixed s m st u i → IsTrue (has st.promoted u) ⊎ IsTrue (has_field m.written (u, i)) → WasRaised m st u i
fixed_raised s m st u i fixed changes = record { holder = fixed.holder; changes = changes; known = λ v e. fixed.known v (get_or_from_slice_get (references_at m u) i (Some v) None e) }

-- nothing was stored to a promoted object since the last pause
pub not_written : (s : Space) (m : Moment) (at : Name → ℕ) (st : IncrementStage) (u : Name) (i : ℕ) → IsIncrementing s m at st → IsTrue (has st.promoted u) → IsTrue (has_field m.written (u, i)) → ⊥
not_written s m at st u i is promoted written = let none = made_unwritten m is.follows u (all_made s m at st is u promoted) i in cc

-- a promoted object that is out of the worklist stays so
pub still_out : (m : Moment) (st : IncrementStage) (held : Option Name) (q : ℕ) (v : Name) → IsTrue (has st.promoted v) → has st.work v ≡ false → has (stage_with_held m st held q).work v ≡ false
still_out m st None q v promoted out = out
still_out m st (Some o) q v promoted out = elim (tested (is_unpromoted m st o)) [
  | inl new ↦
      let absent : has st.promoted o ≡ false = not_true (has st.promoted o) (and_parts (has m.made o) (not (has st.promoted o)) new).1 in
      let differ : same_name v o ≡ false = elim (tested (same_name v o)) [
        | inl same ↦ absurd (let is_o : has st.promoted v ≡ has st.promoted o = ap (has st.promoted) (same_names v o same) in cc)
        | inr other ↦ other
      ] in
      ap (λ b. has (cond b (st.work ++ o ∷ []) st.work) v) new ∙ has_other st.work o v differ ∙ out
  | inr old ↦ ap (λ b. has (cond b (st.work ++ o ∷ []) st.work) v) old ∙ out
]
  where
    not_true : (b : Bool) → IsTrue (not b) → b ≡ false
    not_true true h = absurd (cc)
    not_true false h = refl

-- what is raised already is so at the next stage, where no more is open and as many of those that were stored to are
pub passed_on : (m : Moment) (st : IncrementStage) (held : Option Name) (q : ℕ) (written more : List Field) (open_before open_after : Name → ℕ → Type 0) → ((u : Name) (i : ℕ) → open_after u i → open_before u i)
    → ((w : Field) → IsTrue (has_field written w) → IsTrue (has_field more w)) → (u : Name) (i : ℕ) → IsPassed m st written open_before u i → IsPassed m (stage_with_held m st held q) more open_after u i
passed_on m st held q written more open_before open_after fewer grow u i (inl is) = inl (still_promoted m st held q u is.0, still_out m st held q u is.0 is.1, λ h. is.2 (fewer u i h))
passed_on m st held q written more open_before open_after fewer grow u i (inr is) = inr (is.0, grow (u, i) is.1)

-- ---- the first of a list of fields

taken_longer : (ws : List Field) (i : ℕ) (w : Field) → IsTrue (has_field (take i ws) w) → IsTrue (has_field (take (suc i) ws) w)
taken_longer [] zero w h = absurd (cc)
taken_longer [] (suc i) w h = absurd (cc)
taken_longer (x ∷ ws) zero w h = absurd (cc)
taken_longer (x ∷ ws) (suc i) w h = elim (field_split x (take i ws) w h) [
  | inl same ↦ subst (λ z. IsTrue (has_field (x ∷ take (suc i) ws) z)) (sym same) (first_field x (take (suc i) ws))
  | inr later ↦ later_field x (take (suc i) ws) w (taken_longer ws i w later)
]

taken_last : (ws : List Field) (i : ℕ) (w : Field) → slice_get ws i ≡ Some w → IsTrue (has_field (take (suc i) ws) w)
taken_last [] i w e = absurd (cc)
taken_last (x ∷ ws) zero w e = let same : x ≡ w = cc in subst (λ z. IsTrue (has_field (z ∷ take zero ws) w)) (sym same) (first_field w (take zero ws))
taken_last (x ∷ ws) (suc i) w e = later_field x (take (suc i) ws) w (taken_last ws i w e)

pub taken_more : (ws : List Field) (i : ℕ) (w : Field) → IsTrue (has_field (take i ws) w) → IsTrue (has_field (take (i + 1) ws) w)
taken_more ws i w h = subst (λ n. IsTrue (has_field (take n ws) w)) (sym (add-one i)) (taken_longer ws i w h)

pub taken_here : (ws : List Field) (i : ℕ) (w : Field) → slice_get ws i ≡ Some w → IsTrue (has_field (take (i + 1) ws) w)
taken_here ws i w e = subst (λ n. IsTrue (has_field (take n ws) w)) (sym (add-one i)) (taken_last ws i w e)

pub none_taken : (ws : List Field) (w : Field) → IsTrue (has_field (take 0 ws) w) → ⊥
none_taken [] w h = cc
none_taken (x ∷ ws) w h = cc

counted_had : (ws : List Field) (w : Field) → IsTrue (has_field ws w) → 1 ≤ count_by (same_field w) ws
counted_had [] w h = absurd (cc)
counted_had (x ∷ ws) w h =
    let step = sum_by-cons (λ v. one_if (same_field w v)) x ws in
    elim (or_cases (same_field w x) (has_field ws w) h) [
      | inl e ↦ let here : one_if (same_field w x) ≡ 1 = ap one_if e in omega (arith, step, here)
      | inr k ↦ let rest = counted_had ws w k in omega (arith, step, rest)
    ]

counted_none : (ws : List Field) (w : Field) → has_field ws w ≡ false → count_by (same_field w) ws ≡ 0
counted_none [] w e = refl
counted_none (x ∷ ws) w e =
    let parts = or_false (same_field w x) (has_field ws w) e in
    let step = sum_by-cons (λ v. one_if (same_field w v)) x ws in
    let here : one_if (same_field w x) ≡ 0 = ap one_if parts.0 in
    let rest = counted_none ws w parts.1 in
    omega (arith, step, here, rest)

counted_once : (ws : List Field) (w : Field) → AreDistinctFields ws → count_by (same_field w) ws ≤ 1
counted_once [] w d = omega arith
counted_once (x ∷ ws) w d =
    let step = sum_by-cons (λ v. one_if (same_field w v)) x ws in
    elim (tested (same_field w x)) [
      | inl e ↦
          let here : one_if (same_field w x) ≡ 1 = ap one_if e in
          let none = counted_none ws w (ap (has_field ws) (same_fields w x e) ∙ d.0) in
          omega (arith, step, here, none)
      | inr e ↦ let here : one_if (same_field w x) ≡ 0 = ap one_if e in let rest = counted_once ws w d.1 in omega (arith, step, here, rest)
    ]

-- in another order of fields of which none stands twice, one isn't among those before it
pub not_taken : (written fields : List Field) (i : ℕ) (w : Field) → AreDistinctFields written → IsPermutation written fields → slice_get fields i ≡ Some w → IsTrue (has_field (take i fields) w) → ⊥
not_taken written fields i w once order got h =
    let had = counted_had (take i fields) w h in
    let more = counted_more (same_field w) fields i w got in
    let here : one_if (same_field w w) ≡ 1 = ap one_if (same_field_itself w) in
    let whole = sum_by-take-le (λ v. one_if (same_field w v)) fields (i + 1) in
    let same = count_permuted (same_field w) written fields order in
    let one = counted_once written w once in
    omega (arith, had, more, here, whole, same, one)
