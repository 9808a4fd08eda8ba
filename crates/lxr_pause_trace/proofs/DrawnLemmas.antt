-- Each number that is drawn while a trace is finished has an entry of its own: a reference is passed once, when its entry is written.
use Rattle.std.proofs.Common.{◌≡◌, ◌≢◌, ℕ, suc, ◌+◌, ◌<◌, ◌≤◌, refl, sym, ap, subst, ◌∙◌, inl, inr, arith, List, [], ◌∷◌, ◌++◌, IsTrue, length}
use Rattle.std.specs.Prelude.{Some}
use Rattle.std.specs.List.{Contains}
use Rattle.std.proofs.lemmas.Bool.Decides.{leb_tells}
use Rattle.std.proofs.lemmas.List.Elements.{Contains-append_left, Contains-push, Contains-push_cases}
use Rattle.lxr_layout.specs.declared.TheConstants.{REMEMBERED_CURSOR}
use Rattle.lxr_layout.specs.declared.limits.Limits.{Limits}
use Rattle.lxr_layout.specs.declared.Place.{Place}
use Rattle.lxr_layout.specs.Runs.{IsEntry, word_of_entry}
use Rattle.lxr_layout.proofs.EntryLemmas.{one_entry}
use Rattle.lxr_image.specs.Tables.{Tables}
use Rattle.lxr_image.specs.Reads.{field_at, granule_of}
use Rattle.lxr_invariant.proofs.EntryLemmas.{changed_here}
use Rattle.lxr_model_counting.proofs.DistinctLemmas.{tested}
use Rattle.lxr_remset.specs.Remembering.{is_in_chosen, line_of_field, remembering, remembering_chosen}
use Rattle.lxr_remset.proofs.ChosenLemmas.{where_chosen, where_not}
use Rattle.lxr_remset.proofs.SetLemmas.{new_entry, old_entry}
use Rattle.lxr_pause_trace.specs.Marking.{AreEnteredAt, EntersOnly, HasEntryAt, IsLeft, IsWaiting, WaitOnce}
use Rattle.lxr_pause_trace.proofs.SlotLemmas.{first_or_later, is_first, is_later, none_in}

-- ---- worklists

pub once_pushed : (ps : List Place) (p : Place) → WaitOnce ps → ¬ Contains ps p → WaitOnce (ps ++ p ∷ [])
once_pushed [] p once out = (none_in p, once)
once_pushed (q ∷ ps) p once out = (
  λ h. elim (Contains-push_cases ps p q h) [
    | inl there ↦ once.0 there
    | inr same ↦ out (subst (Contains (q ∷ ps)) (sym same) (is_first q ps))
  ],
  once_pushed ps p once.1 (λ h. out (is_later q ps p h)),
)

-- of a list that ends with a place, the rest
pub once_before : (ps : List Place) (p : Place) → WaitOnce (ps ++ p ∷ []) → WaitOnce ps
once_before [] p once = once.1
once_before (q ∷ ps) p once = (λ h. once.0 (Contains-append_left ps (p ∷ []) q h), once_before ps p once.1)

pub not_before : (ps : List Place) (p : Place) → WaitOnce (ps ++ p ∷ []) → ¬ Contains ps p
not_before [] p once h = none_in p h
not_before (q ∷ ps) p once h = elim (first_or_later q ps p h) [
  | inl same ↦ once.0 (subst (Contains (ps ++ p ∷ [])) (sym same) (Contains-push ps p))
  | inr later ↦ not_before ps p once.1 later
]

-- ---- entries

-- nothing is drawn yet
pub none_drawn : (l : Limits) (t : Tables) (IsLater : ℕ → ℕ → Type 0) → EntersOnly l t t IsLater
none_drawn l t IsLater = record {
  only = λ k from below room. absurd (omega (arith, from, below));
  once = λ j k from less below room same. absurd (omega (arith, from, less, below));
  entered = [];
  are = tt;
  drawn = omega arith;
}

-- a reference for which a number was drawn isn't scanned later
not_later : (l : Limits) (t0 t : Tables) (IsLater : ℕ → ℕ → Type 0) (from : ℕ) (rs : List (ℕ × ℕ)) (r : ℕ × ℕ) → AreEnteredAt l t0 t IsLater from rs → Contains rs r → ¬ IsLater r.0 r.1
not_later l t0 t IsLater from [] r are h = absurd (none_in r h)
not_later l t0 t IsLater from (q ∷ rs) r are h = elim (first_or_later q rs r h) [
  | inl same ↦ subst (λ z. ¬ IsLater z.0 z.1) same are.0.passed
  | inr later ↦ not_later l t0 t IsLater from rs r are.3 later
]

-- what was drawn stays so where entries, counters of lines and states do, and as much or more is marked
entered_alike : (l : Limits) (t0 t u : Tables) (IsLater IsThen : ℕ → ℕ → Type 0) (from : ℕ) (rs : List (ℕ × ℕ)) → ((k : ℕ) → k < from + length rs → u.remembered k ≡ t.remembered k) → u.reuse ≡ t.reuse → u.states ≡ t.states
    → ((k : ℕ) → IsTrue (t.marks k) → IsTrue (u.marks k)) → ((p i : ℕ) → IsTrue (t.marks (granule_of p)) → IsThen p i → IsLater p i) → AreEnteredAt l t0 t IsLater from rs → AreEnteredAt l t0 u IsThen from rs
entered_alike l t0 t u IsLater IsThen from [] set reuse states marks fewer are = tt
entered_alike l t0 t u IsLater IsThen from (r ∷ rs) set reuse states marks fewer are = (
  record {
    held = are.0.held;
    scanned = record { left = are.0.scanned.left; marked = marks (granule_of r.0) are.0.scanned.marked };
    passed = λ h. are.0.passed (fewer r.0 r.1 are.0.scanned.marked h);
    placed = are.0.placed;
    holds = are.0.holds;
    chosen = ap (λ f. is_in_chosen (record t { states = f }) (record { 0 = are.0.held })) states ∙ are.0.chosen;
  },
  are.1,
  λ room. set (from + length rs) (omega arith) ∙ are.2 room ∙ ap (λ f. word_of_entry l.blocks (f (line_of_field (record { 0 = r.0 }) r.1)) (record { 0 = r.0 }) r.1) (sym reuse),
  entered_alike l t0 t u IsLater IsThen from rs (λ k below. set k (omega (arith, below))) reuse states marks fewer are.3,
)

module _ (l : Limits) (t0 t : Tables) (IsLater : ℕ → ℕ → Type 0) (drawn : EntersOnly l t0 t IsLater) where
  -- where the set stays, and as much or more is marked
  pub drawn_alike : (u : Tables) (IsThen : ℕ → ℕ → Type 0) → u.remembered ≡ t.remembered → u.cursors REMEMBERED_CURSOR ≡ t.cursors REMEMBERED_CURSOR → u.reuse ≡ t.reuse → u.states ≡ t.states
      → ((k : ℕ) → IsTrue (t.marks k) → IsTrue (u.marks k)) → ((p i : ℕ) → IsTrue (t.marks (granule_of p)) → IsThen p i → IsLater p i) → EntersOnly l t0 u IsThen
  drawn_alike u IsThen remembered cursor reuse states marks fewer = record {
    only = λ k from below room. let e = drawn.only k from (subst (λ c. k < c) cursor below) room in record {
      place = e.place;
      index = e.index;
      held = e.held;
      scanned = record { left = e.scanned.left; marked = marks (granule_of e.place) e.scanned.marked };
      passed = λ h. e.passed (fewer e.place e.index e.scanned.marked h);
      placed = e.placed;
      holds = e.holds;
      chosen = ap (λ f. is_in_chosen (record t { states = f }) (record { 0 = e.held })) states ∙ e.chosen;
      entry = ap (λ f. f k) remembered ∙ e.entry ∙ ap (λ f. word_of_entry l.blocks (f (line_of_field (record { 0 = e.place }) e.index)) (record { 0 = e.place }) e.index) (sym reuse);
    };
    once = λ j k from less below room same. drawn.once j k from less (subst (λ c. k < c) cursor below) room (sym (ap (λ f. f j) remembered) ∙ same ∙ ap (λ f. f k) remembered);
    entered = drawn.entered;
    are = entered_alike l t0 t u IsLater IsThen (t0.cursors REMEMBERED_CURSOR) drawn.entered (λ k below. ap (λ f. f k) remembered) reuse states marks fewer drawn.are;
    drawn = cursor ∙ drawn.drawn;
  }

  -- fewer are scanned later
  pub drawn_fewer : (IsThen : ℕ → ℕ → Type 0) → ((p i : ℕ) → IsTrue (t.marks (granule_of p)) → IsThen p i → IsLater p i) → EntersOnly l t0 t IsThen
  drawn_fewer IsThen fewer = drawn_alike t IsThen refl refl refl refl (λ k h. h) fewer

  -- ---- one reference is passed

  module _ (p i held : ℕ) (IsThen : ℕ → ℕ → Type 0) (waits : IsWaiting t0 t p) (placed : 1 ≤ held) (holds : field_at t0 p i ≡ Some held) (was : IsLater p i) (passed : ¬ IsThen p i)
      (fewer : (q j : ℕ) → IsThen q j → IsLater q j) (fits : (q j r : ℕ) → IsLeft t0 q → field_at t0 q j ≡ Some r → IsEntry l.blocks (t.reuse (line_of_field (record { 0 = q }) j)) (record { 0 = q }) j) where
    abbrev place : Place
    place = record { 0 = p }

    abbrev u : Tables
    u = remembering l t place i

    -- its entry is new
    new : IsTrue (is_in_chosen t (record { 0 = held })) → t.cursors REMEMBERED_CURSOR < l.remember → HasEntryAt l t0 u IsThen (t.cursors REMEMBERED_CURSOR)
    new chosen room = record { place = p; index = i; held = held; scanned = record { left = waits.left; marked = waits.marked }; passed = passed; placed = placed; holds = holds; chosen = chosen; entry = new_entry l t place i room }

    old : (k : ℕ) → k < t.cursors REMEMBERED_CURSOR → HasEntryAt l t0 t IsLater k → HasEntryAt l t0 u IsThen k
    old k below e = record {
      place = e.place;
      index = e.index;
      held = e.held;
      scanned = record { left = e.scanned.left; marked = e.scanned.marked };
      passed = λ h. e.passed (fewer e.place e.index h);
      placed = e.placed;
      holds = e.holds;
      chosen = e.chosen;
      entry = old_entry l t place i k below ∙ e.entry;
    }

    -- and is none of those before
    differs : (j : ℕ) → j < t.cursors REMEMBERED_CURSOR → HasEntryAt l t0 t IsLater j → t.cursors REMEMBERED_CURSOR < l.remember → u.remembered j ≢ u.remembered (t.cursors REMEMBERED_CURSOR)
    differs j below e room same =
        let fits_e = fits e.place e.index e.held e.scanned.left e.holds in
        let fits_p = fits p i held waits.left holds in
        let words = sym e.entry ∙ sym (old_entry l t place i j below) ∙ same ∙ new_entry l t place i room in
        let is = one_entry l.blocks _ _ (record { 0 = e.place }) place e.index i fits_e fits_p words in
        e.passed (subst (λ x. IsLater x e.index) (sym is.place) (subst (IsLater p) (sym is.index) was))

    entered : IsTrue (is_in_chosen t (record { 0 = held })) → EntersOnly l t0 u IsThen
    entered chosen = record {
      only = λ k from below room. elim (leb_tells (suc k) (t.cursors REMEMBERED_CURSOR)) [
        | inl before ↦ let less : k < t.cursors REMEMBERED_CURSOR = before.1 in old k less (drawn.only k from less room)
        | inr after ↦
            let here : k ≡ t.cursors REMEMBERED_CURSOR = let past = after.1 in omega (arith, past, below) in
            subst (HasEntryAt l t0 u IsThen) (sym here) (new chosen (subst (λ x. x < l.remember) here room))
      ];
      once = λ j k from less below room same. elim (leb_tells (suc k) (t.cursors REMEMBERED_CURSOR)) [
        | inl before ↦
            let in_k : k < t.cursors REMEMBERED_CURSOR = before.1 in
            drawn.once j k from less in_k room (sym (old_entry l t place i j (omega (arith, less, in_k))) ∙ same ∙ old_entry l t place i k in_k)
        | inr after ↦
            let here : k ≡ t.cursors REMEMBERED_CURSOR = let past = after.1 in omega (arith, past, below) in
            let in_j : j < t.cursors REMEMBERED_CURSOR = omega (arith, less, here) in
            let in_room : t.cursors REMEMBERED_CURSOR < l.remember = subst (λ x. x < l.remember) here room in
            differs j in_j (drawn.only j from in_j (omega (arith, less, room))) in_room (same ∙ ap u.remembered here)
      ];
      entered = (p, i) ∷ drawn.entered;
      are = (
        record { held = held; scanned = record { left = waits.left; marked = waits.marked }; passed = passed; placed = placed; holds = holds; chosen = chosen },
        λ h. not_later l t0 t IsLater (t0.cursors REMEMBERED_CURSOR) drawn.entered (p, i) drawn.are h was,
        λ room.
            let here : t0.cursors REMEMBERED_CURSOR + length drawn.entered ≡ t.cursors REMEMBERED_CURSOR = sym drawn.drawn in
            ap u.remembered here ∙ new_entry l t place i (subst (λ x. x < l.remember) here room),
        entered_alike l t0 t u IsLater IsThen (t0.cursors REMEMBERED_CURSOR) drawn.entered
            (λ k below. old_entry l t place i k (let here = drawn.drawn in omega (arith, below, here))) refl refl (λ k h. h) (λ q j marked h. fewer q j h) drawn.are,
      );
      drawn = let more = changed_here t.cursors REMEMBERED_CURSOR (t.cursors REMEMBERED_CURSOR + 1) REMEMBERED_CURSOR refl in let here = drawn.drawn in omega (arith, more, here);
    }

    pub drawn_passed : EntersOnly l t0 (remembering_chosen l t place i (record { 0 = held })) IsThen
    drawn_passed = elim (tested (is_in_chosen t (record { 0 = held }))) [
      | inl is ↦ subst (λ z. EntersOnly l t0 z IsThen) (sym (where_chosen l t place i (record { 0 = held }) is)) (entered is)
      | inr is ↦ subst (λ z. EntersOnly l t0 z IsThen) (sym (where_not l t place i (record { 0 = held }) is)) (drawn_fewer IsThen (λ q j marked h. fewer q j h))
    ]
