-- A reference is entered into the remembered set where what it holds stands in a Chosen block: what was entered stays.
use Rattle.std.proofs.Common.{◌≡◌, ◌≢◌, ℕ, ◌+◌, ◌*◌, ◌/◌, ◌<◌, ◌≤◌, refl, sym, ap, subst, ◌∙◌, inl, inr, ◌⊎◌, arith, cond, nat_eq, IsTrue}
use Rattle.lxr_layout.specs.declared.TheConstants.{GRANULES_IN_BLOCK, REMEMBERED_CURSOR}
use Rattle.lxr_layout.specs.declared.limits.Limits.{Limits}
use Rattle.lxr_layout.specs.declared.Name.{Name}
use Rattle.lxr_layout.specs.declared.Place.{Place}
use Rattle.lxr_layout.specs.Runs.{word_of_entry}
use Rattle.lxr_layout.specs.Spaces.{AreLimits}
use Rattle.lxr_graph.specs.State.{world_name}
use Rattle.lxr_image.specs.declared.space.Space.{Space}
use Rattle.lxr_image.specs.Spaces.{AreWithin, tables_of}
use Rattle.lxr_image.specs.Tables.{Tables, changed}
use Rattle.lxr_image.specs.Reads.{granule_of}
use Rattle.lxr_image.proofs.TableLaws.{count_fits, reuse_fits}
use Rattle.lxr_blocks.specs.States.{state_in}
use Rattle.lxr_model_counting.proofs.DistinctLemmas.{tested}
use Rattle.lxr_invariant.specs.Lines.{NoneChosen}
use Rattle.lxr_invariant.specs.Tracing.{HasOverflowed}
use Rattle.lxr_invariant.proofs.BlockLemmas.{none_counted}
use Rattle.lxr_invariant.proofs.EntryLemmas.{changed_cases, changed_here}
use Rattle.lxr_invariant.proofs.FrameLemmas.{chosen_still}
use Rattle.lxr_remset.specs.Remembering.{IsField, KeepsSet, is_in_chosen, line_of_field, remembering, remembering_chosen, with_remembered_of}
use Rattle.lxr_remset.proofs.ChosenLemmas.{chosen_told, where_chosen, where_not}
use Rattle.lxr_remset.proofs.SetLemmas.{remembering_keeps_set}
use Rattle.lxr_pause_trace.specs.Marking.{IsEntered, KeepsEntries}

pub are_within : (s : Space) → AreWithin (tables_of s)
are_within s = record { counts = count_fits s.limits s.words; reuse = reuse_fits s.limits s.words }

-- ---- what was entered stays

pub kept_still : (l : Limits) (t : Tables) → KeepsEntries l t t
kept_still l t = record { entered = λ p i is. is; full = λ is. is; entries = λ are. are; idle = λ none. (refl, refl) }

-- where the set and the counters of lines stay
pub kept_alike : (l : Limits) (t u : Tables) → u.remembered ≡ t.remembered → u.cursors REMEMBERED_CURSOR ≡ t.cursors REMEMBERED_CURSOR → u.reuse ≡ t.reuse → KeepsEntries l t u
kept_alike l t u remembered drawn reuse = record {
  entered = λ p i e. (
    e.0,
    subst (λ c. e.0 < c) (sym drawn) e.1,
    e.2,
    ap (λ f. f e.0) remembered ∙ e.3 ∙ ap (λ f. word_of_entry l.blocks (f (line_of_field (record { 0 = p }) i)) (record { 0 = p }) i) (sym reuse),
  );
  full = subst (λ c. l.remember < c) (sym drawn);
  entries = λ are k below room. let e = are k (subst (λ c. k < c) drawn below) room in (e.0, e.1, e.2, record { is = ap (λ f. f k) remembered ∙ e.3.is; entry = e.3.entry; in_heap = e.3.in_heap });
  idle = λ none. (remembered, drawn);
}

-- one step after another
pub kept_then : (l : Limits) (t u v : Tables) → u.states ≡ t.states → KeepsEntries l t u → KeepsEntries l u v → KeepsEntries l t v
kept_then l t u v states first second = record {
  entered = λ p i is. second.entered p i (first.entered p i is);
  full = λ is. second.full (first.full is);
  entries = λ are. second.entries (first.entries are);
  idle = λ none.
      let a = first.idle none in
      let b = second.idle (chosen_still t u l.blocks states ∙ none) in
      (b.0 ∙ a.0, b.1 ∙ a.1);
}

-- ---- which tables change

-- tables with other marks, grays and remembered references
abbrev pub with_found_of : Tables → Tables → Tables
with_found_of t u = record (with_remembered_of t u) { marks = u.marks; grays = u.grays }

changed_twice : (f : ℕ → ℕ) (k a b j : ℕ) → changed (changed f k a) k b j ≡ changed f k b j
changed_twice f k a b j = elim (changed_cases f k b j) [
  | inl q ↦ changed_here (changed f k a) k b j q.0 ∙ sym q.1
  | inr q ↦ elim (changed_cases (changed f k a) k b j) [
    | inl p ↦ absurd (q.0 p.0)
    | inr p ↦ p.1 ∙ other q.0 ∙ sym q.1
  ]
]
  where
    other : j ≢ k → changed f k a j ≡ f j
    other differ = elim (changed_cases f k a j) [ inl r ↦ absurd (differ r.0) | inr r ↦ r.1 ]

changed_to_own : (f : ℕ → ℕ) (k j : ℕ) → changed f k (f k) j ≡ f j
changed_to_own f k j = elim (changed_cases f k (f k) j) [ inl q ↦ q.1 ∙ ap f (sym q.0) | inr q ↦ q.1 ]

pub found_then : (t u v : Tables) → u ≡ with_found_of t u → v ≡ with_found_of u v → v ≡ with_found_of t v
found_then t u v first second =
    second ∙ ap {A = Tables} (λ z. with_found_of z v) first
    ∙ (λ i. record t { remembered = v.remembered; cursors = λ j. changed_twice t.cursors REMEMBERED_CURSOR (u.cursors REMEMBERED_CURSOR) (v.cursors REMEMBERED_CURSOR) j i; marks = v.marks; grays = v.grays })

pub found_none : (t : Tables) → t ≡ with_found_of t t
found_none t = λ i. record t { cursors = λ j. sym (changed_to_own t.cursors REMEMBERED_CURSOR j) i }

-- where the set stays
pub found_alike : (t u : Tables) → u ≡ record t { marks = u.marks; grays = u.grays } → u ≡ with_found_of t u
found_alike t u same =
    let cursor : u.cursors REMEMBERED_CURSOR ≡ t.cursors REMEMBERED_CURSOR = ap (λ z. z.cursors REMEMBERED_CURSOR) same in
    let remembered : u.remembered ≡ t.remembered = ap (λ z. z.remembered) same in
    same ∙ (λ i. record t {
      remembered = sym remembered i;
      cursors = λ j. (sym (changed_to_own t.cursors REMEMBERED_CURSOR j) ∙ ap (λ c. changed t.cursors REMEMBERED_CURSOR c j) (sym cursor)) i;
      marks = u.marks;
      grays = u.grays;
    })

-- ---- one reference

module _ (l : Limits) (t : Tables) (p i held : ℕ) where
  abbrev pub place : Place
  place = record { 0 = p }

  abbrev pub referent : Place
  referent = record { 0 = held }

  abbrev pub then : Tables
  then = remembering_chosen l t place i referent

  -- what both answers have
  by_test : (P : Tables → Type 0) → P (remembering l t place i) → P t → P then
  by_test P entered left = elim (tested (is_in_chosen t referent)) [
    | inl is ↦ subst P (sym (where_chosen l t place i referent is)) entered
    | inr is ↦ subst P (sym (where_not l t place i referent is)) left
  ]

  pub marks_stay : then.marks ≡ t.marks
  marks_stay = by_test (λ u. u.marks ≡ t.marks) refl refl

  pub grays_stay : then.grays ≡ t.grays
  grays_stay = by_test (λ u. u.grays ≡ t.grays) refl refl

  pub states_stay : then.states ≡ t.states
  states_stay = by_test (λ u. u.states ≡ t.states) refl refl

  pub set_changes : then ≡ with_found_of t then
  set_changes = by_test (λ u. u ≡ with_found_of t u) refl (found_none t)

  pub one_drawn : then.cursors REMEMBERED_CURSOR ≤ t.cursors REMEMBERED_CURSOR + 1
  one_drawn = by_test (λ u. u.cursors REMEMBERED_CURSOR ≤ t.cursors REMEMBERED_CURSOR + 1) (omega arith) (omega arith)

  module _ (limits : AreLimits l) (within : AreWithin t) (field : IsField l place i) (inside : granule_of held < GRANULES_IN_BLOCK * l.blocks) where
    -- two names, one of which stands at the place, and the other anywhere
    abbrev two : ℕ → Name → ℕ
    two q n = cond (nat_eq n.serial 0) p q

    keeps : (q : ℕ) → KeepsSet l t (remembering l t place i) (two q) world_name i
    keeps q = remembering_keeps_set l t (two q) world_name i limits within field

    -- the block of what is held is one of the heap
    pub some_chosen : IsTrue (is_in_chosen t referent) → NoneChosen t l.blocks → ⊥
    some_chosen is none = none_counted t l.blocks (granule_of held / GRANULES_IN_BLOCK) none (omega (arith, inside)) (chosen_told (state_in t (granule_of held / GRANULES_IN_BLOCK)) is)

    entering : IsTrue (is_in_chosen t referent) → KeepsEntries l t (remembering l t place i)
    entering is = record {
      entered = λ q j e. (keeps q).others (record { thread = 0; serial = 1 }) j e;
      full = (keeps p).full;
      entries = (keeps p).entries;
      idle = λ none. absurd (some_chosen is none);
    }

    pub entries_kept : KeepsEntries l t then
    entries_kept = elim (tested (is_in_chosen t referent)) [
      | inl is ↦ subst (KeepsEntries l t) (sym (where_chosen l t place i referent is)) (entering is)
      | inr is ↦ subst (KeepsEntries l t) (sym (where_not l t place i referent is)) (kept_still l t)
    ]

    pub is_entered : IsTrue (is_in_chosen t referent) → IsEntered l then p i ⊎ HasOverflowed l then
    is_entered is = subst (λ u. IsEntered l u p i ⊎ HasOverflowed l u) (sym (where_chosen l t place i referent is)) (keeps p).field
