-- What steps of a pause keep of lists where they remember references: all but the remembered set.
use Rattle.std.proofs.Common.{◌≡◌, ◌≢◌, ℕ, ◌+◌, ◌*◌, ◌/◌, ◌^◌, ◌<◌, ◌≤◌, refl, sym, ap, subst, ◌∙◌, inl, inr, ◌⊎◌, arith, List}
use Rattle.std.specs.Prelude.{Option, Some, None}
use Rattle.std.proofs.lemmas.Bool.Decides.{eqb_tells}
use Rattle.lxr_layout.specs.declared.limits.Limits.{Limits}
use Rattle.lxr_layout.specs.declared.Name.{Name}
use Rattle.lxr_layout.specs.declared.LogEntry.{LogEntry}
use Rattle.lxr_layout.specs.declared.TheConstants.{DECREMENT_COUNT, DECREMENT_CURSOR, MOST_WORDS, REMEMBERED_CURSOR, WORDS_IN_LINE}
use Rattle.lxr_layout.specs.Runs.{word_of_entry}
use Rattle.lxr_layout.specs.Spaces.{AreLimits}
use Rattle.lxr_image.specs.Tables.{Tables, changed}
use Rattle.lxr_model.specs.Moments.{Trace, rememberable}
use Rattle.lxr_invariant.specs.AbstractState.{AbstractState}
use Rattle.lxr_invariant.specs.Keeping.{KeepsLists, KeepsListsAndCounters}
use Rattle.lxr_invariant.specs.Standing.{place_of, word_of_field}
use Rattle.lxr_invariant.specs.Tracing.{HasOverflowed, IsEntryWord, IsRemembered, IsTracedBy, most_remembered}
use Rattle.lxr_invariant.proofs.EntryLemmas.{changed_here, changed_other}
use Rattle.lxr_invariant.proofs.MostLemmas.{most_any_heap, parts_larger}
use Rattle.lxr_remset.specs.Remembering.{AreEntries, CanRemember, with_remembered_of}
use Rattle.lxr_one_pause.specs.Pausing.{SameRemembered}

-- ---- one entry of a table

-- an entry that is put in twice is the last one
pub changed_twice : (f : ℕ → ℕ) (k v w : ℕ) → changed (changed f k v) k w ≡ changed f k w
changed_twice f k v w i j = each j i
  where
    each : (j : ℕ) → changed (changed f k v) k w j ≡ changed f k w j
    each j = elim (eqb_tells j k) [
      | inl e ↦ changed_here (changed f k v) k w j e.1 ∙ sym (changed_here f k w j e.1)
      | inr e ↦ changed_other (changed f k v) k w j e.1 ∙ changed_other f k v j e.1 ∙ sym (changed_other f k w j e.1)
    ]

-- a table stays where its own entry is put in
pub changed_same : (f : ℕ → ℕ) (k v : ℕ) → v ≡ f k → changed f k v ≡ f
changed_same f k v same i j = each j i
  where
    each : (j : ℕ) → changed f k v j ≡ f j
    each j = elim (eqb_tells j k) [
      | inl e ↦ changed_here f k v j e.1 ∙ same ∙ ap f (sym e.1)
      | inr e ↦ changed_other f k v j e.1
    ]

-- a number below another's entry at one place, and the same elsewhere
cursor_through : (f g h w : ℕ → ℕ) (r k : ℕ) → (k ≢ r → g k ≡ f k) → h k ≡ changed g r (h r) k → w k ≡ h k → w k ≡ changed f r (w r) k
cursor_through f g h w r k first middle last = elim (eqb_tells k r) [
  | inl e ↦ ap w e.1 ∙ sym (changed_here f r (w r) k e.1)
  | inr e ↦ last ∙ middle ∙ changed_other g r (h r) k e.1 ∙ first e.1 ∙ sym (changed_other f r (w r) k e.1)
]

-- ---- tables with the remembered set of others

-- those whose set is the same are as they were
pub with_same : (t u : Tables) → u.remembered ≡ t.remembered → u.cursors REMEMBERED_CURSOR ≡ t.cursors REMEMBERED_CURSOR → with_remembered_of t u ≡ t
with_same t u entries cursor i = record t { remembered = entries i; cursors = changed_same t.cursors REMEMBERED_CURSOR (u.cursors REMEMBERED_CURSOR) cursor i }

-- lists are kept but for the remembered set, where all but the step between keeps that too
pub keeps_remembered : (t u v w : Tables) → KeepsListsAndCounters t u → KeepsLists (with_remembered_of u v) v → KeepsListsAndCounters v w → KeepsLists (with_remembered_of t w) w
keeps_remembered t u v w first middle last = record {
  heap = refl;
  reuse = refl;
  runs = last.runs ∙ middle.runs ∙ first.runs;
  frees = last.frees ∙ middle.frees ∙ first.frees;
  remembered = refl;
  cursors = λ k a b. cursor_through t.cursors u.cursors v.cursors w.cursors REMEMBERED_CURSOR k (λ other. first.cursors k a b) (middle.cursors k a b) (last.cursors k a b);
}

pub other_cursors : (t u : Tables) (k : ℕ) → KeepsLists (with_remembered_of t u) u → k ≢ DECREMENT_CURSOR → k ≢ DECREMENT_COUNT → k ≢ REMEMBERED_CURSOR → u.cursors k ≡ t.cursors k
other_cursors t u k keeps a b other = keeps.cursors k a b ∙ changed_other t.cursors REMEMBERED_CURSOR (u.cursors REMEMBERED_CURSOR) k other

-- ---- the same remembered set

pub same_kept : (t u : Tables) → KeepsListsAndCounters t u → SameRemembered t u
same_kept t u keeps = record { entries = keeps.remembered; cursor = keeps.cursors REMEMBERED_CURSOR (λ e. cc) (λ e. cc) }

pub same_both : (t u v : Tables) → SameRemembered t u → SameRemembered u v → SameRemembered t v
same_both t u v first second = record { entries = second.entries ∙ first.entries; cursor = second.cursor ∙ first.cursor }

pub same_told : (t u : Tables) → (u.remembered ≡ t.remembered) × (u.cursors REMEMBERED_CURSOR ≡ t.cursors REMEMBERED_CURSOR) → SameRemembered t u
same_told t u (entries, cursor) = record { entries = entries; cursor = cursor }

-- ---- what may be remembered

-- while a trace goes on, what it has remembered is bounded by the number of pauses
pub can_remember : (l : Limits) (t : Tables) (entries : List LogEntry) (g : AbstractState) (trace : Option Trace) → AreLimits l → g.moment.number + 1 ≤ 2 ^ 32 → IsTracedBy l t entries g trace
    → CanRemember trace t
can_remember l t entries g None limits few is = tt
can_remember l t entries g (Some trace) limits few is =
    let bound = is.remembered.bound in
    let most = parts_larger (most_remembered l) (2 * MOST_WORDS) (rememberable trace is.snapshot) g.moment.number is.few (most_any_heap l limits) in
    omega (arith, bound, most, few)

-- ---- a remembered set that stays

-- what may be remembered while a trace runs may be so where the cursor is the same
pub remember_still : (t u : Tables) (trace : Option Trace) → u.cursors REMEMBERED_CURSOR ≡ t.cursors REMEMBERED_CURSOR → CanRemember trace t → CanRemember trace u
remember_still t u None same can = tt
remember_still t u (Some trace) same can = subst (λ n. n < 2 ^ 62) (sym same) can

module _ (l : Limits) (t u : Tables) (same : SameRemembered t u) where
  pub overflowed_still : HasOverflowed l t → HasOverflowed l u
  overflowed_still over = subst (λ n. l.remember < n) (sym same.cursor) over

  pub entries_still : AreEntries l t → AreEntries l u
  entries_still are k drawn within =
      let e = are k (subst (λ n. k < n) same.cursor drawn) within in
      (e.0, e.1, e.2, subst (λ w. IsEntryWord l w e.0 e.1 e.2) (sym (ap (λ f. f k) same.entries)) e.3)

  pub remembered_still : (at : Name → ℕ) (n : Name) (i : ℕ) → u.reuse ≡ t.reuse → IsRemembered l t at n i ⊎ HasOverflowed l t → IsRemembered l u at n i ⊎ HasOverflowed l u
  remembered_still at n i reuse (inl is) = inl (
    is.0,
    subst (λ z. is.0 < z) (sym same.cursor) is.1,
    is.2,
    ap (λ f. f is.0) same.entries ∙ is.3 ∙ ap (λ f. word_of_entry l.blocks (f (word_of_field at n i / WORDS_IN_LINE)) (place_of at n) i) (sym reuse),
  )
  remembered_still at n i reuse (inr over) = inr (overflowed_still over)
