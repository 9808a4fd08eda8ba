-- The number that is drawn has no entry yet, so writing one there leaves all that were written before.
use Rattle.std.proofs.Common.{◌≡◌, ℕ, suc, ◌*◌, ◌/◌, ◌<◌, refl, sym, ap, subst, ◌∙◌, inl, inr, arith, Bool, true, false, lt-ltb}
use Rattle.std.specs.Prelude.{nat_eq, nat_lt, if◌then◌else◌}
use Rattle.std.proofs.lemmas.Bool.Decides.{leb_tells, nat_tests}
use Rattle.lxr_layout.specs.declared.TheConstants.{LINES_IN_BLOCK, REMEMBERED_CURSOR, WORDS_IN_BLOCK, WORDS_IN_LINE}
use Rattle.lxr_layout.specs.declared.limits.Limits.{Limits}
use Rattle.lxr_layout.specs.declared.Place.{Place}
use Rattle.lxr_layout.specs.Places.{field_word}
use Rattle.lxr_layout.specs.Spaces.{AreLimits}
use Rattle.lxr_image.specs.Tables.{Tables, changed}
use Rattle.lxr_image.specs.Spaces.{AreWithin}
use Rattle.lxr_invariant.specs.Standing.{place_of}
use Rattle.lxr_invariant.specs.Tracing.{IsEntryWord}
use Rattle.lxr_remset.specs.Remembering.{AreEntries, IsField, RememberingKeepsSet, entry_now, line_of_field, remembering}

-- ---- words

-- a word of the heap is one of its lines
pub line_in_heap : (limits : Limits) (p : Place) (i word : ℕ) → field_word p.0 i < WORDS_IN_BLOCK * limits.blocks → word ≡ field_word p.0 i → word / WORDS_IN_LINE < LINES_IN_BLOCK * limits.blocks
line_in_heap limits p i word within is = omega arith

-- ---- one entry is written

here : (f : ℕ → ℕ) (k v : ℕ) → changed f k v k ≡ v
here f k v = ap (λ x. if x then v else f k) (let e : nat_eq k k ≡ true = grind (arith, nat_tests) in e)

before : (f : ℕ → ℕ) (k v i : ℕ) → i < k → changed f k v i ≡ f i
before f k v i below = ap (λ x. if x then v else f i) (let e : nat_eq i k ≡ false = grind (arith, nat_tests) in e)

-- the entries, where a test says whether the set has room
abbrev entries_by : ℕ → Tables → Place → ℕ → Bool → ℕ → ℕ
entries_by blocks t p i has = if has then (changed t.remembered (t.cursors REMEMBERED_CURSOR) (entry_now blocks t p i)) else t.remembered

before_by : (blocks : ℕ) (t : Tables) (p : Place) (i k : ℕ) (has : Bool) → k < t.cursors REMEMBERED_CURSOR → entries_by blocks t p i has k ≡ t.remembered k
before_by blocks t p i k true below = before t.remembered (t.cursors REMEMBERED_CURSOR) (entry_now blocks t p i) k below
before_by blocks t p i k false below = refl

there_by : (blocks : ℕ) (t : Tables) (p : Place) (i : ℕ) (has : Bool) → has ≡ true → entries_by blocks t p i has (t.cursors REMEMBERED_CURSOR) ≡ entry_now blocks t p i
there_by blocks t p i true is = here t.remembered (t.cursors REMEMBERED_CURSOR) (entry_now blocks t p i)
there_by blocks t p i false is = absurd (let e : false ≡ true = is in cc)

module _ (l : Limits) (t : Tables) (p : Place) (i : ℕ) where
  -- an entry that was written stays
  pub old_entry : (k : ℕ) → k < t.cursors REMEMBERED_CURSOR → (remembering l t p i).remembered k ≡ t.remembered k
  old_entry k below = before_by l.blocks t p i k (nat_lt (t.cursors REMEMBERED_CURSOR) l.remember) below

  -- where the set has room, the entry is there
  pub new_entry : t.cursors REMEMBERED_CURSOR < l.remember → (remembering l t p i).remembered (t.cursors REMEMBERED_CURSOR) ≡ entry_now l.blocks t p i
  new_entry room = there_by l.blocks t p i (nat_lt (t.cursors REMEMBERED_CURSOR) l.remember) (lt-ltb (t.cursors REMEMBERED_CURSOR) l.remember room)

  entry_there : AreLimits l → AreWithin t → IsField l p i → t.cursors REMEMBERED_CURSOR < l.remember
      → (c : ℕ) × (q : Place) × (j : ℕ) × IsEntryWord l ((remembering l t p i).remembered (t.cursors REMEMBERED_CURSOR)) c q j
  entry_there limits within field room = (
    t.reuse (line_of_field p i),
    p,
    i,
    record {
      is = new_entry room;
      entry = record { heap = limits.blocks.1; counter = within.reuse (line_of_field p i); place = (field.placed, let h = field.in_heap in omega (arith, h)); index = field.index };
      in_heap = field.in_heap;
    },
  )

  entries_then : AreLimits l → AreWithin t → IsField l p i → AreEntries l t → AreEntries l (remembering l t p i)
  entries_then limits within field are k below room = elim (leb_tells (suc k) (t.cursors REMEMBERED_CURSOR)) [
    | inl old ↦ let below : k < t.cursors REMEMBERED_CURSOR = omega arith in let e = are k below room in (e.0, e.1, e.2, record { is = old_entry k below ∙ e.3.is; entry = e.3.entry; in_heap = e.3.in_heap })
    | inr new ↦ let same : k ≡ t.cursors REMEMBERED_CURSOR = omega arith in
        subst (λ (j : ℕ). (c : ℕ) × (q : Place) × (x : ℕ) × IsEntryWord l ((remembering l t p i).remembered j) c q x) (sym same)
        (entry_there limits within field (subst (λ (j : ℕ). j < l.remember) same room))
  ]

pub remembering_keeps_set : RememberingKeepsSet
remembering_keeps_set l t at n i limits within field = record {
  field = elim (leb_tells (suc (t.cursors REMEMBERED_CURSOR)) l.remember) [
    | inl has ↦ let room : t.cursors REMEMBERED_CURSOR < l.remember = omega arith in inl (t.cursors REMEMBERED_CURSOR, omega arith, room, new_entry l t (place_of at n) i room)
    | inr full ↦ inr (omega arith)
  ];
  others = λ m j is. (is.0, let h = is.1 in omega arith, is.2, old_entry l t (place_of at n) i is.0 is.1 ∙ is.3);
  full = λ is. omega arith;
  entries = entries_then l t (place_of at n) i limits within field;
}
