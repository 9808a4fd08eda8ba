-- What the middle of a pause says of old values: entries lie in the heap, and what is queued of them and of registers is what
-- is to be lowered, at places of unreclaimed objects; the fields that are unlogged again were the written ones.
use Rattle.std.proofs.Common.{◌≡◌, ◌≢◌, ℕ, ◌+◌, ◌*◌, ◌-◌, ◌/◌, ◌<◌, ◌≤◌, refl, sym, ap, subst, ◌∙◌, inl, inr, arith, Bool, true, false, List, [], ◌∷◌, IsTrue, length, nat_eq, map}
use Rattle.std.specs.Prelude.{◌||◌, ◌↔◌, Option, None, Some}
use Rattle.std.specs.List.{All, AllByRecursion, list_any}
use Rattle.std.proofs.lemmas.Bool.{or_cases, or_left, or_right}
use Rattle.std.proofs.lemmas.List.Elements.{All-from_recursion, recursion_from_All}
use Rattle.std.proofs.lemmas.List.Sorted.{All-permutation, list_any-IsPermutation}
use Rattle.lxr_layout.specs.declared.TheConstants.{DECREMENT_COUNT, DECREMENT_CURSOR, GRANULES_IN_BLOCK, TRACING_WORD, WORDS_IN_BLOCK}
use Rattle.lxr_layout.specs.declared.Name.{Name}
use Rattle.lxr_layout.specs.declared.LogEntry.{LogEntry}
use Rattle.lxr_layout.specs.Objects.{word_count}
use Rattle.lxr_graph.specs.Names.{has}
use Rattle.lxr_graph.specs.State.{object_at, refs_of, shape_of}
use Rattle.lxr_graph.proofs.NameSets.{union_right}
use Rattle.lxr_image.specs.declared.space.Space.{Space}
use Rattle.lxr_image.specs.Registers.{HoldFew, holding}
use Rattle.lxr_image.specs.Tables.{Tables}
use Rattle.lxr_image.specs.Spaces.{tables_of}
use Rattle.lxr_image.specs.Image.{place_word}
use Rattle.lxr_image.proofs.ImageLemmas.{words_cover, words_even}
use Rattle.lxr_model.specs.Reachable.{held}
use Rattle.lxr_model.specs.Moments.{Field, Moment}
use Rattle.lxr_model_counting.specs.Balance.{lowered}
use Rattle.lxr_model_counting.specs.Distinct.{has_field}
use Rattle.lxr_model_counting.proofs.BalanceLemmas.{same_sizes}
use Rattle.lxr_model_counting.proofs.DistinctLemmas.{field_split, first_field, later_field, tested}
use Rattle.lxr_invariant.specs.Standing.{IsUnwritten, entry_of, word_of_field}
use Rattle.lxr_invariant.specs.Counting.{entries_between}
use Rattle.lxr_invariant.specs.Raised.{IsRaised, settled, with_promoted}
use Rattle.lxr_invariant.proofs.EntryLemmas.{equal_numbers, same_number}
use Rattle.lxr_pause_queue.specs.Appending.{IsInHeap, logged_word, with_entries, with_registers}
use Rattle.lxr_pause_queue.proofs.SettledLemmas.{settled_follows}
use Rattle.lxr_pause_queue.proofs.QueuedLemmas.{entries_cursors, entries_each, entries_few, entries_unlogged, entries_wait, registers_cursors, registers_each, registers_few, registers_unlogged, registers_wait}
use Rattle.lxr_pause_queue.proofs.PlaceLemmas.{IsOf, any_mapped, each_field, each_held, each_mapped, each_place, entries_count, index_held, old_value, registers_count}

-- a number is the place of one of these names
abbrev pub IsPlaceOf : (Name → ℕ) → List Name → ℕ → Type 0
IsPlaceOf at us p = (n : Name) × IsTrue (has us n) × (p ≡ at n)

place_held : (at : Name → ℕ) (us : List Name) (r : Option Name) → IsOf us r → place_word at r ≢ 0 → IsPlaceOf at us (place_word at r)
place_held at us None of ne = absurd (ne refl)
place_held at us (Some x) of ne = (x, of x refl, refl)

-- ---- lists of fields

any_field : (p : Field → Bool) (ws : List Field) → IsTrue (list_any p ws) → (w : Field) × IsTrue (has_field ws w) × IsTrue (p w)
any_field p [] h = absurd (let no : false ≡ true = h in cc)
any_field p (w ∷ ws) h = elim (or_cases (p w) (list_any p ws) h) [
  | inl here ↦ (w, first_field w ws, here)
  | inr rest ↦ let v = any_field p ws rest in (v.0, later_field w ws v.0 v.1, v.2)
]

field_any : (p : Field → Bool) (ws : List Field) (v : Field) → IsTrue (has_field ws v) → IsTrue (p v) → IsTrue (list_any p ws)
field_any p [] v h is = absurd (let no : false ≡ true = h in cc)
field_any p (w ∷ ws) v h is = elim (field_split w ws v h) [
  | inl e ↦ or_left (p w) (list_any p ws) (subst (λ x. IsTrue (p x)) e is)
  | inr rest ↦ or_right (p w) (list_any p ws) (field_any p ws v rest is)
]

-- ---- numbers

in_words : (p i words blocks refs : ℕ) → i < refs → 1 + refs ≤ words → words ≡ 2 * (words / 2) → p - 1 + words / 2 ≤ GRANULES_IN_BLOCK * blocks → 1 ≤ p → 2 * (p - 1) + 1 + i < WORDS_IN_BLOCK * blocks
in_words p i words blocks refs below cover even in_heap placed = omega arith

-- ---- what is queued

-- so the list of decrements, the cursors and the unlogged bits are when all is queued
pub record AreQueued (s : Space) (m : Moment) (at : Name → ℕ) (promoted stuck : List Name) (t : Tables) : Type 0 where
  pub drawn : t.cursors DECREMENT_CURSOR ≡ 0
  pub tracing : t.cursors TRACING_WORD ≡ (tables_of s).cursors TRACING_WORD
  pub fits : t.cursors DECREMENT_COUNT ≤ s.limits.threads * (s.limits.log + s.limits.registers)
  pub places : (k : ℕ) → k < t.cursors DECREMENT_COUNT → IsPlaceOf at (with_promoted m promoted) (t.decs k)
  pub waits : (o : Name) → IsTrue (has (with_promoted m promoted) o) → entries_between t.decs 0 (t.cursors DECREMENT_COUNT) (at o) ≡ lowered m o
  pub unlogged : (w : ℕ) → IsTrue (t.unlogged w) ↔ IsUnwritten (settled m promoted stuck) at (with_promoted m promoted) w

-- all is queued
abbrev pub all_queued : Space → Tables
all_queued s = with_registers (with_entries (tables_of s) s.logged.items) s.deferred.items s.registers.items

module _ (s : Space) (m : Moment) (at : Name → ℕ) (promoted stuck : List Name) (is : IsRaised s m at promoted stuck) where
  abbrev us : List Name
  us = with_promoted m promoted

  abbrev t : Tables
  t = tables_of s

  abbrev logged_all : Tables
  logged_all = with_entries t s.logged.items

  old_member : (n : Name) → IsTrue (has m.unreclaimed n) → IsTrue (has us n)
  old_member n h = union_right promoted m.unreclaimed n h

  -- what fields and registers held, and what registers hold
  old_values : (w : Field) → IsTrue (has_field m.written w) → IsOf us (old_value m w)
  old_values w h x e = old_member x (is.follows.closed w.0 x (is.follows.written w.0 w.1 h).0 (w.1, index_held (refs_of (object_at m.last.graph w.0)) w.1 x e))

  old_registers : AllByRecursion (IsOf us) m.last.registers
  old_registers = each_held us m.last.registers (λ p n e. old_member n (is.follows.kept n (held (p, e))))

  new_registers : AllByRecursion (IsOf us) m.state.registers
  new_registers = each_held us m.state.registers (λ p n e. (settled_follows m promoted stuck is.follows is.raised).kept n (held (p, e)))

  -- what holds of the entry of each written field holds of each entry
  each_entry : (P : LogEntry → Type 0) → ((w : Field) → IsTrue (has_field m.written w) → P (entry_of m at w)) → All P s.logged.items
  each_entry P h =
      All-permutation P (map (entry_of m at) m.written) s.logged.items is.logs
      (All-from_recursion P (map (entry_of m at) m.written) (each_mapped (entry_of m at) P m.written (each_field (λ w. P (entry_of m at w)) m.written h)))

  field_in_heap : (w : Field) → IsTrue (has_field m.written w) → IsInHeap s.limits.blocks (entry_of m at w)
  field_in_heap w h =
      let wrote = is.follows.written w.0 w.1 h in
      let stands = is.image.stands w.0 (old_member w.0 wrote.0) in
      let refs : length (refs_of (object_at m.state.graph w.0)) ≡ length stands.0.refs = ap (λ o. length (refs_of o)) stands.1 in
      let size = same_sizes m is.follows w.0 wrote.0 in
      let below = wrote.2 in
      let placed = stands.2.placed in
      let in_heap = stands.2.whole.in_heap in
      let cover = words_cover stands.0 in
      record { placed = placed; within = in_words (at w.0) w.1 (word_count (shape_of stands.0)) s.limits.blocks (length stands.0.refs) (omega (arith, refs, size, below)) (omega (arith, cover)) (words_even stands.0) in_heap placed }

  pub entries_in_heap : All (IsInHeap s.limits.blocks) s.logged.items
  entries_in_heap = each_entry (IsInHeap s.limits.blocks) field_in_heap

  queued_places : (k : ℕ) → k < (all_queued s).cursors DECREMENT_COUNT → IsPlaceOf at us ((all_queued s).decs k)
  queued_places =
      let P : ℕ → Type 0 = IsPlaceOf at us in
      let Q : LogEntry → Type 0 = λ e. e.old.0 ≢ 0 → P e.old.0 in
      let none = is.decrements.1 in
      registers_each P logged_all s.deferred.items s.registers.items
      (entries_each P t s.logged.items (λ k h. absurd (omega (arith, none, h)))
      (recursion_from_All Q s.logged.items (each_entry Q (λ w h. place_held at us (old_value m w) (old_values w h)))))
      (each_place at us s.deferred.items m.last.registers is.deferred old_registers)

  queued_waits : (o : Name) → IsTrue (has us o) → entries_between (all_queued s).decs 0 ((all_queued s).cursors DECREMENT_COUNT) (at o) ≡ lowered m o
  queued_waits o h =
      let placed = (is.image.stands o h).2.placed in
      let registers = registers_wait logged_all s.deferred.items s.registers.items (at o) placed in
      let entries = entries_wait t s.logged.items (at o) placed in
      let none : entries_between t.decs 0 (t.cursors DECREMENT_COUNT) (at o) ≡ 0 = ap (λ n. entries_between t.decs 0 n (at o)) is.decrements.1 in
      let fields = entries_count t s.limits.blocks m at m.state.graph us s.logged.items is.image is.logs old_values o h in
      let changed = registers_count t s.limits.blocks at m.state.graph us is.image o h s.deferred.items s.registers.items m.last.registers m.state.registers is.deferred is.registers old_registers new_registers in
      omega (arith, registers, entries, none, fields, changed)

  -- the field of a heap word
  abbrev is_at : ℕ → Field → Bool
  is_at w f = nat_eq w (word_of_field at f.0 f.1)

  unlogged_is : (w : ℕ) → (all_queued s).unlogged w ≡ (list_any (is_at w) m.written || t.unlogged w)
  unlogged_is w =
      ap (λ f. f w) (registers_unlogged logged_all s.deferred.items s.registers.items)
      ∙ entries_unlogged t s.logged.items w
      ∙ ap (λ b. b || t.unlogged w)
      (sym (list_any-IsPermutation (λ (e : LogEntry). nat_eq w (logged_word e)) (map (entry_of m at) m.written) s.logged.items is.logs)
      ∙ any_mapped (entry_of m at) (λ (e : LogEntry). nat_eq w (logged_word e)) m.written)

  field_unwritten : (w : ℕ) (f : Field) → IsTrue (has_field m.written f) → IsTrue (is_at w f) → IsUnwritten (settled m promoted stuck) at us w
  field_unwritten w f h e =
      let wrote = is.follows.written f.0 f.1 h in
      let size = same_sizes m is.follows f.0 wrote.0 in
      let below = wrote.2 in (
        f.0,
        f.1,
        record {
          member = old_member f.0 wrote.0;
          index = omega (arith, size, below);
          unwritten = refl;
          word = equal_numbers w (word_of_field at f.0 f.1) e;
        },
      )

  unlogged_then : (w : ℕ) → IsTrue (list_any (is_at w) m.written || t.unlogged w) → IsUnwritten (settled m promoted stuck) at us w
  unlogged_then w h = elim (or_cases (list_any (is_at w) m.written) (t.unlogged w) h) [
    | inl wrote ↦ let f = any_field (is_at w) m.written wrote in field_unwritten w f.0 f.1 f.2
    | inr stays ↦ let x = (is.bits.unlogged w).0 stays in (x.0, x.1, record { member = x.2.member; index = x.2.index; unwritten = refl; word = x.2.word })
  ]

  then_unlogged : (w : ℕ) → IsUnwritten (settled m promoted stuck) at us w → IsTrue (list_any (is_at w) m.written || t.unlogged w)
  then_unlogged w (n, i, x) =
      elim (tested (has_field m.written (n, i))) [
        | inl wrote ↦ or_left (list_any (is_at w) m.written) (t.unlogged w) (field_any (is_at w) m.written (n, i) wrote (same_number w (word_of_field at n i) x.word))
        | inr unwritten ↦ or_right (list_any (is_at w) m.written) (t.unlogged w) ((is.bits.unlogged w).1 (n, i, record { member = x.member; index = x.index; unwritten = unwritten; word = x.word }))
      ]

  -- registers that held something are no more than threads may name
  pub few_held : HoldFew s.deferred s.limits.threads → holding s.deferred.items ≤ s.limits.threads * s.limits.registers
  few_held few =
      let no_more = few is.as_many.1 in
      let width = ap (λ n. s.limits.threads * n) is.room.deferred in
      omega (arith, no_more, width)

  pub are_queued : HoldFew s.deferred s.limits.threads → AreQueued s m at promoted stuck (all_queued s)
  are_queued no_more =
      let few = registers_few logged_all s.deferred.items s.registers.items in
      let few_entries = entries_few t s.logged.items in
      let none = is.decrements.1 in
      let few_logs = is.few_logs in
      let named = few_held no_more in
      record {
        drawn = registers_cursors logged_all s.deferred.items s.registers.items 5 refl ∙ entries_cursors t s.logged.items 5 refl ∙ is.decrements.0;
        tracing = registers_cursors logged_all s.deferred.items s.registers.items 8 refl ∙ entries_cursors t s.logged.items 8 refl;
        fits = omega (arith, few, few_entries, none, few_logs, named);
        places = queued_places;
        waits = queued_waits;
        unlogged = λ w. (λ h. unlogged_then w (sym (unlogged_is w) ∙ h), λ h. unlogged_is w ∙ then_unlogged w h);
      }
