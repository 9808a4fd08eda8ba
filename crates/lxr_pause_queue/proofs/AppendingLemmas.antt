-- The loops that queue: what is left to be done, done on the tables of now, leads to what all of it leads to on the first
-- tables.
use Rattle.std.proofs.Common.{◌≡◌, ◌≢◌, ℕ, suc, ◌+◌, ◌<◌, ◌≤◌, refl, sym, ap, ◌∙◌, inl, inr, arith, true, false, List, ◌∷◌, length, drop, add-one, nat_eq, cond}
use Rattle.std.specs.Prelude.{Some, slice_get}
use Rattle.std.proofs.Math.Seq.{drop-cons, drop-length}
use Rattle.std.proofs.lemmas.Bool.Decides.{eqb_tells, nat_tests}
use Rattle.std.proofs.lemmas.Option.{slice_get-get_or, slice_get_within, get_or_from_slice_get}
use Rattle.lxr_layout.specs.declared.TheConstants.{DECREMENT_COUNT}
use Rattle.lxr_layout.specs.declared.LogEntry.{LogEntry}
use Rattle.lxr_layout.specs.declared.Place.{Place}
use Rattle.lxr_layout.specs.Registers.{held_at, nil}
use Rattle.lxr_image.specs.declared.space.Space.{Space}
use Rattle.lxr_image.specs.Registers.{AreSame, holding}
use Rattle.lxr_image.specs.Tables.{Tables}
use Rattle.lxr_image.specs.Spaces.{IsSpace, Turns, tables_of}
use Rattle.lxr_image.proofs.PassedLemmas.{passed_over}
use Rattle.lxr_image.proofs.SpaceLemmas.{still_space}
use Rattle.lxr_pause_queue.specs.Appending.{dropped, with_entries, with_entry, with_old, with_registers}

-- ---- lists

-- the rest of a list from an index begins with the item there
pub next : {X : Type 0} (xs : List X) (k : ℕ) (x : X) → slice_get xs k ≡ Some x → drop k xs ≡ x ∷ drop (k + 1) xs
next xs k x e =
    drop-cons xs k x (slice_get_within xs k x e)
    ∙ ap (λ y. y ∷ drop (suc k) xs) (get_or_from_slice_get xs k x x e)
    ∙ ap (λ n. x ∷ drop n xs) (sym (add-one k))

-- ---- one old value

-- how many entries a place takes in the list of decrements: none where it is nil
abbrev pub taken : ℕ → ℕ
taken p = cond (nat_eq p 0) 0 1

pub old_takes : (t : Tables) (p : ℕ) → (with_old t p).cursors DECREMENT_COUNT ≤ t.cursors DECREMENT_COUNT + taken p
old_takes t p = elim (nat_eq p 0) as (λ b. cond b t.cursors (λ i. cond (nat_eq i 6) (t.cursors DECREMENT_COUNT + 1) (t.cursors i)) 6 ≤ t.cursors DECREMENT_COUNT + cond b 0 1) [
  | true ↦ omega arith
  | false ↦ omega arith
]

pub old_few : (t : Tables) (p : ℕ) → (with_old t p).cursors DECREMENT_COUNT ≤ t.cursors DECREMENT_COUNT + 1
old_few t p =
    let takes = old_takes t p in
    let one : taken p ≤ 1 = elim (nat_eq p 0) as (λ b. cond b 0 1 ≤ 1) [ true ↦ omega arith | false ↦ omega arith ] in
    omega (arith, takes, one)

-- what a register holds no more takes no more than what it held
pub dropped_takes : (was now : Place) → taken (dropped was now) ≤ taken was.0
dropped_takes was now = elim (nat_eq was.0 now.0) as (λ b. taken (cond b 0 was.0) ≤ taken was.0) [ true ↦ omega arith | false ↦ omega arith ]

pub some_taken : (p : ℕ) → p ≢ 0 → taken p ≡ 1
some_taken p some = elim (eqb_tells p 0) [ inl none ↦ absurd (some none.1) | inr other ↦ ap (λ b. cond b 0 1) other.0 ]

-- what a register still holds isn't dropped
pub same_dropped : (p : Place) → dropped p p ≡ 0
same_dropped p = ap (λ b. cond b 0 p.0) (let same : nat_eq p.0 p.0 ≡ true = grind (arith, nat_tests) in same)

-- ---- entries

-- the entries before one are queued
pub record EntriesSoFar (a b : Space) (k : ℕ) : Type 0 where
  pub space : IsSpace b
  pub rest : b ≡ record a { words = b.words }
  pub left : with_entries (tables_of b) (drop k a.logged.items) ≡ with_entries (tables_of a) a.logged.items
  pub few : (tables_of b).cursors DECREMENT_COUNT ≤ (tables_of a).cursors DECREMENT_COUNT + k

pub entries_begin : (a : Space) → IsSpace a → EntriesSoFar a a 0
entries_begin a space = record { space = space; rest = refl; left = refl; few = omega arith }

pub same_logged : (a b : Space) (k : ℕ) → EntriesSoFar a b k → b.logged.items ≡ a.logged.items
same_logged a b k so_far = ap (λ s. s.logged.items) so_far.rest

pub entries_next : (a b c : Space) (k : ℕ) (e : LogEntry) → EntriesSoFar a b k → slice_get b.logged.items k ≡ Some e → Turns b c (with_entry (tables_of b) e) → EntriesSoFar a c (k + 1)
entries_next a b c k e so_far there call =
    let at_k : slice_get a.logged.items k ≡ Some e = sym (ap (λ xs. slice_get xs k) (same_logged a b k so_far)) ∙ there in
    let one = old_few (tables_of b) e.old.0 in
    let before = so_far.few in
    let cursor : (tables_of c).cursors DECREMENT_COUNT ≡ (with_old (tables_of b) e.old.0).cursors DECREMENT_COUNT = ap (λ t. t.cursors DECREMENT_COUNT) call.tables in
    record {
      space = still_space b c (with_entry (tables_of b) e) so_far.space call refl;
      rest = call.rest ∙ ap {A = Space} (λ s. record s { words = c.words }) so_far.rest;
      left = ap (λ t. with_entries t (drop (k + 1) a.logged.items)) call.tables ∙ sym (ap (with_entries (tables_of b)) (next a.logged.items k e at_k)) ∙ so_far.left;
      few = omega arith;
    }

pub entries_end : (a b : Space) (k : ℕ) → EntriesSoFar a b k → k ≡ length a.logged.items → Turns a b (with_entries (tables_of a) a.logged.items)
entries_end a b k so_far all = record {
  tables = sym (ap (with_entries (tables_of b)) (ap (λ n. drop n a.logged.items) all ∙ drop-length a.logged.items)) ∙ so_far.left;
  rest = so_far.rest;
}

-- ---- registers

-- the registers before one are queued, and no more entries than registers that held something
pub record RegistersSoFar (a b : Space) (k : ℕ) : Type 0 where
  pub space : IsSpace b
  pub rest : b ≡ record a { words = b.words }
  pub within : k ≤ length a.deferred.items
  pub left : with_registers (tables_of b) (drop k a.deferred.items) (drop k a.registers.items) ≡ with_registers (tables_of a) a.deferred.items a.registers.items
  pub few : (tables_of b).cursors DECREMENT_COUNT + holding (drop k a.deferred.items) ≤ (tables_of a).cursors DECREMENT_COUNT + holding a.deferred.items

registers_begin : (a : Space) → IsSpace a → RegistersSoFar a a 0
registers_begin a space = record { space = space; rest = refl; within = omega arith; left = refl; few = omega arith }

-- what is held from a register on is what it holds and what is held behind it
held_from : (places : List Place) (k : ℕ) (was : Place) → slice_get places k ≡ Some was → holding (drop k places) ≡ taken was.0 + holding (drop (k + 1) places)
held_from places k was there = ap holding (next places k was there)

-- where a register drops something, there is room for it
pub register_fits : (a b : Space) (k p most : ℕ) (was now : Place) → RegistersSoFar a b k → slice_get b.deferred.items k ≡ Some was → p ≡ dropped was now → (tables_of a).cursors DECREMENT_COUNT + holding a.deferred.items ≤ most → p ≢ 0
    → (tables_of b).cursors DECREMENT_COUNT < most
register_fits a b k p most was now so_far was_there is room some =
    let was_at : slice_get a.deferred.items k ≡ Some was = sym (ap (λ s. slice_get s.deferred.items k) so_far.rest) ∙ was_there in
    let here = held_from a.deferred.items k was was_at in
    let few = so_far.few in
    let one : taken (dropped was now) ≡ 1 = some_taken (dropped was now) (λ e. some (is ∙ e)) in
    let takes = dropped_takes was now in
    omega (arith, here, few, one, takes, room)

pub registers_next : (a b c : Space) (k p : ℕ) (was now : Place) → RegistersSoFar a b k → slice_get b.deferred.items k ≡ Some was → slice_get b.registers.items k ≡ Some now
    → p ≡ dropped was now → Turns b c (with_old (tables_of b) p) → RegistersSoFar a c (k + 1)
registers_next a b c k p was now so_far was_there now_there is call =
    let was_at : slice_get a.deferred.items k ≡ Some was = sym (ap (λ s. slice_get s.deferred.items k) so_far.rest) ∙ was_there in
    let now_at : slice_get a.registers.items k ≡ Some now = sym (ap (λ s. slice_get s.registers.items k) so_far.rest) ∙ now_there in
    let below = slice_get_within a.deferred.items k was was_at in
    let here = held_from a.deferred.items k was was_at in
    let one = old_takes (tables_of b) p in
    let same : taken p ≡ taken (dropped was now) = ap taken is in
    let takes = dropped_takes was now in
    let before = so_far.few in
    let cursor : (tables_of c).cursors DECREMENT_COUNT ≡ (with_old (tables_of b) p).cursors DECREMENT_COUNT = ap (λ t. t.cursors DECREMENT_COUNT) call.tables in
    record {
      space = still_space b c (with_old (tables_of b) p) so_far.space call refl;
      rest = call.rest ∙ ap {A = Space} (λ s. record s { words = c.words }) so_far.rest;
      within = omega (arith, below);
      left = ap (λ t. with_registers t (drop (k + 1) a.deferred.items) (drop (k + 1) a.registers.items)) (call.tables ∙ ap (with_old (tables_of b)) is)
          ∙ sym (λ j. with_registers (tables_of b) (next a.deferred.items k was was_at j) (next a.registers.items k now now_at j)) ∙ so_far.left;
      few = omega (arith, here, one, same, takes, before, cursor);
    }

-- registers that hold what they held drop nothing
pub registers_passed : (a b : Space) (from to : ℕ) → length a.registers.items ≡ length a.deferred.items → from ≤ to → to ≤ length a.deferred.items → AreSame a.deferred.items a.registers.items from to → RegistersSoFar a b from → RegistersSoFar a b to
registers_passed a b from to many low end same = passed_over (RegistersSoFar a b) from to low (λ k above below so_far.
    let held : Place = held_at a.registers.items k in
    let was_at = ap {A = Space} (λ s. slice_get s.deferred.items k) so_far.rest ∙ slice_get-get_or a.deferred.items k nil (omega (arith, end, below)) ∙ ap Some (same k above below) in
    let now_at = ap {A = Space} (λ s. slice_get s.registers.items k) so_far.rest ∙ slice_get-get_or a.registers.items k nil (omega (arith, many, end, below)) in
    registers_next a b b k 0 held held so_far was_at now_at (sym (same_dropped held)) (record { tables = refl; rest = refl }))

-- before the first that changed nothing is queued
pub registers_first : (a : Space) (to : ℕ) → IsSpace a → length a.registers.items ≡ length a.deferred.items → to ≤ length a.deferred.items → AreSame a.deferred.items a.registers.items 0 to → RegistersSoFar a a to
registers_first a to space many end last = registers_passed a a 0 to many (omega arith) end last (registers_begin a space)

-- and from one to the next that did, what that one dropped
pub registers_later : (a b c : Space) (k p to : ℕ) (was now : Place) → length a.registers.items ≡ length a.deferred.items → RegistersSoFar a b k → slice_get b.deferred.items k ≡ Some was → slice_get b.registers.items k ≡ Some now
    → p ≡ dropped was now → Turns b c (with_old (tables_of b) p) → k + 1 ≤ to → to ≤ length c.deferred.items → AreSame c.deferred.items c.registers.items (k + 1) to → RegistersSoFar a c to
registers_later a b c k p to was now many so_far was_there now_there is call low end held =
    let after = registers_next a b c k p was now so_far was_there now_there is call in
    let same : c.deferred.items ≡ a.deferred.items = ap {A = Space} (λ s. s.deferred.items) after.rest in
    let length_same = ap length same in
    let now_same : c.registers.items ≡ a.registers.items = ap {A = Space} (λ s. s.registers.items) after.rest in
    registers_passed a c (k + 1) to many low (omega (arith, end, length_same)) (λ j above below. ap (λ xs. held_at xs j) (sym same) ∙ held j above below ∙ ap (λ xs. held_at xs j) now_same) after

pub registers_end : (a b : Space) (k : ℕ) → RegistersSoFar a b k → k ≡ length a.deferred.items → Turns a b (with_registers (tables_of a) a.deferred.items a.registers.items)
registers_end a b k so_far all = record {
  tables = sym (ap (λ xs. with_registers (tables_of b) xs (drop k a.registers.items)) (ap (λ n. drop n a.deferred.items) all ∙ drop-length a.deferred.items)) ∙ so_far.left;
  rest = so_far.rest;
}
