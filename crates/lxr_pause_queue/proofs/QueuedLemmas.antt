-- What the tables are after old values were queued: only the list of decrements, its length and unlogged bits have changed,
-- each place waits as often as it was queued, and each entry of the list was queued.
use Rattle.std.proofs.Common.{◌≡◌, ◌≢◌, ℕ, zero, suc, ◌+◌, ◌<◌, ◌≤◌, refl, ap, ◌∙◌, arith, Bool, true, false, cond, List, [], ◌∷◌, length, add-one, nat_eq}
use Rattle.std.specs.Prelude.{◌||◌, ◌&&◌, ◌==◌, nat_le, count_by}
use Rattle.std.specs.List.{AllByRecursion, list_any}
use Rattle.std.proofs.lemmas.Bool.Decides.{nat_tests}
use Rattle.std.proofs.lemmas.List.Sums.{sum_by-cons}
use Rattle.lxr_layout.specs.declared.TheConstants.{DECREMENT_COUNT}
use Rattle.lxr_layout.specs.declared.LogEntry.{LogEntry}
use Rattle.lxr_layout.specs.declared.Place.{Place}
use Rattle.lxr_image.specs.Registers.{holding}
use Rattle.lxr_image.specs.Tables.{Tables, changed}
use Rattle.lxr_invariant.specs.Counting.{entries_between}
use Rattle.lxr_invariant.proofs.EntryLemmas.{one_if}
use Rattle.lxr_pause_queue.specs.Appending.{dropped, with_entries, with_entry, with_old, with_registers, logged_word}
use Rattle.lxr_pause_queue.proofs.AppendingLemmas.{dropped_takes, old_few, old_takes}

-- ---- what stays

-- the tables are those but for the list of decrements, the cursors and the unlogged bits
abbrev pub KeepOthers : Tables → Tables → Type 0
KeepOthers t u = u ≡ record t { decs = u.decs; cursors = u.cursors; unlogged = u.unlogged }

pub entries_keep : (t : Tables) (es : List LogEntry) → KeepOthers t (with_entries t es)
entries_keep t [] = refl
entries_keep t (e ∷ es) = entries_keep (with_entry t e) es

pub registers_keep : (t : Tables) (befores nows : List Place) → KeepOthers t (with_registers t befores nows)
registers_keep t [] nows = refl
registers_keep t (b ∷ befores) [] = refl
registers_keep t (b ∷ befores) (n ∷ nows) = registers_keep (with_old t (dropped b n)) befores nows

-- each other cursor stays
old_cursors : (t : Tables) (p k : ℕ) → nat_eq k 6 ≡ false → (with_old t p).cursors k ≡ t.cursors k
old_cursors t p k other = elim (nat_eq p 0) as (λ b. cond b t.cursors (changed t.cursors DECREMENT_COUNT (t.cursors DECREMENT_COUNT + 1)) k ≡ t.cursors k) [
  | true ↦ refl
  | false ↦ ap (λ b. cond b (t.cursors DECREMENT_COUNT + 1) (t.cursors k)) other
]

pub entries_cursors : (t : Tables) (es : List LogEntry) (k : ℕ) → nat_eq k 6 ≡ false → (with_entries t es).cursors k ≡ t.cursors k
entries_cursors t [] k other = refl
entries_cursors t (e ∷ es) k other = entries_cursors (with_entry t e) es k other ∙ old_cursors t e.old.0 k other

pub registers_cursors : (t : Tables) (befores nows : List Place) (k : ℕ) → nat_eq k 6 ≡ false → (with_registers t befores nows).cursors k ≡ t.cursors k
registers_cursors t [] nows k other = refl
registers_cursors t (b ∷ befores) [] k other = refl
registers_cursors t (b ∷ befores) (n ∷ nows) k other = registers_cursors (with_old t (dropped b n)) befores nows k other ∙ old_cursors t (dropped b n) k other

-- ---- how many are queued

pub entries_few : (t : Tables) (es : List LogEntry) → (with_entries t es).cursors DECREMENT_COUNT ≤ t.cursors DECREMENT_COUNT + length es
entries_few t [] = omega arith
entries_few t (e ∷ es) = let rest = entries_few (with_entry t e) es in let one = old_few t e.old.0 in omega (arith, rest, one)

pub registers_few : (t : Tables) (befores nows : List Place) → (with_registers t befores nows).cursors DECREMENT_COUNT ≤ t.cursors DECREMENT_COUNT + holding befores
registers_few t [] nows = omega arith
registers_few t (b ∷ befores) [] = omega arith
registers_few t (b ∷ befores) (n ∷ nows) =
    let rest = registers_few (with_old t (dropped b n)) befores nows in
    let one = old_takes t (dropped b n) in
    let takes = dropped_takes b n in
    omega (arith, rest, one, takes)

-- ---- how often a place waits

-- how often a place is in the whole list of decrements
abbrev pub listed : Tables → ℕ → ℕ
listed t p = entries_between t.decs 0 (t.cursors DECREMENT_COUNT) p

same_entries : (f g : ℕ → ℕ) (n p : ℕ) → ((k : ℕ) → k < n → f k ≡ g k) → entries_between f 0 n p ≡ entries_between g 0 n p
same_entries f g zero p same = refl
same_entries f g (suc n) p same =
    let rest = same_entries f g n p (λ k h. same k (omega arith)) in
    let here = ap (λ x. one_if (nat_le 0 n && (x == p))) (same n (omega arith)) in
    omega (arith, rest, here)

one_entry : (f : ℕ → ℕ) (n q p : ℕ) → entries_between (changed f n q) 0 (n + 1) p ≡ entries_between f 0 n p + cond (nat_eq q p) 1 0
one_entry f n q p =
    let before = same_entries (changed f n q) f n p (λ k h. let e : nat_eq k n ≡ false = grind (arith, nat_tests) in ap (λ b. cond b q (f k)) e) in
    let low : nat_le 0 n ≡ true = grind (arith, nat_tests) in
    let itself : nat_eq n n ≡ true = grind (arith, nat_tests) in
    let here : one_if (nat_le 0 n && (changed f n q n == p)) ≡ one_if (nat_eq q p) = λ j. one_if (low j && (cond (itself j) q (f n) == p)) in
    ap (λ k. entries_between (changed f n q) 0 k p) (add-one n) ∙ omega (arith, before, here)

old_waits : (t : Tables) (q p : ℕ) → 1 ≤ p → listed (with_old t q) p ≡ listed t p + cond (nat_eq q p) 1 0
old_waits t q p some = elim (nat_eq q 0) as (λ b. nat_eq q 0 ≡ b → entries_between (cond b t.decs (changed t.decs (t.cursors DECREMENT_COUNT) q)) 0 (cond b t.cursors (changed t.cursors DECREMENT_COUNT (t.cursors DECREMENT_COUNT + 1)) 6) p ≡ listed t p + cond (nat_eq q p) 1 0) [
  | true ↦ λ e. let other : nat_eq q p ≡ false = grind (arith, nat_tests) in let none = ap one_if other in omega (arith, none)
  | false ↦ λ e. one_entry t.decs (t.cursors DECREMENT_COUNT) q p
] refl

pub entries_wait : (t : Tables) (es : List LogEntry) (p : ℕ) → 1 ≤ p → listed (with_entries t es) p ≡ listed t p + count_by (λ e. nat_eq e.old.0 p) es
entries_wait t [] p some = omega arith
entries_wait t (e ∷ es) p some =
    let rest = entries_wait (with_entry t e) es p some in let here = old_waits t e.old.0 p some in
    let both = sum_by-cons (λ (x : LogEntry). cond (nat_eq x.old.0 p) 1 0) e es in
    omega (arith, rest, here, both)

-- how often a place is queued for registers
abbrev pub dropped_at : ℕ → List Place → List Place → ℕ
dropped_at p [] nows = 0
dropped_at p (b ∷ befores) [] = 0
dropped_at p (b ∷ befores) (n ∷ nows) = cond (nat_eq (dropped b n) p) 1 0 + dropped_at p befores nows

pub registers_wait : (t : Tables) (befores nows : List Place) (p : ℕ) → 1 ≤ p → listed (with_registers t befores nows) p ≡ listed t p + dropped_at p befores nows
registers_wait t [] nows p some = omega arith
registers_wait t (b ∷ befores) [] p some = omega arith
registers_wait t (b ∷ befores) (n ∷ nows) p some =
    let rest = registers_wait (with_old t (dropped b n)) befores nows p some in let here = old_waits t (dropped b n) p some in
    omega (arith, rest, here)

-- ---- what waits

-- each entry of the list of decrements has the property
abbrev pub EachWaiting : (ℕ → Type 0) → Tables → Type 0
EachWaiting P t = (k : ℕ) → k < t.cursors DECREMENT_COUNT → P (t.decs k)

one_more : (P : ℕ → Type 0) (f : ℕ → ℕ) (n q : ℕ) → ((k : ℕ) → k < n → P (f k)) → P q → (k : ℕ) → k < n + 1 → P (changed f n q k)
one_more P f n q each here k below = elim (nat_eq k n) as (λ b. nat_eq k n ≡ b → P (cond b q (f k))) [
  | true ↦ λ e. here
  | false ↦ λ e. each k (let ne : k ≢ n = grind (arith, nat_tests) in omega arith)
] refl

old_each : (P : ℕ → Type 0) (t : Tables) (q : ℕ) → EachWaiting P t → (q ≢ 0 → P q) → EachWaiting P (with_old t q)
old_each P t q each here = elim (nat_eq q 0) as (λ b. nat_eq q 0 ≡ b → (k : ℕ) → k < cond b t.cursors (changed t.cursors DECREMENT_COUNT (t.cursors DECREMENT_COUNT + 1)) 6 → P (cond b t.decs (changed t.decs (t.cursors DECREMENT_COUNT) q) k)) [
  | true ↦ λ e. each
  | false ↦ λ e. one_more P t.decs (t.cursors DECREMENT_COUNT) q each (here (let ne : q ≢ 0 = grind (arith, nat_tests) in ne))
] refl

pub entries_each : (P : ℕ → Type 0) (t : Tables) (es : List LogEntry) → EachWaiting P t → AllByRecursion (λ e. e.old.0 ≢ 0 → P e.old.0) es → EachWaiting P (with_entries t es)
entries_each P t [] each all = each
entries_each P t (e ∷ es) each all = entries_each P (with_entry t e) es (old_each P t e.old.0 each all.0) all.1

dropped_some : (P : ℕ → Type 0) (b n : Place) → (b.0 ≢ 0 → P b.0) → dropped b n ≢ 0 → P (dropped b n)
dropped_some P b n h = elim (nat_eq b.0 n.0) as (λ x. cond x 0 b.0 ≢ 0 → P (cond x 0 b.0)) [
  | true ↦ λ ne. absurd (ne refl)
  | false ↦ h
]

pub registers_each : (P : ℕ → Type 0) (t : Tables) (befores nows : List Place) → EachWaiting P t → AllByRecursion (λ b. b.0 ≢ 0 → P b.0) befores → EachWaiting P (with_registers t befores nows)
registers_each P t [] nows each all = each
registers_each P t (b ∷ befores) [] each all = each
registers_each P t (b ∷ befores) (n ∷ nows) each all = registers_each P (with_old t (dropped b n)) befores nows (old_each P t (dropped b n) each (dropped_some P b n all.0)) all.1

-- ---- unlogged bits

either : (a b c : Bool) → (a || cond b true c) ≡ ((b || a) || c)
either true true c = refl
either true false c = refl
either false true c = refl
either false false c = refl

pub entries_unlogged : (t : Tables) (es : List LogEntry) (w : ℕ) → (with_entries t es).unlogged w ≡ (list_any (λ e. nat_eq w (logged_word e)) es || t.unlogged w)
entries_unlogged t [] w = refl
entries_unlogged t (e ∷ es) w = entries_unlogged (with_entry t e) es w ∙ either (list_any (λ x. nat_eq w (logged_word x)) es) (nat_eq w (logged_word e)) (t.unlogged w)

pub registers_unlogged : (t : Tables) (befores nows : List Place) → (with_registers t befores nows).unlogged ≡ t.unlogged
registers_unlogged t [] nows = refl
registers_unlogged t (b ∷ befores) [] = refl
registers_unlogged t (b ∷ befores) (n ∷ nows) = registers_unlogged (with_old t (dropped b n)) befores nows
