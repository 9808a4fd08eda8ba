-- What the list of decrements is after old values were queued: each that isn't nil stands at its end.
use Rattle.std.proofs.Common.{◌≡◌, ℕ, zero, suc, ◌+◌, ◌≤◌, refl, sym, ap, ◌∙◌, arith, true, false, cond, List, [], ◌∷◌, ◌++◌, add-one, nat_eq}
use Rattle.std.specs.Prelude.{not}
use Rattle.std.proofs.lemmas.Bool.Decides.{nat_tests}
use Rattle.std.proofs.lemmas.List.{append-nil, append_assoc}
use Rattle.lxr_layout.specs.declared.TheConstants.{DECREMENT_COUNT}
use Rattle.lxr_layout.specs.declared.LogEntry.{LogEntry}
use Rattle.lxr_layout.specs.declared.Place.{Place}
use Rattle.lxr_image.specs.Tables.{Tables, changed}
use Rattle.lxr_pause_queue.specs.Appending.{dropped, with_entries, with_entry, with_old, with_registers}
use Rattle.lxr_pause_queue.specs.OldValues.{decrement_list, dropped_values, first_entries, logged_values, without_nil}

-- an entry behind the first ones leaves them
first_stay : (f : ℕ → ℕ) (n p k : ℕ) → k ≤ n → first_entries (changed f n p) k ≡ first_entries f k
first_stay f n p zero few = refl
first_stay f n p (suc k) few =
    let other : nat_eq k n ≡ false = grind (arith, nat_tests) in
    let rest = first_stay f n p k (omega arith) in
    λ i. rest i ++ cond (other i) p (f k) ∷ []

-- with it there is one more
first_joined : (f : ℕ → ℕ) (n p : ℕ) → first_entries (changed f n p) (n + 1) ≡ first_entries f n ++ p ∷ []
first_joined f n p =
    let same : nat_eq n n ≡ true = grind (arith, nat_tests) in
    let rest = first_stay f n p n (omega arith) in
    ap (first_entries (changed f n p)) (add-one n) ∙ (λ i. rest i ++ cond (same i) p (f n) ∷ [])

-- the first of some places, and the others
nil_apart : (p : ℕ) (ps : List ℕ) → without_nil (p ∷ []) ++ without_nil ps ≡ without_nil (p ∷ ps)
nil_apart p ps = elim (nat_eq p 0) as (λ b. cond (not b) (p ∷ []) [] ++ without_nil ps ≡ cond (not b) (p ∷ without_nil ps) (without_nil ps)) [
  | true ↦ refl
  | false ↦ refl
]

-- an old value joins the list, unless it is nil
old_joined : (t : Tables) (p : ℕ) → decrement_list (with_old t p) ≡ decrement_list t ++ without_nil (p ∷ [])
old_joined t p =
    let n = t.cursors DECREMENT_COUNT in
    elim (nat_eq p 0) as (λ b. first_entries (cond b t.decs (changed t.decs n p)) (cond b t.cursors (changed t.cursors DECREMENT_COUNT (n + 1)) DECREMENT_COUNT) ≡ first_entries t.decs n ++ cond (not b) (p ∷ []) []) [
      | true ↦ sym (append-nil (first_entries t.decs n))
      | false ↦ first_joined t.decs n p
    ]

-- and then others
then_joined : (t : Tables) (p : ℕ) (ps list : List ℕ) → list ≡ decrement_list (with_old t p) ++ without_nil ps → list ≡ decrement_list t ++ without_nil (p ∷ ps)
then_joined t p ps list rest =
    rest
    ∙ ap (λ x. x ++ without_nil ps) (old_joined t p)
    ∙ append_assoc (decrement_list t) (without_nil (p ∷ [])) (without_nil ps)
    ∙ ap (λ x. decrement_list t ++ x) (nil_apart p ps)

pub entries_joined : (t : Tables) (es : List LogEntry) → decrement_list (with_entries t es) ≡ decrement_list t ++ without_nil (logged_values es)
entries_joined t [] = sym (append-nil (decrement_list t))
entries_joined t (e ∷ es) = then_joined t e.old.0 (logged_values es) (decrement_list (with_entries (with_entry t e) es)) (entries_joined (with_entry t e) es)

pub registers_joined : (t : Tables) (befores nows : List Place) → decrement_list (with_registers t befores nows) ≡ decrement_list t ++ without_nil (dropped_values befores nows)
registers_joined t [] nows = sym (append-nil (decrement_list t))
registers_joined t (b ∷ befores) [] = sym (append-nil (decrement_list t))
registers_joined t (b ∷ befores) (n ∷ nows) =
    then_joined t (dropped b n) (dropped_values befores nows) (decrement_list (with_registers (with_old t (dropped b n)) befores nows)) (registers_joined (with_old t (dropped b n)) befores nows)

-- so it is with all of them
pub all_joined : (t : Tables) (es : List LogEntry) (befores nows : List Place)
    → decrement_list (with_registers (with_entries t es) befores nows) ≡ decrement_list t ++ (without_nil (logged_values es) ++ without_nil (dropped_values befores nows))
all_joined t es befores nows =
    registers_joined (with_entries t es) befores nows
    ∙ ap (λ x. x ++ without_nil (dropped_values befores nows)) (entries_joined t es)
    ∙ append_assoc (decrement_list t) (without_nil (logged_values es)) (without_nil (dropped_values befores nows))
