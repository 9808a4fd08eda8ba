-- What the first registers hold is gray, and so it is of one more: of one that holds something, once that is gray, and of each that is nil.
use Rattle.std.proofs.Common.{◌≡◌, ℕ, ◌+◌, ◌≤◌, refl, sym, ap, ◌∙◌, inl, inr, ◌⊎◌, arith, true, IsTrue, List, length}
use Rattle.std.specs.Prelude.{Some, slice_get}
use Rattle.std.proofs.lemmas.Bool.Decides.{eqb_tells}
use Rattle.lxr_layout.specs.declared.Place.{Place}
use Rattle.lxr_layout.specs.Registers.{AreNil, nil}
use Rattle.lxr_image.specs.declared.space.Space.{Space}
use Rattle.lxr_image.specs.Reads.{granule_of}
use Rattle.lxr_image.specs.Spaces.{IsSpace, Turns, tables_of}
use Rattle.lxr_image.specs.Tables.{Tables, changed}
use Rattle.lxr_image.proofs.PassedLemmas.{nil_there, passed_over}
use Rattle.lxr_image.proofs.SpaceLemmas.{still_space}
use Rattle.lxr_invariant.proofs.EntryLemmas.{changed_cases, changed_here}
use Rattle.lxr_pause_trace.specs.Marking.{IsHeldAt, ShadesRegisters}

-- what one of the first registers holds, one more of them holds
held_more : (registers : List Place) (k g : ℕ) → IsHeldAt registers k g → IsHeldAt registers (k + 1) g
held_more registers k g is = record { register = is.register; place = is.place; among = let below = is.among in omega (arith, below); holds = is.holds; placed = is.placed; stands = is.stands }

-- what one more holds, one of the first holds, or that one
held_less : (registers : List Place) (k g : ℕ) (p : Place) → slice_get registers k ≡ Some p → IsHeldAt registers (k + 1) g → IsHeldAt registers k g ⊎ ((1 ≤ p.0) × (g ≡ granule_of p.0))
held_less registers k g p there is = elim (eqb_tells is.register k) [
  | inl e ↦
      let same : Some is.place ≡ Some p = sym is.holds ∙ ap (slice_get registers) e.1 ∙ there in
      let one : is.place ≡ p = cc in
      let some = is.placed in
      let word = ap (λ z. z.0) one in
      inr (omega (arith, some, word), is.stands ∙ ap (λ z. granule_of z.0) one)
  | inr e ↦ inl (record { register = is.register; place = is.place; among = let below = is.among in let other = e.1 in omega (arith, below, other); holds = is.holds; placed = is.placed; stands = is.stands })
]

-- before the first register nothing is to be gray
pub none_shaded : (b : Space) → IsSpace b → ShadesRegisters b b 0
none_shaded b space = record { space = space; grays_kept = λ g h. h; grays_held = λ g held. absurd (let below = held.among in omega (arith, below)); grays_only = λ g h. inl h; tables = refl; rest = refl }

module _ (b a : Space) (k : ℕ) (p : Place) (there : slice_get b.registers.items k ≡ Some p) (is : ShadesRegisters b a k) where
  -- a register that holds nothing
  pub shaded_none : p.0 ≡ 0 → ShadesRegisters b a (k + 1)
  shaded_none none = record {
    space = is.space;
    grays_kept = is.grays_kept;
    grays_held = λ g held. elim (held_less b.registers.items k g p there held) [
      | inl h ↦ is.grays_held g h
      | inr h ↦ absurd (let some = h.0 in omega (arith, some, none))
    ];
    grays_only = λ g h. elim (is.grays_only g h) [ inl was ↦ inl was | inr held ↦ inr (held_more b.registers.items k g held) ];
    tables = is.tables;
    rest = is.rest;
  }

  -- a register that holds what was made gray
  pub shaded_one : (c : Space) (at : ℕ) → 1 ≤ p.0 → at ≡ granule_of p.0 → Turns a c (record (tables_of a) { grays = changed (tables_of a).grays at true }) → ShadesRegisters b c (k + 1)
  shaded_one c at some here turns = record {
    space = still_space a c (record (tables_of a) { grays = changed (tables_of a).grays at true }) is.space turns refl;
    grays_kept = λ g h. grows g (is.grays_kept g h);
    grays_held = λ g held. elim (held_less b.registers.items k g p there held) [
      | inl h ↦ grows g (is.grays_held g h)
      | inr h ↦ grays_now g ∙ changed_here (tables_of a).grays at true g (h.1 ∙ sym here)
    ];
    grays_only = λ g h. elim (changed_cases (tables_of a).grays at true g) [
      | inl q ↦ inr (record { register = k; place = p; among = omega arith; holds = there; placed = some; stands = q.0 ∙ here })
      | inr q ↦ elim (is.grays_only g (sym (grays_now g ∙ q.1) ∙ h)) [ inl was ↦ inl was | inr held ↦ inr (held_more b.registers.items k g held) ]
    ];
    tables = turns.tables ∙ ap {A = Tables} (λ t. record t { grays = changed (tables_of a).grays at true }) is.tables ∙ ap {A = Tables} (λ t. record (tables_of b) { grays = t.grays }) (sym turns.tables);
    rest = turns.rest ∙ ap {A = Space} (λ s. record s { words = c.words }) is.rest;
  }
    where
      grays_now : (g : ℕ) → (tables_of c).grays g ≡ changed (tables_of a).grays at true g
      grays_now g = ap (λ t. t.grays g) turns.tables

      grows : (g : ℕ) → IsTrue ((tables_of a).grays g) → IsTrue ((tables_of c).grays g)
      grows g h = grays_now g ∙ elim (changed_cases (tables_of a).grays at true g) [ inl q ↦ q.1 | inr q ↦ q.1 ∙ h ]

-- registers that are nil
pub registers_passed : (b a : Space) (from to : ℕ) → from ≤ to → to ≤ length b.registers.items → AreNil b.registers.items from to → ShadesRegisters b a from → ShadesRegisters b a to
registers_passed b a from to low end are = passed_over (ShadesRegisters b a) from to low (λ k above below is. shaded_none b a k nil (nil_there b.registers.items from to k are end above below) is refl)
