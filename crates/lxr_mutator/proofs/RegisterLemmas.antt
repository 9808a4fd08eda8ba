-- Registers stay so as one is set that may be named, and are so as they are cleared or taken from others. Each holds nil or a place.
use Rattle.std.proofs.Common.{◌≡◌, ℕ, zero, suc, ◌+◌, ◌-◌, ◌<◌, ◌≤◌, arith, refl, sym, subst, ap, ◌∙◌, List, [], ◌∷◌, ◌++◌, length, length-set, Vec, Global}
use Rattle.std.specs.Prelude.{drop, replicate, slice_set, take}
use Rattle.std.specs.List.{All}
use Rattle.std.specs.Vec.{with_items}
use Rattle.std.proofs.lemmas.List.{length-replicate, length-take-le, replicate-append-replicate, with_items_is}
use Rattle.std.proofs.lemmas.List.Elements.{All-head, All-set, All-replicate, All-tail}
use Rattle.lxr_layout.specs.declared.TheConstants.{REGISTERS}
use Rattle.lxr_layout.specs.declared.Place.{Place}
use Rattle.lxr_layout.specs.Registers.{AreNil, held_at, nil}
use Rattle.lxr_layout.proofs.NilLemmas.{drop_nil, held_cleared, nil_set, others_first}
use Rattle.lxr_mutator.specs.declared.mutator.Mutator.TheInside.{Inside}
use Rattle.lxr_mutator.specs.Mutating.{Mutating}
use Rattle.lxr_mutator.specs.Mutators.{AreRegisters, IsHeld, IsMutator}
use Rattle.lxr_mutator.specs.Seen.{IsKept}

pub registers_set : (width : ℕ) (places : List Place) (r : ℕ) (place : Place) → r < width → AreRegisters width places → IsHeld place → AreRegisters width (slice_set places r place)
registers_set width places r place named are held = record {
  as_many = length-set places r place ∙ are.as_many;
  held = All-set IsHeld places r place held are.held;
  unnamed = nil_set places r place width REGISTERS named are.unnamed;
}

pub registers_cleared : (width : ℕ) → AreRegisters width (replicate REGISTERS nil)
registers_cleared width = record { as_many = refl; held = All-replicate IsHeld REGISTERS nil (omega arith); unnamed = λ k above below. held_cleared REGISTERS k }

pub held_anywhere : (places : List Place) (r : ℕ) → All IsHeld places → IsHeld (held_at places r)
held_anywhere [] r all = omega arith
held_anywhere (p ∷ ps) zero all = All-head IsHeld p ps all
held_anywhere (p ∷ ps) (suc r) all = held_anywhere ps r (All-tail IsHeld p ps all)

-- ---- all of them

-- those of a list that were cleared up to a register, behind which they were nil
pub all_cleared : (v : Vec Place Global) (now part : List Place) (n : ℕ) → now ≡ v.items → part ≡ replicate (length (take n now)) nil → length v.items ≡ REGISTERS → n ≤ REGISTERS
    → AreNil v.items n REGISTERS → (with_items v (part ++ drop n now)).items ≡ replicate REGISTERS nil
all_cleared v now part n is cleared as_many few are =
    let short : length (take n now) ≡ n = length-take-le n now (subst (λ l. n ≤ length l) (sym is) (subst (λ l. n ≤ l) (sym as_many) few)) in
    let behind : drop n v.items ≡ replicate (REGISTERS - n) nil = drop_nil v.items n (subst (AreNil v.items n) (sym as_many) are) ∙ ap (λ l. replicate (l - n) nil) as_many in
    let all : n + (REGISTERS - n) ≡ REGISTERS = omega (arith, few) in
    let whole : part ++ drop n now ≡ replicate REGISTERS nil =
    ap (λ ps. ps ++ drop n now) (cleared ∙ ap (λ l. replicate l nil) short) ∙ ap (λ ps. replicate n nil ++ drop n ps) is ∙ ap (λ ps. replicate n nil ++ ps) behind
    ∙ replicate-append-replicate n (REGISTERS - n) nil ∙ ap (λ l. replicate l nil) all in
    with_items_is v (part ++ drop n now) (ap length whole ∙ length-replicate REGISTERS nil ∙ sym as_many ∙ sym v.ok.0) ∙ whole

-- those of a list that were taken from another up to a register, behind which both are nil
pub all_taken : (v : Vec Place Global) (now part row : List Place) (n : ℕ) → now ≡ v.items → part ≡ take n row → length v.items ≡ REGISTERS → length row ≡ REGISTERS
    → AreNil v.items n REGISTERS → AreNil row n REGISTERS → (with_items v (part ++ drop n now)).items ≡ row
all_taken v now part row n is taken as_many row_many are are_row =
    let whole : part ++ drop n now ≡ row =
    ap (λ ps. ps ++ drop n now) taken ∙ ap (λ ps. take n row ++ drop n ps) is
    ∙ others_first v.items row n (as_many ∙ sym row_many) (subst (AreNil v.items n) (sym as_many) are) (subst (AreNil row n) (sym row_many) are_row) in
    with_items_is v (part ++ drop n now) (ap length whole ∙ row_many ∙ sym as_many ∙ sym v.ok.0) ∙ whole

-- a mutator with other registers is one
pub others_stay : (m : Mutating) (row : List Place) → AreRegisters m.width row → IsMutator m → IsMutator (record m { registers = row })
others_stay m row are is = record {
  setup = is.setup;
  registers = are;
  spans = is.spans;
  few_replies = is.few_replies;
  replies = is.replies;
  busy = is.busy;
  waits = is.waits;
  since = is.since;
  phase = is.phase;
}

-- and so are its fields, where they tell how many of these are in use
pub others_kept : (m : Inside) (v : Vec Place Global) (row : List Place) (in_use : ℕ) → v.items ≡ row → AreRegisters m.width row → in_use ≤ m.width → AreNil row in_use REGISTERS
    → IsKept m → IsKept (record m { registers = v; in_use = in_use })
others_kept m v row in_use is are few others kept = record {
  sound = others_stay _ v.items (subst (AreRegisters m.width) (sym is) are) kept.sound;
  few = few;
  others = subst (λ ps. AreNil ps in_use REGISTERS) (sym is) others;
  tally = kept.tally;
  words = kept.words;
}
