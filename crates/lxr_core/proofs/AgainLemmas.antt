-- Actors that begin again, one after another.
use Rattle.std.proofs.Common.{◌≡◌, ℕ, ◌+◌, ◌*◌, ◌<◌, ◌≤◌, refl, sym, ap, subst, ◌∙◌, inl, inr, arith, true, List, length, length-set, map}
use Rattle.std.specs.Prelude.{All, Option, Some, slice_get, slice_set, slice_index_or, drop}
use Rattle.std.proofs.lemmas.List.{length-map}
use Rattle.std.proofs.lemmas.List.Elements.{All-drop, All-take}
use Rattle.std.proofs.lemmas.Bool.Decides.{eqb_tells}
use Rattle.std.proofs.lemmas.Option.{slice_get-get_or, slice_get_within}
use Rattle.lxr_layout.specs.declared.TheConstants.{REGISTERS}
use Rattle.lxr_layout.specs.declared.Place.{Place}
use Rattle.lxr_layout.specs.Registers.{AreNil}
use Rattle.lxr_layout.proofs.NilLemmas.{nil_within}
use Rattle.lxr_image.specs.Registers.{Registers, row_in}
use Rattle.lxr_image.proofs.RegisterLemmas.{held-row, length-row}
use Rattle.lxr_actor.proofs.Runs.{slice_get-set_other, slice_get-set_same}
use Rattle.lxr_mutator.specs.declared.phases.MutEnd.{MutEnd}
use Rattle.lxr_mutator.specs.declared.phases.MutEnd.TheVariants as ends
use Rattle.lxr_mutator.specs.Mutating.{Mutating, rests_in}
use Rattle.lxr_mutator.specs.Mutators.{AreRegisters, IsHeld, phase_again}
use Rattle.lxr_core.specs.declared.actors.AnyActor.{AnyActor}
use Rattle.lxr_core.specs.declared.actors.AnyActor.TheVariants as any
use Rattle.lxr_core.specs.Actors.{AreInOrder, any_machine, mutators_in}
use Rattle.lxr_core.specs.Closing.{AreResting}
use Rattle.lxr_core.specs.Filling.{unfilled}
use Rattle.lxr_core.proofs.MappedLemmas.{mapped}
use Rattle.lxr_core.proofs.OrderLemmas.{mutator_at}
use Rattle.lxr_core.specs.Starting.{HasRegisters, HaveStarted, MayAllStart, MayNameAll, MayStart, started_again}

-- at first none has
pub none_started : (places : List Place) (before : List AnyActor) → HaveStarted places before before 0
none_started places before = record { as_many = refl; started = λ i a h less. absurd (omega (arith, less)); others = λ i h. refl }

-- the next actor is what it was
pub next_before : (places : List Place) (before after : List AnyActor) (n : ℕ) (d : AnyActor) → HaveStarted places before after n → n < length before
    → slice_get before n ≡ Some (slice_index_or after n d)
next_before places before after n d is less =
    let many = is.as_many in
    let inside : n < length after = omega (arith, many, less) in
    sym (is.others n (omega arith)) ∙ slice_get-get_or after n d inside

-- so it may begin again
pub next_may : (places : List Place) (before after : List AnyActor) (n : ℕ) (d : AnyActor) → HaveStarted places before after n → n < length before → MayAllStart before
    → MayStart (slice_index_or after n d)
next_may places before after n d is less may = may n (slice_index_or after n d) (next_before places before after n d is less)

-- and its registers are there
registers_at : (r : Registers) (actors : List AnyActor) (n : ℕ) (a : AnyActor) → AreInOrder actors → length r.items ≡ REGISTERS * length (mutators_in actors) → MayNameAll r.width (mutators_in actors)
    → length (mutators_in actors) ≤ 255 → slice_get actors n ≡ Some a → HasRegisters r n a
registers_at r actors n (any.Mutator m) order many width few there =
    let stands = mutator_at actors n m order there in
    let inside = slice_get_within (mutators_in actors) n m stands in
    (omega (arith, inside, few), omega (arith, inside, many), width n m stands)
registers_at r actors n (any.Decrementer d) order many width few there = tt
registers_at r actors n (any.Tracer d) order many width few there = tt

pub next_registers : (r : Registers) (before after : List AnyActor) (n : ℕ) (d : AnyActor) → HaveStarted r.items before after n → n < length before
    → AreInOrder before → length r.items ≡ REGISTERS * length (mutators_in before) → MayNameAll r.width (mutators_in before) → length (mutators_in before) ≤ 255 → HasRegisters r n (slice_index_or after n d)
next_registers r before after n d is less order many width few = registers_at r before n (slice_index_or after n d) order many width few (next_before r.items before after n d is less)

-- what is nil among those of all is nil among those of the thread
pub row_nil : (places : List Place) (n from : ℕ) → AreNil places (REGISTERS * n + from) (REGISTERS * n + REGISTERS) → AreNil (row_in places n) from REGISTERS
row_nil places n from are k low high = held-row places n k high ∙ are (REGISTERS * n + k) (omega (arith, low)) (omega (arith, high))

-- the registers of a thread are held places
pub registers_held : (places : List Place) (n : ℕ) → All IsHeld places → All IsHeld (row_in places n)
registers_held places n held = All-take IsHeld REGISTERS (drop (REGISTERS * n) places) (All-drop IsHeld (REGISTERS * n) places held)

-- there are 256 of them, and a thread that may name so many names none that holds something else than nil beyond
pub are_registers : (places : List Place) (n width : ℕ) → REGISTERS * n + REGISTERS ≤ length places → All IsHeld places → AreNil places (REGISTERS * n + width) (REGISTERS * n + REGISTERS) → AreRegisters width (row_in places n)
are_registers places n width many held unnamed = record {
  as_many = length-row places n many;
  held = registers_held places n held;
  unnamed = row_nil places n width unnamed;
}

-- so are those of a mutator, where as many as are in use are told
pub mutator_registers : (r : Registers) (n used : ℕ) (a : AnyActor) (m : Mutating) (row : List Place) → a ≡ any.Mutator m → HasRegisters r n a → All IsHeld r.items → used ≤ r.width
    → AreNil r.items (REGISTERS * n + used) (REGISTERS * n + REGISTERS) → row ≡ row_in r.items n → AreRegisters m.width row
mutator_registers r n used a m row is has held few others same =
    let (below, within, width) = subst (HasRegisters r n) is has in
    subst (AreRegisters m.width) (sym same)
    (are_registers r.items n m.width (omega (arith, within)) held (nil_within r.items (REGISTERS * n + used) (REGISTERS * n + REGISTERS) (REGISTERS * n + m.width) (REGISTERS * n + REGISTERS) (omega (arith, few, width)) (omega arith) others))

-- one more has begun again
pub one_more : (places : List Place) (before after : List AnyActor) (n : ℕ) (d x : AnyActor) → HaveStarted places before after n → n < length before
    → x ≡ started_again (slice_index_or after n d) (row_in places n) → HaveStarted places before (slice_set after n x) (n + 1)
one_more places before after n d x is less made =
    let many = is.as_many in
    let inside : n < length after = omega (arith, many, less) in
    record {
      as_many = length-set after n x ∙ is.as_many;
      started = λ i a there below. elim (eqb_tells i n) [
        | inl q ↦
            let same : Some a ≡ Some (slice_index_or after n d) = sym there ∙ (ap (slice_get before) q.1 ∙ next_before places before after n d is less) in
            let same_actor : slice_index_or after n d ≡ a = cc in
            ap (slice_get (slice_set after n x)) q.1 ∙ (slice_get-set_same after n x inside
            ∙ (ap Some made ∙ (ap (λ y. Some (started_again y (row_in places n))) same_actor ∙ ap (λ k. Some (started_again a (row_in places k))) (sym q.1))))
        | inr q ↦ let other = q.1 in slice_get-set_other after n i x other ∙ is.started i a there (omega (arith, other, below))
      ];
      others = λ i past. slice_get-set_other after n i x (λ e. omega (arith, e, past)) ∙ is.others i (omega (arith, past));
    }

-- ---- they rest

-- a mutator is ready for its next unit, or is through
mutator_rests : (e : Option MutEnd) → rests_in (phase_again e) ≡ true
mutator_rests (Some ends.Ended) = refl
mutator_rests e = refl

-- an actor that begins again rests
again_rests : (a : AnyActor) (registers : List Place) → any_machine.rests (started_again a registers) ≡ true
again_rests (any.Mutator m) registers = mutator_rests m.end
again_rests (any.Decrementer d) registers = refl
again_rests (any.Tracer d) registers = refl

-- whatever its pocket was filled with
filled_rests : (a : AnyActor) → any_machine.rests a ≡ any_machine.rests (unfilled a)
filled_rests (any.Mutator m) = refl
filled_rests (any.Decrementer d) = refl
filled_rests (any.Tracer d) = refl

-- so all rest once all have begun again
pub started_rest : (places : List Place) (before after : List AnyActor) → HaveStarted places before (map unfilled after) (length before) → AreResting after
started_rest places before after have i x at =
    let many = have.as_many in
    let as_many = length-map after unfilled in
    let inside = slice_get_within after i x at in
    let below : i < length before = omega arith in
    let now = have.started i (slice_index_or before i x) (slice_get-get_or before i x below) below in
    let same = some_same (unfilled x) (started_again (slice_index_or before i x) (row_in places i)) (sym (mapped unfilled after i x at) ∙ now) in
    filled_rests x ∙ ap any_machine.rests same ∙ again_rests (slice_index_or before i x) (row_in places i)
  where
    some_same : (a b : AnyActor) → Some a ≡ Some b → a ≡ b
    some_same a b e = cc
