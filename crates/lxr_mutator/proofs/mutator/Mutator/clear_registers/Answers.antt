use Rattle.std.proofs.Common.{◌≡◌, List, replicate, ◌++◌, ◌-◌, ap, arith, ◌∙◌}
use Rattle.std.specs.Prelude.{drop}
use Rattle.std.specs.Vec.{with_items}
use Rattle.lxr_layout.specs.declared.TheConstants.{REGISTERS}
use Rattle.lxr_layout.specs.declared.Place.{Place}
use Rattle.lxr_layout.specs.Registers.{nil}
use Rattle.lxr_layout.proofs.NilLemmas.{held_cleared, nil_within}
use Rattle.lxr_mutator.specs.Mutating.{Mutating}
use Rattle.lxr_mutator.specs.Seen.{seen}
use Rattle.lxr_mutator.proofs.RegisterLemmas.{all_cleared, others_kept, registers_cleared}
use Rattle.lxr_mutator.proofs.mutator.Mutator.clear_registers.Goals as goal

-- what is left in place of the registers
abbrev left : goal.After-self-2-1 → List Place
left c = c.fill.new.self ++ drop (c.from-count.result - 0) c.deref_mut.result.now

cleared : (c : goal.After-self-2-1) → (with_items c.self.inside.registers (left c)).items ≡ replicate REGISTERS nil
cleared c =
    let is = c.self.invariant in
    let few = is.few in
    let width = is.sound.setup.width in
    let count = c.from-count.ensures in
    all_cleared c.self.inside.registers c.deref_mut.result.now c.fill.new.self (c.from-count.result - 0) c.deref_mut.ensures.value (c.fill.ensures.after (λ y e. e)) is.sound.registers.as_many
    (omega (arith, few, width, count)) (nil_within c.self.inside.registers.items c.self.inside.in_use REGISTERS (c.from-count.result - 0) REGISTERS (omega (arith, count)) (omega arith) is.others)

pub invariant_of-self : goal.invariant_of-self
invariant_of-self c =
    others_kept c.self.inside (with_items c.self.inside.registers (left c)) (replicate REGISTERS nil) 0 (cleared c)
    (registers_cleared c.self.inside.width) (omega arith) (λ k above below. held_cleared REGISTERS k) c.self.invariant

pub returns : goal.returns
returns c =
    let with_registers : List Place → Mutating = λ items. record (seen c.self.inside) { registers = items } in
    ap with_registers (cleared c) ∙ ap (λ (m : Mutating). record m { registers = replicate REGISTERS nil }) c.self.view_is
