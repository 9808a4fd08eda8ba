use Rattle.std.proofs.Common.{◌≡◌, List, length, ◌++◌, ◌-◌, ap, arith, sym, subst, ◌∙◌, ◌≤◌}
use Rattle.std.proofs.lemmas.List.{length-take-le}
use Rattle.std.specs.Prelude.{drop, take}
use Rattle.std.specs.Vec.{with_items}
use Rattle.lxr_layout.specs.declared.TheConstants.{REGISTERS}
use Rattle.lxr_layout.specs.declared.Place.{Place}
use Rattle.lxr_layout.proofs.NilLemmas.{nil_within}
use Rattle.lxr_mutator.specs.Mutating.{Mutating}
use Rattle.lxr_mutator.specs.Mutators.{AreRegisters}
use Rattle.lxr_mutator.specs.Seen.{seen}
use Rattle.lxr_mutator.proofs.RegisterLemmas.{all_taken, others_kept}
use Rattle.lxr_mutator.proofs.mutator.Mutator.take_registers.Goals as goal

-- what is left in place of the registers
abbrev left : goal.After-self-2-1 → List Place
left c = c.copy_places.new.to ++ drop (c.from-count.result - 0) c.deref_mut.result.now

taken : (c : goal.After-self-2-1) → (with_items c.self.inside.registers (left c)).items ≡ c.args.row.now
taken c =
    let most = c.max.ensures in
    let count = c.from-count.ensures in
    let n = c.from-count.result - 0 in
    let there : length c.deref_mut.result.now ≡ length c.self.inside.registers.items = ap length c.deref_mut.ensures.value in
    let as_many = c.self.invariant.sound.registers.as_many in
    let width = c.self.invariant.sound.setup.width.1 in
    let used = c.self.invariant.few in
    let named : c.args.in_use ≤ c.self.inside.width = subst (λ (m : Mutating). c.args.in_use ≤ m.width) (sym c.self.view_is) c.requires.few in
    let long : length (take n c.deref_mut.result.now) ≡ n = length-take-le n c.deref_mut.result.now (omega (arith, there, as_many, most, count, width, used, named)) in
    all_taken c.self.inside.registers c.deref_mut.result.now c.copy_places.new.to c.args.row.now n c.deref_mut.ensures.value
    (c.copy_places.ensures ∙ ap (λ k. take k c.args.row.now) long) c.self.invariant.sound.registers.as_many c.requires.registers.as_many
    (nil_within _ c.self.inside.in_use REGISTERS n REGISTERS (omega (arith, most, count)) (omega arith) c.self.invariant.others)
    (nil_within _ c.args.in_use REGISTERS n REGISTERS (omega (arith, most, count)) (omega arith) c.requires.others)

pub invariant_of-self : goal.invariant_of-self
invariant_of-self c =
    let is = c.self.view_is in
    others_kept c.self.inside (with_items c.self.inside.registers (left c)) c.args.row.now c.args.in_use (taken c)
    (subst (λ (m : Mutating). AreRegisters m.width c.args.row.now) (sym is) c.requires.registers)
    (subst (λ (m : Mutating). c.args.in_use ≤ m.width) (sym is) c.requires.few) c.requires.others c.self.invariant

pub returns : goal.returns
returns c =
    let with_registers : List Place → Mutating = λ items. record (seen c.self.inside) { registers = items } in
    ap with_registers (taken c) ∙ ap (λ (m : Mutating). record m { registers = c.args.row.now }) c.self.view_is
