use Rattle.std.proofs.Common.{sym, subst}
use Rattle.lxr_layout.specs.declared.TheConstants.{REGISTERS}
use Rattle.lxr_layout.specs.Registers.{AreNil}
use Rattle.lxr_mutator.specs.Mutators.{AreRegisters}
use Rattle.lxr_core.proofs.AgainLemmas.{mutator_registers, row_nil}
use Rattle.lxr_core.proofs.actors.AnyActor.start_again.Goals as goal

pub start_again-requires-clause-registers : goal.start_again-requires-clause-registers
start_again-requires-clause-registers c =
    subst (λ m. AreRegisters m.width c.row.result.now) (sym c.deref_mut.ensures.value)
    (mutator_registers c.args.registers.now c.args.number c.in_use.result c.args.self.now c.in-Mutator.mutator c.row.result.now c.in-Mutator.is c.requires.registers c.requires.held c.in_use.ensures.few c.in_use.ensures.others c.row.ensures)

pub start_again-requires-clause-others : goal.start_again-requires-clause-others
start_again-requires-clause-others c =
    subst (λ row. AreNil row c.in_use.result REGISTERS) (sym c.row.ensures) (row_nil c.args.registers.now.items c.args.number c.in_use.result c.in_use.ensures.others)
