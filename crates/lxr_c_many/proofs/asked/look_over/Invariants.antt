use Rattle.std.proofs.Common.{drop}
use Rattle.std.specs.Prelude.{Result}
use Rattle.lxr_c_base.specs.declared.codes.Code.{Code}
use Rattle.lxr_c_many.specs.Applying.{AllAsk}
use Rattle.lxr_c_many.proofs.asked.look_over.Given as goal

abbrev pub invariant-loop-entry : goal.invariant-loop-entry
invariant-loop-entry l = (answer : Result (Unit {0}) Code) → AllAsk l.registers (drop l.entry-index l.entries) answer → AllAsk l.registers l.entries answer
