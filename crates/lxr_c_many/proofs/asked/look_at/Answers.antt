use Rattle.std.proofs.Common.{refl, sym, arith}
use Rattle.lxr_c_many.proofs.EntryLemmas.{small_asks}
use Rattle.lxr_c_many.proofs.asked.look_at.Goals as goal

pub returns-then-entry-most-3-clause-asks : goal.returns-then-entry-most-3-clause-asks
returns-then-entry-most-3-clause-asks c = let few = c.requires in small_asks c.args.registers c.args.entry.now (omega (arith, few)) (omega arith) (omega arith) (omega arith) c.args.entry.now.op refl (omega arith)

pub returns-in-Err-clause-refused : goal.returns-in-Err-clause-refused
returns-in-Err-clause-refused c = sym c.in-Err.ensures.asked

pub returns-in-Ok-clause-asks : goal.returns-in-Ok-clause-asks
returns-in-Ok-clause-asks c = (c.in-Ok.field-0, sym c.in-Ok.ensures.asked)
