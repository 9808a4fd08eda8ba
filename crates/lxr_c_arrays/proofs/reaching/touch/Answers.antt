use Rattle.std.proofs.Common.{subst, sym, [], ◌∷◌}
use Rattle.lxr_c_arrays.specs.Plans.{touching}
use Rattle.lxr_c_arrays.specs.Running.{InTurn}
use Rattle.lxr_c_arrays.proofs.reaching.touch.Goals as goal

pub returns-in-Load-clause-runs : goal.returns-in-Load-clause-runs
returns-in-Load-clause-runs c = subst (λ a. InTurn c.args.heap.now (touching a c.args.other c.args.base c.args.index ∷ []) c.load.new.heap c.load.result) (sym c.in-Load.is) c.load.ensures.runs

pub store-requires-clause-registers : goal.store-requires-clause-registers
store-requires-clause-registers c = (c.requires.registers.1, c.requires.registers.0)

pub returns-in-Store-clause-runs : goal.returns-in-Store-clause-runs
returns-in-Store-clause-runs c = subst (λ a. InTurn c.args.heap.now (touching a c.args.other c.args.base c.args.index ∷ []) c.store.new.heap c.store.result) (sym c.in-Store.is) c.store.ensures.runs
