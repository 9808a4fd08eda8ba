use Rattle.std.proofs.Common.{subst, [], ◌∷◌}
use Rattle.lxr_c_arrays.specs.Operations.{load_of}
use Rattle.lxr_c_arrays.specs.Running.{InTurn}
use Rattle.lxr_c_arrays.proofs.RunLemmas.{same_on}
use Rattle.lxr_c_arrays.proofs.steps.load.Goals as goal

pub returns-then-try_load-clause-runs : goal.returns-then-try_load-clause-runs
returns-then-try_load-clause-runs c = c.try_load.ensures.runs c.if-try_load.true

pub returns-clause-runs : goal.returns-clause-runs
returns-clause-runs c = subst (λ x. InTurn x (load_of c.args.dest c.args.base c.args.index ∷ []) c.load_aside.new.heap c.load_aside.result) (c.try_load.ensures.unchanged c.if-try_load.false) c.load_aside.ensures.runs

pub returns-clause-same : goal.returns-clause-same
returns-clause-same c = same_on c.args.heap.now c.try_load.new.heap c.load_aside.new.heap c.try_load.ensures.same c.load_aside.ensures.same
