use Rattle.std.proofs.Common.{◌≡◌, ap, subst, [], ◌∷◌}
use Rattle.lxr_graph.specs.declared.Op.TheVariants as op
use Rattle.lxr_heap.specs.declared.heap.Heap.{Heap}
use Rattle.lxr_c_base.specs.declared.codes.Code.TheVariants.{Done}
use Rattle.lxr_c_heap.proofs.TryingLemmas.{tried_serves}
use Rattle.lxr_c_arrays.specs.Operations.{load_of}
use Rattle.lxr_c_arrays.specs.Running.{InTurn}
use Rattle.lxr_c_arrays.proofs.StepLemmas.{tried_in_turn, tried_keeps}
use Rattle.lxr_c_arrays.proofs.steps.try_load.Goals as goal

pub returns-clause-runs : goal.returns-clause-runs
returns-clause-runs c = λ e.
    let x = c.args.heap.now in
    let same : c.from.result ≡ c.args.index = cc in
    subst (λ i. InTurn x (load_of c.args.dest c.args.base i ∷ []) (record x { heap = c.try_load.new.self }) Done) same
    (tried_in_turn x c.try_load.new.self (op.Load c.args.dest c.args.base c.from.result) (c.requires.registers, tt) (c.try_load.ensures.done e))

pub returns-clause-unchanged : goal.returns-clause-unchanged
returns-clause-unchanged c = λ e. let x = c.args.heap.now in ap (λ (z : Heap). record x { heap = z }) (c.try_load.ensures.unchanged e)

pub returns-clause-same : goal.returns-clause-same
returns-clause-same c =
    tried_keeps c.args.heap.now c.try_load.new.self (op.Load c.args.dest c.args.base c.from.result) (c.requires.registers, tt) c.try_load.result c.requires.serving.holds c.try_load.ensures.done c.try_load.ensures.unchanged

pub returns-clause-serving : goal.returns-clause-serving
returns-clause-serving c =
    tried_serves c.args.heap.now c.try_load.new.self (op.Load c.args.dest c.args.base c.from.result) (c.requires.registers, tt) c.try_load.result c.requires.serving c.try_load.ensures.done c.try_load.ensures.unchanged
