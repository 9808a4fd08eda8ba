use Rattle.std.proofs.Common.{ap}
use Rattle.lxr_heap.specs.declared.heap.Heap.{Heap}
use Rattle.lxr_c_arrays.proofs.ThroughLemmas.{loads_leave, loads_planned}
use Rattle.lxr_c_arrays.proofs.steps.try_load_through.Goals as goal

pub returns-clause-plan : goal.returns-clause-plan
returns-clause-plan c = λ e.
    loads_planned c.args.heap.now c.try_load_through.new.self c.args.object.register c.args.at c.args.index c.args.own c.requires.serving c.requires.registers.1 c.requires.registers.2 c.args.dest c.requires.registers.0
    (c.try_load_through.ensures.loaded e)

pub returns-clause-unchanged : goal.returns-clause-unchanged
returns-clause-unchanged c = λ e. let x = c.args.heap.now in ap (λ (z : Heap). record x { heap = z }) (c.try_load_through.ensures.unchanged e)

pub returns-clause-same : goal.returns-clause-same
returns-clause-same c =
    (loads_leave c.args.heap.now c.try_load_through.new.self c.args.object.register c.args.at c.args.index c.args.own c.requires.serving c.requires.registers.1 c.requires.registers.2 c.args.dest c.requires.registers.0
    c.try_load_through.result c.try_load_through.ensures.loaded c.try_load_through.ensures.unchanged).1

pub returns-clause-serving : goal.returns-clause-serving
returns-clause-serving c =
    (loads_leave c.args.heap.now c.try_load_through.new.self c.args.object.register c.args.at c.args.index c.args.own c.requires.serving c.requires.registers.1 c.requires.registers.2 c.args.dest c.requires.registers.0
    c.try_load_through.result c.try_load_through.ensures.loaded c.try_load_through.ensures.unchanged).0
