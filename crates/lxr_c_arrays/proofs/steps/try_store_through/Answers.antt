use Rattle.std.proofs.Common.{ap, subst, sym, [], ◌∷◌}
use Rattle.lxr_c_base.specs.declared.codes.Code.TheVariants.{Done}
use Rattle.lxr_c_heap.specs.declared.host.HostHeap.{HostHeap}
use Rattle.lxr_c_heap.specs.Hosting.{IsServing}
use Rattle.lxr_c_arrays.specs.Operations.{load_of, nil_of, store_of}
use Rattle.lxr_c_arrays.specs.Running.{InPlan, SameRegisters}
use Rattle.lxr_c_arrays.proofs.ThroughLemmas.{stores_leave, stores_planned}
use Rattle.lxr_c_arrays.proofs.steps.try_store_through.Goals as goal

pub returns-clause-plan : goal.returns-clause-plan
returns-clause-plan c = λ e.
    let x = c.args.heap.now in
    subst (λ (z : HostHeap). InPlan x (record { steps = load_of c.args.own c.args.object.register c.args.at ∷ store_of c.args.own c.args.index c.args.source ∷ []; last = nil_of c.args.own ∷ [] }) z Done)
    (sym c.try_store_through.ensures.rest)
    (stores_planned x c.try_store_through.new.self.heap c.args.object.register c.args.at c.args.index c.args.own c.requires.serving c.requires.registers.1 c.requires.registers.2 c.args.source c.requires.registers.0
    (c.try_store_through.ensures.early e) (c.try_store_through.ensures.stored e))

pub returns-clause-same : goal.returns-clause-same
returns-clause-same c =
    let x = c.args.heap.now in
    subst (SameRegisters x) (sym c.try_store_through.ensures.rest)
    (stores_leave x c.try_store_through.new.self.heap c.args.object.register c.args.at c.args.index c.args.own c.requires.serving c.requires.registers.1 c.requires.registers.2 c.args.source c.requires.registers.0
    c.try_store_through.result c.try_store_through.ensures.early c.try_store_through.ensures.stored (λ e. ap (λ (z : HostHeap). z.heap) (c.try_store_through.ensures.unchanged e))).1

pub returns-clause-serving : goal.returns-clause-serving
returns-clause-serving c =
    let x = c.args.heap.now in
    subst IsServing (sym c.try_store_through.ensures.rest)
    (stores_leave x c.try_store_through.new.self.heap c.args.object.register c.args.at c.args.index c.args.own c.requires.serving c.requires.registers.1 c.requires.registers.2 c.args.source c.requires.registers.0
    c.try_store_through.result c.try_store_through.ensures.early c.try_store_through.ensures.stored (λ e. ap (λ (z : HostHeap). z.heap) (c.try_store_through.ensures.unchanged e))).0
