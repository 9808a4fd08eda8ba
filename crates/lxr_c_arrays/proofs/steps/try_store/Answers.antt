use Rattle.std.proofs.Common.{◌≡◌, ap, subst, sym, [], ◌∷◌}
use Rattle.lxr_c_base.specs.declared.codes.Code.TheVariants.{Done}
use Rattle.lxr_c_heap.specs.declared.host.HostHeap.{HostHeap}
use Rattle.lxr_c_heap.specs.Hosting.{IsServing, all_registers_in}
use Rattle.lxr_c_heap.proofs.AsideLemmas.{stored_serves}
use Rattle.lxr_c_arrays.specs.Operations.{store_of}
use Rattle.lxr_c_arrays.specs.Running.{InTurn, SameRegisters}
use Rattle.lxr_c_arrays.proofs.StepLemmas.{tried_stored, tried_stored_keeps}
use Rattle.lxr_c_arrays.proofs.steps.try_store.Goals as goal

pub returns-clause-runs : goal.returns-clause-runs
returns-clause-runs c = λ e.
    let x = c.args.heap.now in
    let same : c.from.result ≡ c.args.index = cc in
    subst (λ (z : HostHeap). InTurn x (store_of c.args.base c.args.index c.args.source ∷ []) z Done) (sym c.try_store.ensures.rest)
    (subst (λ i. InTurn x (store_of c.args.base i c.args.source ∷ []) (record x { heap = c.try_store.new.self.heap }) Done) same
    (tried_stored x c.try_store.new.self.heap c.args.base c.from.result c.args.source (c.try_store.ensures.early e) (c.try_store.ensures.done e)))

pub returns-clause-same : goal.returns-clause-same
returns-clause-same c =
    let x = c.args.heap.now in
    subst (SameRegisters x) (sym c.try_store.ensures.rest)
    (tried_stored_keeps x c.try_store.new.self.heap c.args.base c.from.result c.args.source c.try_store.result c.requires.serving.holds c.try_store.ensures.early c.try_store.ensures.done (λ e. ap (λ (z : HostHeap). z.heap) (c.try_store.ensures.unchanged e)))

pub returns-clause-serving : goal.returns-clause-serving
returns-clause-serving c =
    let x = c.args.heap.now in
    subst IsServing (sym c.try_store.ensures.rest)
    (stored_serves x c.try_store.new.self.heap c.args.base c.from.result c.args.source c.try_store.result (all_registers_in x, (c.requires.registers, tt)) c.requires.serving c.try_store.ensures.early c.try_store.ensures.done
    (λ e. ap (λ (z : HostHeap). z.heap) (c.try_store.ensures.unchanged e)))
