use Rattle.std.proofs.Common.{◌≡◌, ◌∙◌, ap, refl, sym, subst, Some}
use Rattle.std.proofs.lemmas.Option.{same_Some}
use Rattle.lxr_c_base.specs.Requests as asking
use Rattle.lxr_c_base.specs.Requests.{register_of}
use Rattle.lxr_c_heap.specs.Calling.{Calls}
use Rattle.lxr_c_heap.specs.Hosting.{IsServing, Stores, all_registers_in}
use Rattle.lxr_c_heap.specs.Keeping.{registers_kept}
use Rattle.lxr_c_heap.proofs.AsideLemmas.{aside_field, asked_store, stored_calls, stored_serves}
use Rattle.lxr_c_heap.proofs.RegisterLemmas.{still_counted}
use Rattle.lxr_c_heap.proofs.TryingLemmas.{named_within}
use Rattle.lxr_c_heap.proofs.handle.Handle.try_store.Goals as goal

pub try_store-requires-clause-base : goal.try_store-requires-clause-base
try_store-requires-clause-base c = (named_within c.args.self.now.block.value c.lend.result.now c.registers-registers.result c.in-Ok.base c.lend.ensures.heap c.registers-registers.ensures.counted c.in-Ok.ensures.named (c.args.self.now.serving c.lend.result.now c.lend.ensures.heap))

pub try_store-requires-clause-source : goal.try_store-requires-clause-source
try_store-requires-clause-source c = (named_within c.args.self.now.block.value c.lend.result.now c.registers-registers.result c.in-Ok-register_of.source c.lend.ensures.heap c.registers-registers.ensures.counted c.in-Ok-register_of.ensures.named (c.args.self.now.serving c.lend.result.now c.lend.ensures.heap))

pub invariant_of-self-clause-counted : goal.invariant_of-self-clause-counted
invariant_of-self-clause-counted c =
    let x = c.lend.result.now in
    subst (λ z. registers_kept (Some z) ≡ c.args.self.now.registers) (sym c.try_store.ensures.rest)
    (still_counted c.args.self.now.block.value x (record x { heap = c.try_store.new.self.heap }) _ c.args.self.now.counted c.lend.ensures.heap refl)

pub invariant_of-self-clause-serving : goal.invariant_of-self-clause-serving
invariant_of-self-clause-serving c = λ z is.
    let x = c.lend.result.now in
    subst IsServing (sym c.try_store.ensures.rest ∙ same_Some c.try_store.new.self z is)
    (stored_serves x c.try_store.new.self.heap c.in-Ok.base c.args.index c.in-Ok-register_of.source c.try_store.result
    (all_registers_in x, (((named_within c.args.self.now.block.value c.lend.result.now c.registers-registers.result c.in-Ok.base c.lend.ensures.heap c.registers-registers.ensures.counted c.in-Ok.ensures.named (c.args.self.now.serving c.lend.result.now c.lend.ensures.heap)), (named_within c.args.self.now.block.value c.lend.result.now c.registers-registers.result c.in-Ok-register_of.source c.lend.ensures.heap c.registers-registers.ensures.counted c.in-Ok-register_of.ensures.named (c.args.self.now.serving c.lend.result.now c.lend.ensures.heap))), tt)) (c.args.self.now.serving x c.lend.ensures.heap) c.try_store.ensures.early c.try_store.ensures.done
    (λ e. ap (λ z. z.heap) (c.try_store.ensures.unchanged e)))

pub returns-in-Ok-register_of-clause-done : goal.returns-in-Ok-register_of-clause-done
returns-in-Ok-register_of-clause-done c = λ e.
    let x = c.lend.result.now in
    subst (λ z. Calls Stores c.args.self.now.block.value (Some z) (asking.store (registers_kept c.args.self.now.block.value) c.args.base c.args.index c.args.source) 0) (sym c.try_store.ensures.rest)
    (stored_calls x c.try_store.new.self.heap c.in-Ok.base c.args.index c.in-Ok-register_of.source c.args.self.now.block.value (asking.store (registers_kept c.args.self.now.block.value) c.args.base c.args.index c.args.source) c.lend.ensures.heap
    (asked_store (registers_kept c.args.self.now.block.value) c.args.base c.args.index c.in-Ok.base (sym (ap (λ n. register_of n c.args.base) c.registers-registers.ensures.counted) ∙ sym c.register_of.ensures.asked ∙ c.in-Ok.is) (c.try_store.ensures.small e) c.args.source c.in-Ok-register_of.source (sym (ap (λ n. register_of n c.args.source) c.registers-registers.ensures.counted) ∙ sym c.register_of-in-Ok.ensures.asked ∙ c.in-Ok-register_of.is))
    (c.try_store.ensures.early e) (c.try_store.ensures.done e))

pub returns-in-Ok-register_of-clause-aside : goal.returns-in-Ok-register_of-clause-aside
returns-in-Ok-register_of-clause-aside c = λ e few.
    aside_field c.args.self.now.block.value c.lend.result.now (asking.store (registers_kept c.args.self.now.block.value) c.args.base c.args.index c.args.source) c.in-Ok.base c.args.index c.in-Ok-register_of.source c.lend.ensures.heap
    (asked_store (registers_kept c.args.self.now.block.value) c.args.base c.args.index c.in-Ok.base (sym (ap (λ n. register_of n c.args.base) c.registers-registers.ensures.counted) ∙ sym c.register_of.ensures.asked ∙ c.in-Ok.is) few c.args.source c.in-Ok-register_of.source (sym (ap (λ n. register_of n c.args.source) c.registers-registers.ensures.counted) ∙ sym c.register_of-in-Ok.ensures.asked ∙ c.in-Ok-register_of.is))
    (c.try_store.ensures.aside e)
