use Rattle.std.proofs.Common.{◌∙◌, ap, refl, sym, subst}
use Rattle.std.proofs.lemmas.Option.{same_Some}
use Rattle.lxr_graph.specs.declared.Op.TheVariants as op
use Rattle.lxr_c_base.specs.Requests as asking
use Rattle.lxr_c_base.specs.Requests.{register_of}
use Rattle.lxr_c_heap.specs.Hosting.{IsServing}
use Rattle.lxr_c_heap.specs.Keeping.{registers_kept}
use Rattle.lxr_c_heap.proofs.RegisterLemmas.{still_counted}
use Rattle.lxr_c_heap.proofs.TryingLemmas.{asked_put, misses_field, named_within, tried_calls, tried_serves}
use Rattle.lxr_c_heap.proofs.handle.Handle.try_put.Goals as goal

pub try_put-requires : goal.try_put-requires
try_put-requires c = record { base = named_within c.args.self.now.block.value c.lend.result.now c.registers.result c.in-Ok.base c.lend.ensures.heap c.registers.ensures.counted c.in-Ok.ensures.named (c.args.self.now.serving c.lend.result.now c.lend.ensures.heap) }

pub invariant_of-self-clause-counted : goal.invariant_of-self-clause-counted
invariant_of-self-clause-counted c =
    let x = c.lend.result.now in
    still_counted c.args.self.now.block.value x (record x { heap = c.try_put.new.self }) _ c.args.self.now.counted c.lend.ensures.heap refl

pub invariant_of-self-clause-serving : goal.invariant_of-self-clause-serving
invariant_of-self-clause-serving c = λ z is.
    let x = c.lend.result.now in
    subst IsServing (same_Some (record x { heap = c.try_put.new.self }) z is)
    (tried_serves x c.try_put.new.self (op.Put c.in-Ok.base c.args.index c.args.value) (named_within c.args.self.now.block.value c.lend.result.now c.registers.result c.in-Ok.base c.lend.ensures.heap c.registers.ensures.counted c.in-Ok.ensures.named (c.args.self.now.serving c.lend.result.now c.lend.ensures.heap), tt) c.try_put.result (c.args.self.now.serving x c.lend.ensures.heap) c.try_put.ensures.done c.try_put.ensures.unchanged)

pub returns-in-Ok-clause-done : goal.returns-in-Ok-clause-done
returns-in-Ok-clause-done c = λ e.
    let x = c.lend.result.now in
    tried_calls x c.try_put.new.self (op.Put c.in-Ok.base c.args.index c.args.value) (named_within c.args.self.now.block.value c.lend.result.now c.registers.result c.in-Ok.base c.lend.ensures.heap c.registers.ensures.counted c.in-Ok.ensures.named (c.args.self.now.serving c.lend.result.now c.lend.ensures.heap), tt) c.args.self.now.block.value (asking.put (registers_kept c.args.self.now.block.value) c.args.base c.args.index c.args.value) c.lend.ensures.heap
    (asked_put (registers_kept c.args.self.now.block.value) c.args.base c.args.index c.in-Ok.base (sym (ap (λ n. register_of n c.args.base) c.registers.ensures.counted) ∙ sym c.register_of.ensures.asked ∙ c.in-Ok.is) (c.try_put.ensures.small e) c.args.value)
    (c.try_put.ensures.done e)

pub returns-in-Ok-clause-misses : goal.returns-in-Ok-clause-misses
returns-in-Ok-clause-misses c = λ e few.
    misses_field c.args.self.now.block.value c.lend.result.now (asking.put (registers_kept c.args.self.now.block.value) c.args.base c.args.index c.args.value) (op.Put c.in-Ok.base c.args.index c.args.value) c.lend.ensures.heap
    (asked_put (registers_kept c.args.self.now.block.value) c.args.base c.args.index c.in-Ok.base (sym (ap (λ n. register_of n c.args.base) c.registers.ensures.counted) ∙ sym c.register_of.ensures.asked ∙ c.in-Ok.is) few c.args.value)
    (λ h at. c.try_put.ensures.misses e h at.heap)
