use Rattle.std.proofs.Common.{◌∙◌, ap, refl, sym, subst}
use Rattle.std.proofs.lemmas.Option.{same_Some}
use Rattle.lxr_graph.specs.declared.Op.TheVariants as op
use Rattle.lxr_c_base.specs.Requests as asking
use Rattle.lxr_c_base.specs.Requests.{register_of}
use Rattle.lxr_c_heap.specs.Hosting.{IsServing}
use Rattle.lxr_c_heap.specs.Keeping.{registers_kept}
use Rattle.lxr_c_heap.proofs.RegisterLemmas.{still_counted}
use Rattle.lxr_c_heap.proofs.TryingLemmas.{asked_load, misses_field, named_within, tried_calls, tried_serves}
use Rattle.lxr_c_heap.proofs.handle.Handle.try_load.Goals as goal

pub try_load-requires-clause-dest : goal.try_load-requires-clause-dest
try_load-requires-clause-dest c = named_within c.args.self.now.block.value c.lend.result.now c.registers-registers.result c.in-Ok.dest c.lend.ensures.heap c.registers-registers.ensures.counted c.in-Ok.ensures.named (c.args.self.now.serving c.lend.result.now c.lend.ensures.heap)

pub try_load-requires-clause-base : goal.try_load-requires-clause-base
try_load-requires-clause-base c = named_within c.args.self.now.block.value c.lend.result.now c.registers-registers.result c.in-Ok-register_of.base c.lend.ensures.heap c.registers-registers.ensures.counted c.in-Ok-register_of.ensures.named (c.args.self.now.serving c.lend.result.now c.lend.ensures.heap)

pub invariant_of-self-clause-counted : goal.invariant_of-self-clause-counted
invariant_of-self-clause-counted c =
    let x = c.lend.result.now in
    still_counted c.args.self.now.block.value x (record x { heap = c.try_load.new.self }) _ c.args.self.now.counted c.lend.ensures.heap refl

pub invariant_of-self-clause-serving : goal.invariant_of-self-clause-serving
invariant_of-self-clause-serving c = λ z is.
    let x = c.lend.result.now in
    subst IsServing (same_Some (record x { heap = c.try_load.new.self }) z is)
    (tried_serves x c.try_load.new.self (op.Load c.in-Ok.dest c.in-Ok-register_of.base c.args.index) ((named_within c.args.self.now.block.value c.lend.result.now c.registers-registers.result c.in-Ok.dest c.lend.ensures.heap c.registers-registers.ensures.counted c.in-Ok.ensures.named (c.args.self.now.serving c.lend.result.now c.lend.ensures.heap), named_within c.args.self.now.block.value c.lend.result.now c.registers-registers.result c.in-Ok-register_of.base c.lend.ensures.heap c.registers-registers.ensures.counted c.in-Ok-register_of.ensures.named (c.args.self.now.serving c.lend.result.now c.lend.ensures.heap)), tt) c.try_load.result (c.args.self.now.serving x c.lend.ensures.heap) c.try_load.ensures.done c.try_load.ensures.unchanged)

pub returns-in-Ok-register_of-clause-done : goal.returns-in-Ok-register_of-clause-done
returns-in-Ok-register_of-clause-done c = λ e.
    let x = c.lend.result.now in
    tried_calls x c.try_load.new.self (op.Load c.in-Ok.dest c.in-Ok-register_of.base c.args.index) ((named_within c.args.self.now.block.value c.lend.result.now c.registers-registers.result c.in-Ok.dest c.lend.ensures.heap c.registers-registers.ensures.counted c.in-Ok.ensures.named (c.args.self.now.serving c.lend.result.now c.lend.ensures.heap), named_within c.args.self.now.block.value c.lend.result.now c.registers-registers.result c.in-Ok-register_of.base c.lend.ensures.heap c.registers-registers.ensures.counted c.in-Ok-register_of.ensures.named (c.args.self.now.serving c.lend.result.now c.lend.ensures.heap)), tt) c.args.self.now.block.value (asking.load (registers_kept c.args.self.now.block.value) c.args.dest c.args.base c.args.index) c.lend.ensures.heap
    (asked_load (registers_kept c.args.self.now.block.value) c.args.base c.args.index c.in-Ok-register_of.base (sym (ap (λ n. register_of n c.args.base) c.registers-registers.ensures.counted) ∙ sym c.register_of-in-Ok.ensures.asked ∙ c.in-Ok-register_of.is) (c.try_load.ensures.small e) c.args.dest c.in-Ok.dest (sym (ap (λ n. register_of n c.args.dest) c.registers-registers.ensures.counted) ∙ sym c.register_of.ensures.asked ∙ c.in-Ok.is))
    (c.try_load.ensures.done e)

pub returns-in-Ok-register_of-clause-misses : goal.returns-in-Ok-register_of-clause-misses
returns-in-Ok-register_of-clause-misses c = λ e few.
    misses_field c.args.self.now.block.value c.lend.result.now (asking.load (registers_kept c.args.self.now.block.value) c.args.dest c.args.base c.args.index) (op.Load c.in-Ok.dest c.in-Ok-register_of.base c.args.index) c.lend.ensures.heap
    (asked_load (registers_kept c.args.self.now.block.value) c.args.base c.args.index c.in-Ok-register_of.base (sym (ap (λ n. register_of n c.args.base) c.registers-registers.ensures.counted) ∙ sym c.register_of-in-Ok.ensures.asked ∙ c.in-Ok-register_of.is) few c.args.dest c.in-Ok.dest (sym (ap (λ n. register_of n c.args.dest) c.registers-registers.ensures.counted) ∙ sym c.register_of.ensures.asked ∙ c.in-Ok.is))
    (λ h at. c.try_load.ensures.misses e h at.heap)
