use Rattle.std.proofs.Common.{◌∙◌, ap, refl, sym, Some}
use Rattle.lxr_c_base.specs.Requests.{register_of}
use Rattle.lxr_c_heap.specs.Keeping.{registers_kept}
use Rattle.lxr_c_heap.specs.Looking.{SeesShape}
use Rattle.lxr_c_heap.proofs.RegisterLemmas.{still_counted}
use Rattle.lxr_c_heap.proofs.CallLemmas.{looks_seen}
use Rattle.lxr_c_heap.proofs.handle.Handle.shape.Goals as goal

pub invariant_of-self-clause-counted : goal.invariant_of-self-clause-counted
invariant_of-self-clause-counted c =
    still_counted c.args.self.now.block.value c.lend.result.now c.lend.result.now _ c.args.self.now.counted c.lend.ensures.heap refl

pub invariant_of-self-clause-serving : goal.invariant_of-self-clause-serving
invariant_of-self-clause-serving c = λ x is. c.args.self.now.serving x (c.lend.ensures.heap ∙ is)

pub returns : goal.returns
returns c =
    looks_seen SeesShape c.args.self.now.block.value (Some c.lend.result.now) c.lend.result.now (register_of (registers_kept c.args.self.now.block.value) c.args.base) c.in_ok-base.base c.shape.result c.lend.ensures.heap refl (sym (ap (λ n. register_of n c.args.base) c.registers.ensures.counted) ∙ sym c.register_of.ensures.asked ∙ c.in_ok-base.was) c.shape.ensures
