use Rattle.std.proofs.Common.{◌∙◌, ◌<◌, ◌^◌, ap, refl, sym, List}
use Rattle.lxr_graph.specs.declared.Op.TheVariants as op
use Rattle.lxr_graph.specs.declared.Reply.TheVariants as reply
use Rattle.lxr_large_model.specs.declared.LargeOp.TheVariants as large_op
use Rattle.lxr_large_model.specs.declared.LargeReply.TheVariants as large_reply
use Rattle.lxr_large_model.specs.History.{LargeItem, large_state}
use Rattle.lxr_large_model.specs.Step.{IsLargeReply}
use Rattle.lxr_heap.specs.Holding.{IsHeapOf}
use Rattle.lxr_heap.specs.Trying as heap
use Rattle.lxr_c_base.specs.Requests as asking
use Rattle.lxr_c_base.specs.Requests.{register_of}
use Rattle.lxr_c_heap.specs.Keeping.{registers_kept}
use Rattle.lxr_c_heap.specs.Trying.{Finds, Misses}
use Rattle.lxr_c_heap.proofs.RegisterLemmas.{still_counted}
use Rattle.lxr_c_heap.proofs.TryingLemmas.{asked_get, finds_field, misses_field, none_then, some_both}
use Rattle.lxr_c_heap.proofs.handle.Handle.try_get.Goals as goal

pub invariant_of-self-clause-counted : goal.invariant_of-self-clause-counted
invariant_of-self-clause-counted c = still_counted c.args.self.now.block.value c.lend.result.now c.lend.result.now _ c.args.self.now.counted c.lend.ensures.heap refl

pub invariant_of-self-clause-serving : goal.invariant_of-self-clause-serving
invariant_of-self-clause-serving c = λ x is. c.args.self.now.serving x (c.lend.ensures.heap ∙ is)

pub returns-in-Ok-clause-got : goal.returns-in-Ok-clause-got
returns-in-Ok-clause-got c =
    let x = c.lend.result.now in
    some_both (λ w. c.args.index < 2 ^ 16)
    (λ w. (h : List LargeItem) → IsHeapOf x.heap h → IsLargeReply (large_state h) (large_op.Small (op.Get c.in-Ok.base c.args.index)) (large_reply.Small (reply.Got w)))
    (Finds c.args.self.now.block.value (asking.get (registers_kept c.args.self.now.block.value) c.args.base c.args.index)) c.try_get.result c.try_get.ensures.small c.try_get.ensures.got (λ w few each.
    finds_field c.args.self.now.block.value x (asking.get (registers_kept c.args.self.now.block.value) c.args.base c.args.index) (op.Get c.in-Ok.base c.args.index) w c.lend.ensures.heap
    (asked_get (registers_kept c.args.self.now.block.value) c.args.base c.args.index c.in-Ok.base (sym (ap (λ n. register_of n c.args.base) c.registers.ensures.counted) ∙ sym c.register_of.ensures.asked ∙ c.in-Ok.is) few)
    each)

pub returns-in-Ok-clause-misses : goal.returns-in-Ok-clause-misses
returns-in-Ok-clause-misses c =
    let x = c.lend.result.now in
    none_then ((h : List LargeItem) → IsHeapOf x.heap h → heap.Misses h (op.Get c.in-Ok.base c.args.index))
    (c.args.index < 2 ^ 16 → Misses c.args.self.now.block.value (asking.get (registers_kept c.args.self.now.block.value) c.args.base c.args.index)) c.try_get.result c.try_get.ensures.misses (λ each few.
    misses_field c.args.self.now.block.value x (asking.get (registers_kept c.args.self.now.block.value) c.args.base c.args.index) (op.Get c.in-Ok.base c.args.index) c.lend.ensures.heap
    (asked_get (registers_kept c.args.self.now.block.value) c.args.base c.args.index c.in-Ok.base (sym (ap (λ n. register_of n c.args.base) c.registers.ensures.counted) ∙ sym c.register_of.ensures.asked ∙ c.in-Ok.is) few)
    (λ h at. each h at.heap))
