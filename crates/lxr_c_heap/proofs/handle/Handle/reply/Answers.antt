use Rattle.std.proofs.Common.{refl, Some, subst}
use Rattle.std.proofs.lemmas.Option.{same_Some}
use Rattle.std.specs.Prelude.{IfOk}
use Rattle.lxr_c_base.specs.Requests.{IsQuiet}
use Rattle.lxr_c_heap.specs.Keeping.{registers_kept}
use Rattle.lxr_c_heap.specs.Hosting.{IsServing, Replies, all_registers_in, registers_in}
use Rattle.lxr_c_heap.proofs.OperationLemmas.{quiet_more}
use Rattle.lxr_c_heap.proofs.RegisterLemmas.{known, named_few, replied_keeps, still_counted}
use Rattle.lxr_c_heap.proofs.CallLemmas.{asks_done}
use Rattle.lxr_c_heap.proofs.handle.Handle.reply.Goals as goal

pub reply-requires-clause-serving : goal.reply-requires-clause-serving
reply-requires-clause-serving c = c.args.self.now.serving c.lend.result.now c.lend.ensures.heap

pub reply-requires-clause-op : goal.reply-requires-clause-op
reply-requires-clause-op c =
    let x = c.lend.result.now in
    quiet_more (registers_in x) (all_registers_in x) c.in_ok-op.op (named_few x (c.args.self.now.serving x c.lend.ensures.heap).holds)
    (subst (λ k. IsQuiet (registers_kept k) c.in_ok-op.op) c.lend.ensures.heap (subst (λ q. IfOk q (IsQuiet (registers_kept c.args.self.now.block.value))) c.in_ok-op.was c.requires))

pub invariant_of-self-clause-counted : goal.invariant_of-self-clause-counted
invariant_of-self-clause-counted c =
    let x = c.lend.result.now in
    still_counted c.args.self.now.block.value x c.reply.new.self _ c.args.self.now.counted c.lend.ensures.heap (known x _ _ (c.args.self.now.serving x c.lend.ensures.heap).holds (λ h is. replied_keeps x c.reply.new.self h c.in_ok-op.op c.reply.result (c.reply.ensures.replies h is.heap)))

pub invariant_of-self-clause-serving : goal.invariant_of-self-clause-serving
invariant_of-self-clause-serving c = λ x is. subst IsServing (same_Some c.reply.new.self x is) c.reply.ensures.serving

pub returns : goal.returns
returns c =
    asks_done Replies c.args.self.now.block.value (Some c.reply.new.self) c.lend.result.now c.reply.new.self c.args.request c.in_ok-op.op c.reply.result c.lend.ensures.heap refl c.in_ok-op.was (λ h is. c.reply.ensures.replies h is.heap)
