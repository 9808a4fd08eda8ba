use Rattle.std.proofs.Common.{arith}
use Rattle.lxr_graph.specs.declared.Op.TheVariants as op
use Rattle.lxr_large_model.specs.declared.LargeOp.TheVariants as large_op
use Rattle.lxr_c_heap.specs.Hosting.{registers_in}
use Rattle.lxr_c_heap.proofs.RegisterLemmas.{few_registers, known, replied_keeps}
use Rattle.lxr_c_many.proofs.EntryLemmas.{asks_nil, nil_fits_at, replied_entry, within}
use Rattle.lxr_c_many.proofs.entries.nil_at.Goals as goal

pub overflow_cast-dest : goal.overflow_cast-dest
overflow_cast-dest c =
    let named = nil_fits_at (registers_in c.args.heap.now) c.args.entry.now c.requires.op c.requires.asks in
    let few = few_registers c.args.heap.now c.requires.serving.holds in
    omega (arith, named, few)

pub reply-requires-clause-op : goal.reply-requires-clause-op
reply-requires-clause-op c = (within c.args.heap.now _ c.requires.serving (nil_fits_at (registers_in c.args.heap.now) c.args.entry.now c.requires.op c.requires.asks), tt)

pub returns-clause-registers : goal.returns-clause-registers
returns-clause-registers c = known c.args.heap.now _ _ c.requires.serving.holds (λ h is. replied_keeps c.args.heap.now c.reply.new.self h _ c.reply.result (c.reply.ensures.replies h is.heap))

pub returns-clause-performs : goal.returns-clause-performs
returns-clause-performs c =
    let x = c.args.heap.now in
    let e = c.args.entry.now in
    replied_entry x e c.reply.new.self (large_op.Small (op.Nil e.a)) c.reply.result c.told_by.result c.tell.new.entry c.tell.result (asks_nil (registers_in x) e c.requires.op (nil_fits_at (registers_in c.args.heap.now) c.args.entry.now c.requires.op c.requires.asks)) c.reply.ensures.replies c.told_by.ensures c.tell.ensures.told c.tell.ensures.code
