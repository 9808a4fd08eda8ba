use Rattle.std.proofs.Common.{arith}
use Rattle.lxr_graph.specs.declared.Op.TheVariants as op
use Rattle.lxr_large_model.specs.declared.LargeOp.TheVariants as large_op
use Rattle.lxr_c_heap.specs.Hosting.{registers_in}
use Rattle.lxr_c_heap.proofs.RegisterLemmas.{few_registers}
use Rattle.lxr_c_many.proofs.EntryLemmas.{asks_same, same_fits, seen_entry}
use Rattle.lxr_c_many.proofs.entries.same_at.Goals as goal

pub overflow_cast-left : goal.overflow_cast-left
overflow_cast-left c =
    let named = (same_fits (registers_in c.args.heap.now) c.args.entry.now c.requires.op c.requires.asks).0 in
    let few = few_registers c.args.heap.now c.requires.serving.holds in
    omega (arith, named, few)

pub overflow_cast-right : goal.overflow_cast-right
overflow_cast-right c =
    let named = (same_fits (registers_in c.args.heap.now) c.args.entry.now c.requires.op c.requires.asks).1 in
    let few = few_registers c.args.heap.now c.requires.serving.holds in
    omega (arith, named, few)

pub returns-clause-performs : goal.returns-clause-performs
returns-clause-performs c =
    let x = c.args.heap.now in
    let e = c.args.entry.now in
    seen_entry x e (large_op.Small (op.Same e.a e.b)) c.see.result c.told_by.result c.tell.new.entry c.tell.result (asks_same (registers_in x) e c.requires.op (same_fits (registers_in c.args.heap.now) c.args.entry.now c.requires.op c.requires.asks).0 (same_fits (registers_in c.args.heap.now) c.args.entry.now c.requires.op c.requires.asks).1) c.see.ensures c.told_by.ensures c.tell.ensures.told c.tell.ensures.code
