use Rattle.std.proofs.Common.{arith}
use Rattle.lxr_graph.specs.declared.Op.TheVariants as op
use Rattle.lxr_large_model.specs.declared.LargeOp.TheVariants as large_op
use Rattle.lxr_c_heap.specs.Hosting.{registers_in}
use Rattle.lxr_c_heap.proofs.RegisterLemmas.{few_registers}
use Rattle.lxr_c_many.proofs.EntryLemmas.{asks_get, get_fits, got_entry}
use Rattle.lxr_c_many.proofs.entries.get_at.Goals as goal

pub overflow_cast-entry : goal.overflow_cast-entry
overflow_cast-entry c =
    let named = get_fits (registers_in c.args.heap.now) c.args.entry.now c.requires.op c.requires.asks in
    let few = few_registers c.args.heap.now c.requires.serving.holds in
    omega (arith, named, few)

pub returns-in-Some-clause-performs : goal.returns-in-Some-clause-performs
returns-in-Some-clause-performs c =
    let x = c.args.heap.now in
    let e = c.args.entry.now in
    got_entry x e (large_op.Small (op.Get e.a e.b)) c.in-Some.found (asks_get (registers_in x) e c.requires.op (get_fits (registers_in c.args.heap.now) c.args.entry.now c.requires.op c.requires.asks) c.in-Some.ensures.small) c.in-Some.ensures.got
