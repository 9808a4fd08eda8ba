use Rattle.std.proofs.Common.{arith}
use Rattle.lxr_graph.specs.declared.Op.TheVariants as op
use Rattle.lxr_large_model.specs.declared.LargeOp.TheVariants as large_op
use Rattle.lxr_c_heap.specs.Hosting.{registers_in}
use Rattle.lxr_c_heap.proofs.RegisterLemmas.{few_registers, known, made_keeps}
use Rattle.lxr_c_many.proofs.EntryLemmas.{asks_new, made_entry, new_fits, within}
use Rattle.lxr_c_many.proofs.entries.new_at.Goals as goal

pub overflow_cast-dest : goal.overflow_cast-dest
overflow_cast-dest c =
    let named = (new_fits (registers_in c.args.heap.now) c.args.entry.now c.requires.op c.requires.asks).0 in
    let few = few_registers c.args.heap.now c.requires.serving.holds in
    omega (arith, named, few)

pub overflow_cast-shape : goal.overflow_cast-shape
overflow_cast-shape c = let few = (new_fits (registers_in c.args.heap.now) c.args.entry.now c.requires.op c.requires.asks).1 in omega (arith, few)

pub overflow_cast-shape-2 : goal.overflow_cast-shape-2
overflow_cast-shape-2 c = let few = (new_fits (registers_in c.args.heap.now) c.args.entry.now c.requires.op c.requires.asks).2 in omega (arith, few)

pub make-requires-clause-op : goal.make-requires-clause-op
make-requires-clause-op c = ((within c.args.heap.now _ c.requires.serving ((new_fits (registers_in c.args.heap.now) c.args.entry.now c.requires.op c.requires.asks).0), ((new_fits (registers_in c.args.heap.now) c.args.entry.now c.requires.op c.requires.asks).1, (new_fits (registers_in c.args.heap.now) c.args.entry.now c.requires.op c.requires.asks).2)), tt)

pub returns-clause-registers : goal.returns-clause-registers
returns-clause-registers c = known c.args.heap.now _ _ c.requires.serving.holds (λ h is. made_keeps c.args.heap.now c.make.new.self h _ c.make.result (c.make.ensures.makes h is))

pub returns-clause-performs : goal.returns-clause-performs
returns-clause-performs c =
    let x = c.args.heap.now in
    let e = c.args.entry.now in
    made_entry x e c.make.new.self (large_op.Small (op.New e.a (record { refs = e.b; values = e.c }))) c.make.result c.told_by.result c.tell.new.entry c.tell.result (asks_new (registers_in x) e c.requires.op (new_fits (registers_in c.args.heap.now) c.args.entry.now c.requires.op c.requires.asks).0 (new_fits (registers_in c.args.heap.now) c.args.entry.now c.requires.op c.requires.asks).1 (new_fits (registers_in c.args.heap.now) c.args.entry.now c.requires.op c.requires.asks).2) c.make.ensures.makes c.told_by.ensures c.tell.ensures.told c.tell.ensures.code
