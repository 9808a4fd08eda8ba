use Rattle.std.proofs.Common.{ap, arith}
use Rattle.lxr_graph.specs.declared.Op.TheVariants as op
use Rattle.lxr_c_heap.specs.Hosting.{registers_in}
use Rattle.lxr_c_heap.proofs.RegisterLemmas.{few_registers}
use Rattle.lxr_c_heap.proofs.TryingLemmas.{tried_serves}
use Rattle.lxr_c_many.proofs.EntryLemmas.{after_try, asks_load, load_fits, tried_entry, within}
use Rattle.lxr_c_many.proofs.entries.load_at.Goals as goal

pub overflow_cast-entry : goal.overflow_cast-entry
overflow_cast-entry c =
    let named = (load_fits (registers_in c.args.heap.now) c.args.entry.now c.requires.op c.requires.asks).0 in
    let few = few_registers c.args.heap.now c.requires.serving.holds in
    omega (arith, named, few)

pub overflow_cast-entry-2 : goal.overflow_cast-entry-2
overflow_cast-entry-2 c =
    let named = (load_fits (registers_in c.args.heap.now) c.args.entry.now c.requires.op c.requires.asks).1 in
    let few = few_registers c.args.heap.now c.requires.serving.holds in
    omega (arith, named, few)

pub try_load-requires-clause-dest : goal.try_load-requires-clause-dest
try_load-requires-clause-dest c = within c.args.heap.now _ c.requires.serving ((load_fits (registers_in c.args.heap.now) c.args.entry.now c.requires.op c.requires.asks).0)

pub try_load-requires-clause-base : goal.try_load-requires-clause-base
try_load-requires-clause-base c = within c.args.heap.now _ c.requires.serving ((load_fits (registers_in c.args.heap.now) c.args.entry.now c.requires.op c.requires.asks).1)

pub returns-then-try_load-clause-performs : goal.returns-then-try_load-clause-performs
returns-then-try_load-clause-performs c =
    let x = c.args.heap.now in
    let e = c.args.entry.now in
    tried_entry x e c.try_load.new.self (op.Load e.a e.b e.c) ((within c.args.heap.now _ c.requires.serving ((load_fits (registers_in c.args.heap.now) c.args.entry.now c.requires.op c.requires.asks).0), within c.args.heap.now _ c.requires.serving ((load_fits (registers_in c.args.heap.now) c.args.entry.now c.requires.op c.requires.asks).1)), tt) (asks_load (registers_in x) e c.requires.op (load_fits (registers_in c.args.heap.now) c.args.entry.now c.requires.op c.requires.asks).0 (load_fits (registers_in c.args.heap.now) c.args.entry.now c.requires.op c.requires.asks).1 (c.try_load.ensures.small c.if-try_load.true)) (c.try_load.ensures.done c.if-try_load.true)

pub returns-then-try_load-clause-serving : goal.returns-then-try_load-clause-serving
returns-then-try_load-clause-serving c =
    let e = c.args.entry.now in
    tried_serves c.args.heap.now c.try_load.new.self (op.Load e.a e.b e.c) ((within c.args.heap.now _ c.requires.serving ((load_fits (registers_in c.args.heap.now) c.args.entry.now c.requires.op c.requires.asks).0), within c.args.heap.now _ c.requires.serving ((load_fits (registers_in c.args.heap.now) c.args.entry.now c.requires.op c.requires.asks).1)), tt) c.try_load.result c.requires.serving c.try_load.ensures.done c.try_load.ensures.unchanged

pub perform_aside-requires-clause-serving : goal.perform_aside-requires-clause-serving
perform_aside-requires-clause-serving c =
    let e = c.args.entry.now in
    tried_serves c.args.heap.now c.try_load.new.self (op.Load e.a e.b e.c) ((within c.args.heap.now _ c.requires.serving ((load_fits (registers_in c.args.heap.now) c.args.entry.now c.requires.op c.requires.asks).0), within c.args.heap.now _ c.requires.serving ((load_fits (registers_in c.args.heap.now) c.args.entry.now c.requires.op c.requires.asks).1)), tt) c.try_load.result c.requires.serving c.try_load.ensures.done c.try_load.ensures.unchanged

pub returns-clause-performs : goal.returns-clause-performs
returns-clause-performs c =
    let x = c.args.heap.now in
    after_try x c.args.entry.now (record x { heap = c.try_load.new.self }) c.perform_aside.new.heap c.perform_aside.new.entry c.perform_aside.result (ap (λ h. record x { heap = h }) (c.try_load.ensures.unchanged c.if-try_load.false)) c.perform_aside.ensures.performs
