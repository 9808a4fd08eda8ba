use Rattle.std.proofs.Common.{ap, arith}
use Rattle.lxr_graph.specs.declared.Op.TheVariants as op
use Rattle.lxr_c_heap.specs.Hosting.{registers_in}
use Rattle.lxr_c_heap.proofs.RegisterLemmas.{few_registers}
use Rattle.lxr_c_heap.proofs.TryingLemmas.{tried_serves}
use Rattle.lxr_c_many.proofs.EntryLemmas.{after_try, asks_put, put_fits, tried_entry, within}
use Rattle.lxr_c_many.proofs.entries.put_at.Goals as goal

pub overflow_cast-entry : goal.overflow_cast-entry
overflow_cast-entry c =
    let named = put_fits (registers_in c.args.heap.now) c.args.entry.now c.requires.op c.requires.asks in
    let few = few_registers c.args.heap.now c.requires.serving.holds in
    omega (arith, named, few)

pub try_put-requires : goal.try_put-requires
try_put-requires c = record { base = within c.args.heap.now _ c.requires.serving (put_fits (registers_in c.args.heap.now) c.args.entry.now c.requires.op c.requires.asks) }

pub returns-then-try_put-clause-performs : goal.returns-then-try_put-clause-performs
returns-then-try_put-clause-performs c =
    let x = c.args.heap.now in
    let e = c.args.entry.now in
    tried_entry x e c.try_put.new.self (op.Put e.a e.b e.word) (within c.args.heap.now _ c.requires.serving (put_fits (registers_in c.args.heap.now) c.args.entry.now c.requires.op c.requires.asks), tt) (asks_put (registers_in x) e c.requires.op (put_fits (registers_in c.args.heap.now) c.args.entry.now c.requires.op c.requires.asks) (c.try_put.ensures.small c.if-try_put.true)) (c.try_put.ensures.done c.if-try_put.true)

pub returns-then-try_put-clause-serving : goal.returns-then-try_put-clause-serving
returns-then-try_put-clause-serving c =
    let e = c.args.entry.now in
    tried_serves c.args.heap.now c.try_put.new.self (op.Put e.a e.b e.word) (within c.args.heap.now _ c.requires.serving (put_fits (registers_in c.args.heap.now) c.args.entry.now c.requires.op c.requires.asks), tt) c.try_put.result c.requires.serving c.try_put.ensures.done c.try_put.ensures.unchanged

pub perform_aside-requires-clause-serving : goal.perform_aside-requires-clause-serving
perform_aside-requires-clause-serving c =
    let e = c.args.entry.now in
    tried_serves c.args.heap.now c.try_put.new.self (op.Put e.a e.b e.word) (within c.args.heap.now _ c.requires.serving (put_fits (registers_in c.args.heap.now) c.args.entry.now c.requires.op c.requires.asks), tt) c.try_put.result c.requires.serving c.try_put.ensures.done c.try_put.ensures.unchanged

pub returns-clause-performs : goal.returns-clause-performs
returns-clause-performs c =
    let x = c.args.heap.now in
    after_try x c.args.entry.now (record x { heap = c.try_put.new.self }) c.perform_aside.new.heap c.perform_aside.new.entry c.perform_aside.result (ap (λ h. record x { heap = h }) (c.try_put.ensures.unchanged c.if-try_put.false)) c.perform_aside.ensures.performs
