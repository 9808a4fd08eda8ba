use Rattle.std.proofs.Common.{◌∙◌, ap, arith, subst, sym}
use Rattle.lxr_c_heap.specs.declared.host.HostHeap.{HostHeap}
use Rattle.lxr_c_heap.specs.Hosting.{IsServing, all_registers_in, registers_in}
use Rattle.lxr_c_base.specs.declared.codes.Code.TheVariants as code
use Rattle.lxr_c_heap.proofs.AsideLemmas.{stored_serves}
use Rattle.lxr_c_heap.proofs.RegisterLemmas.{few_registers}
use Rattle.lxr_c_many.specs.Applying.{Asks, PerformsAt}
use Rattle.lxr_c_many.proofs.EntryLemmas.{after_try, asks_store, store_fits, stored_entry, within}
use Rattle.lxr_c_many.proofs.entries.store_at.Goals as goal

pub overflow_cast-entry : goal.overflow_cast-entry
overflow_cast-entry c =
    let named = (store_fits (registers_in c.args.heap.now) c.args.entry.now c.requires.op c.requires.asks).0 in
    let few = few_registers c.args.heap.now c.requires.serving.holds in
    omega (arith, named, few)

pub overflow_cast-entry-2 : goal.overflow_cast-entry-2
overflow_cast-entry-2 c =
    let named = (store_fits (registers_in c.args.heap.now) c.args.entry.now c.requires.op c.requires.asks).1 in
    let few = few_registers c.args.heap.now c.requires.serving.holds in
    omega (arith, named, few)

pub try_store-requires-clause-base : goal.try_store-requires-clause-base
try_store-requires-clause-base c = within c.args.heap.now _ c.requires.serving ((store_fits (registers_in c.args.heap.now) c.args.entry.now c.requires.op c.requires.asks).0)

pub try_store-requires-clause-source : goal.try_store-requires-clause-source
try_store-requires-clause-source c = within c.args.heap.now _ c.requires.serving ((store_fits (registers_in c.args.heap.now) c.args.entry.now c.requires.op c.requires.asks).1)

pub returns-then-try_store-clause-performs : goal.returns-then-try_store-clause-performs
returns-then-try_store-clause-performs c =
    let x = c.args.heap.now in
    let e = c.args.entry.now in
    subst (λ y. PerformsAt x e y e code.Done) (sym c.try_store.ensures.rest)
    (stored_entry x e c.try_store.new.self.heap e.a e.b e.c (asks_store (registers_in x) e c.requires.op (store_fits (registers_in c.args.heap.now) c.args.entry.now c.requires.op c.requires.asks).0 (store_fits (registers_in c.args.heap.now) c.args.entry.now c.requires.op c.requires.asks).1 (c.try_store.ensures.small c.if-try_store.true)) (c.try_store.ensures.early c.if-try_store.true) (c.try_store.ensures.done c.if-try_store.true))

pub returns-then-try_store-clause-registers : goal.returns-then-try_store-clause-registers
returns-then-try_store-clause-registers c = ap registers_in c.try_store.ensures.rest

pub returns-then-try_store-clause-serving : goal.returns-then-try_store-clause-serving
returns-then-try_store-clause-serving c =
    let e = c.args.entry.now in
    subst IsServing (sym c.try_store.ensures.rest) (stored_serves c.args.heap.now c.try_store.new.self.heap e.a e.b e.c c.try_store.result (all_registers_in c.args.heap.now, ((within c.args.heap.now _ c.requires.serving ((store_fits (registers_in c.args.heap.now) c.args.entry.now c.requires.op c.requires.asks).0), within c.args.heap.now _ c.requires.serving ((store_fits (registers_in c.args.heap.now) c.args.entry.now c.requires.op c.requires.asks).1)), tt)) c.requires.serving c.try_store.ensures.early c.try_store.ensures.done (λ no. ap (λ (z : HostHeap). z.heap) (c.try_store.ensures.unchanged no)))

pub perform_aside-requires-clause-serving : goal.perform_aside-requires-clause-serving
perform_aside-requires-clause-serving c = subst IsServing (sym (c.try_store.ensures.unchanged c.if-try_store.false)) c.requires.serving

pub perform_aside-requires-clause-asks : goal.perform_aside-requires-clause-asks
perform_aside-requires-clause-asks c = subst (λ (z : HostHeap). Asks (registers_in z) c.args.entry.now) (sym (c.try_store.ensures.unchanged c.if-try_store.false)) c.requires.asks

pub returns-clause-performs : goal.returns-clause-performs
returns-clause-performs c = after_try c.args.heap.now c.args.entry.now c.try_store.new.self c.perform_aside.new.heap c.perform_aside.new.entry c.perform_aside.result (c.try_store.ensures.unchanged c.if-try_store.false) c.perform_aside.ensures.performs

pub returns-clause-registers : goal.returns-clause-registers
returns-clause-registers c = c.perform_aside.ensures.registers ∙ ap registers_in (c.try_store.ensures.unchanged c.if-try_store.false)
