use Rattle.std.proofs.Common.{arith}
use Rattle.lxr_c_heap.specs.Hosting.{registers_in}
use Rattle.lxr_c_heap.proofs.RegisterLemmas.{few_registers}
use Rattle.lxr_c_many.proofs.EntryLemmas.{asks_is_nil, is_nil_fits, nil_entry}
use Rattle.lxr_c_many.proofs.entries.is_nil_at.Goals as goal

pub overflow_cast-entry : goal.overflow_cast-entry
overflow_cast-entry c =
    let named = is_nil_fits (registers_in c.args.heap.now) c.args.entry.now c.requires.op c.requires.asks in
    let few = few_registers c.args.heap.now c.requires.serving.holds in
    omega (arith, named, few)

pub returns-clause-performs : goal.returns-clause-performs
returns-clause-performs c =
    let x = c.args.heap.now in
    let e = c.args.entry.now in
    nil_entry x e c.is_nil.result c.flag-entry.result (asks_is_nil (registers_in x) e c.requires.op (is_nil_fits (registers_in c.args.heap.now) c.args.entry.now c.requires.op c.requires.asks)) c.is_nil.ensures c.flag-entry.ensures
