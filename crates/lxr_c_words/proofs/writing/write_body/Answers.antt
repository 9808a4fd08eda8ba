use Rattle.std.proofs.Common.{ap, arith}
use Rattle.lxr_c_heap.specs.Hosting.{registers_in}
use Rattle.lxr_c_heap.proofs.RegisterLemmas.{named_few}
use Rattle.lxr_c_words.proofs.FormLemmas.{in_body}
use Rattle.lxr_c_words.proofs.WriteLemmas.{writes_past, writes_there}
use Rattle.lxr_c_words.proofs.writing.write_body.Goals as goal

pub write-requires-clause-base : goal.write-requires-clause-base
write-requires-clause-base c =
    let few = named_few c.args.heap.now c.requires.serving.holds in
    let base = c.requires.base in
    omega (arith, few, base)

pub returns-then-first-count-clause-writes : goal.returns-then-first-count-clause-writes
returns-then-first-count-clause-writes c = λ h is.
    writes_past c.args.heap.now h c.args.base c.args.count c.args.first c.args.from.now (in_body c.args.heap.now.heap h is c.args.base c.args.count (c.requires.there h is)) (omega arith)

pub returns-then-from-count-clause-writes : goal.returns-then-from-count-clause-writes
returns-then-from-count-clause-writes c = λ h is.
    writes_past c.args.heap.now h c.args.base c.args.count c.args.first c.args.from.now (in_body c.args.heap.now.heap h is c.args.base c.args.count (c.requires.there h is)) (omega arith)

pub returns-clause-writes : goal.returns-clause-writes
returns-clause-writes c = λ h is.
    writes_there c.args.heap.now c.write.new.self h c.args.base c.args.count c.args.first c.args.from.now c.write.result (in_body c.args.heap.now.heap h is c.args.base c.args.count (c.requires.there h is)) (omega arith)
    (c.write.ensures.writes h is) c.write.ensures.rest

pub returns-clause-registers : goal.returns-clause-registers
returns-clause-registers c = ap registers_in c.write.ensures.rest
