use Rattle.std.proofs.Common.{arith}
use Rattle.lxr_large_model.specs.History.{large_state}
use Rattle.lxr_c_words.proofs.FormLemmas.{in_body}
use Rattle.lxr_c_words.proofs.ReadLemmas.{reads_past, reads_there}
use Rattle.lxr_c_words.proofs.looking.read_body.Goals as goal

pub returns-then-first-count : goal.returns-then-first-count
returns-then-first-count c = λ h is.
    reads_past (large_state h) c.args.base c.args.count c.args.first c.args.into.now (in_body c.args.heap.now h is c.args.base c.args.count (c.requires.there h is)) (omega arith)

pub returns-then-into-count : goal.returns-then-into-count
returns-then-into-count c = λ h is.
    reads_past (large_state h) c.args.base c.args.count c.args.first c.args.into.now (in_body c.args.heap.now h is c.args.base c.args.count (c.requires.there h is)) (omega arith)

pub returns : goal.returns
returns c = λ h is.
    reads_there (large_state h) c.args.base c.args.count c.args.first c.args.into.now c.read.new.into c.read.result (in_body c.args.heap.now h is c.args.base c.args.count (c.requires.there h is)) (omega arith)
    (c.read.ensures.reply h is) (c.read.ensures.words h is)
