use Rattle.std.proofs.Common.{◌+◌, sym, ap, ◌∙◌, length}
use Rattle.std.specs.Prelude.{None, Some, unwrap_or}
use Rattle.lxr_large_model.specs.History.{large_state}
use Rattle.lxr_heap.specs.Bulk.{bulk_reply, words_held}
use Rattle.lxr_heap.specs.Holding.{abstract_of}
use Rattle.lxr_heap.proofs.BulkLemmas.{base_is, by_found, reply_held, words_read}
use Rattle.lxr_heap.proofs.HeapLemmas.{may_operate}
use Rattle.lxr_heap.proofs.bulk.read.Goals as goal

pub name_in-requires : goal.name_in-requires
name_in-requires c = let (h, is) = c.requires.holds in record { state = (abstract_of c.args.heap.now h is.at, c.args.heap.now.made + 1, may_operate c.args.heap.now h is) }

pub returns-in-None-clause-reply : goal.returns-in-None-clause-reply
returns-in-None-clause-reply c = λ h is.
    let x = c.args.heap.now in
    let none = base_is x h is c.args.base None (sym c.in-None.is ∙ c.name_in.ensures (abstract_of x h is.at) (x.made + 1) (may_operate x h is)) in
    sym (ap (λ v. bulk_reply (large_state h) v c.args.index (length c.args.into.now)) none)

pub returns-in-None-clause-words : goal.returns-in-None-clause-words
returns-in-None-clause-words c = λ h is.
    let x = c.args.heap.now in
    let none = base_is x h is c.args.base None (sym c.in-None.is ∙ c.name_in.ensures (abstract_of x h is.at) (x.made + 1) (may_operate x h is)) in
    sym (ap (λ v. unwrap_or (words_held (large_state h) v c.args.index (length c.args.into.now)) c.args.into.now) none)

pub returns-in-Some-clause-reply : goal.returns-in-Some-clause-reply
returns-in-Some-clause-reply c = λ h is.
    let x = c.args.heap.now in
    let there = base_is x h is c.args.base (Some c.in-Some.name) (sym c.in-Some.is ∙ c.name_in.ensures (abstract_of x h is.at) (x.made + 1) (may_operate x h is)) in
    c.of.ensures ∙ ap by_found c.read.ensures.found ∙ reply_held x h is c.args.base c.args.index (length c.args.into.now) c.in-Some.name there

pub returns-in-Some-clause-words : goal.returns-in-Some-clause-words
returns-in-Some-clause-words c = λ h is.
    let x = c.args.heap.now in
    let there = base_is x h is c.args.base (Some c.in-Some.name) (sym c.in-Some.is ∙ c.name_in.ensures (abstract_of x h is.at) (x.made + 1) (may_operate x h is)) in
    c.read.ensures.read ∙ ap (λ range. unwrap_or range c.args.into.now) (words_read x h is c.args.base c.args.index (length c.args.into.now) c.in-Some.name there)
