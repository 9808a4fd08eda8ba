use Rattle.std.proofs.Common.{◌≡◌, ◌+◌, sym, ap, ◌∙◌}
use Rattle.std.specs.Prelude.{None, Some}
use Rattle.lxr_graph.specs.State.{register_at}
use Rattle.lxr_large_model.specs.History.{large_moment, large_state}
use Rattle.lxr_large_model.specs.Step.{get_from, got}
use Rattle.lxr_heap.specs.Holding.{abstract_of}
use Rattle.lxr_heap.proofs.ActingLemmas.{word_there}
use Rattle.lxr_heap.proofs.BulkLemmas.{base_is}
use Rattle.lxr_heap.proofs.HeapLemmas.{may_operate}
use Rattle.lxr_heap.proofs.looking.see_word.Goals as goal

pub name_in-requires : goal.name_in-requires
name_in-requires c = let (h, is) = c.requires.holds in record { state = (abstract_of c.args.heap.now h is.at, c.args.heap.now.made + 1, may_operate c.args.heap.now h is) }

pub returns-in-None : goal.returns-in-None
returns-in-None c = λ h is.
    let x = c.args.heap.now in
    let e : None ≡ register_at (large_moment h).state 1 c.args.base = sym c.in-None.is ∙ c.name_in.ensures (abstract_of x h is.at) (x.made + 1) (may_operate x h is) in
    ap (get_from (large_state h) c.args.index) (base_is x h is c.args.base None e)

pub returns-in-Some : goal.returns-in-Some
returns-in-Some c = λ h is.
    let x = c.args.heap.now in
    let n = c.in-Some.name in
    let e : Some n ≡ register_at (large_moment h).state 1 c.args.base = sym c.in-Some.is ∙ c.name_in.ensures (abstract_of x h is.at) (x.made + 1) (may_operate x h is) in
    ap (get_from (large_state h) c.args.index) (base_is x h is c.args.base (Some n) e) ∙ sym (c.got_reply.ensures ∙ ap got (c.word.ensures ∙ word_there x h is c.args.base c.args.index n e))
