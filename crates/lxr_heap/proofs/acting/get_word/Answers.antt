use Rattle.std.proofs.Common.{◌+◌, ◌≡◌, refl, sym, ap, ◌∙◌}
use Rattle.std.specs.Prelude.{None, Some}
use Rattle.lxr_graph.specs.State.{register_at}
use Rattle.lxr_large_model.specs.declared.LargeReply.TheVariants as large_reply
use Rattle.lxr_large_model.specs.History.{large_moment}
use Rattle.lxr_large_model.specs.Step.{got}
use Rattle.lxr_heap.specs.Holding.{abstract_of}
use Rattle.lxr_heap.proofs.ActingLemmas.{replied_get, word_there}
use Rattle.lxr_heap.proofs.HeapLemmas.{may_operate}
use Rattle.lxr_heap.proofs.acting.get_word.Goals as goal

pub name_in-requires : goal.name_in-requires
name_in-requires c = let (h, is) = c.requires.holds in record { state = (abstract_of c.args.heap.now h is.at, c.args.heap.now.made + 1, may_operate c.args.heap.now h is) }

pub returns-in-None : goal.returns-in-None
returns-in-None c = λ h is.
    let x = c.args.heap.now in
    replied_get x h is c.args.base c.args.index None large_reply.Bad c.requires.base (sym c.in-None.is ∙ c.name_in.ensures (abstract_of x h is.at) (x.made + 1) (may_operate x h is)) refl

pub returns-in-Some : goal.returns-in-Some
returns-in-Some c = λ h is.
    let x = c.args.heap.now in
    let e : Some c.in-Some.name ≡ register_at (large_moment h).state 1 c.args.base = sym c.in-Some.is ∙ c.name_in.ensures (abstract_of x h is.at) (x.made + 1) (may_operate x h is) in
    replied_get x h is c.args.base c.args.index (Some c.in-Some.name) c.got_reply.result c.requires.base e
    (sym (c.got_reply.ensures ∙ ap got (c.word.ensures ∙ word_there x h is c.args.base c.args.index c.in-Some.name e)))
