use Rattle.std.proofs.Common.{◌+◌, refl, sym, subst, ◌∙◌}
use Rattle.std.specs.Prelude.{None, false}
use Rattle.lxr_large_model.specs.declared.Acted.TheVariants as acted
use Rattle.lxr_large_model.specs.declared.LargeOp.TheVariants as large_op
use Rattle.lxr_large_model.specs.declared.LargeReply.TheVariants as large_reply
use Rattle.lxr_heap.specs.Acting.{Acts}
use Rattle.lxr_heap.specs.Holding.{abstract_of}
use Rattle.lxr_heap.proofs.ActingLemmas.{replied_no_put, replied_put}
use Rattle.lxr_heap.proofs.HeapLemmas.{may_operate}
use Rattle.lxr_heap.proofs.acting.put_word.Goals as goal

pub name_in-requires : goal.name_in-requires
name_in-requires c = let (h, is) = c.requires.holds in record { state = (abstract_of c.args.heap.now h is.at, c.args.heap.now.made + 1, may_operate c.args.heap.now h is) }

pub returns-in-None : goal.returns-in-None
returns-in-None c = λ h is.
    let x = c.args.heap.now in
    replied_no_put x h is c.args.base c.args.index c.args.value None large_reply.Bad c.requires.base (sym c.in-None.is ∙ c.name_in.ensures (abstract_of x h is.at) (x.made + 1) (may_operate x h is)) refl

pub returns-in-Some : goal.returns-in-Some
returns-in-Some c = λ h is.
    let x = c.args.heap.now in
    subst (λ r. Acts x (record x { bodies = c.set_word.new.self; fresh = false }) h (large_op.BigPut c.args.base c.args.index c.args.value) (acted.Replied r)) (sym c.put_reply.ensures)
    (replied_put x h is c.args.base c.args.index c.args.value c.in-Some.name c.set_word.result c.set_word.new.self c.requires.base
    (sym c.in-Some.is ∙ c.name_in.ensures (abstract_of x h is.at) (x.made + 1) (may_operate x h is)) c.set_word.ensures.found c.set_word.ensures.written)
