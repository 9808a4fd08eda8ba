use Rattle.std.proofs.Common.{sym, subst}
use Rattle.lxr_large_model.specs.declared.LargeOp.{LargeOp}
use Rattle.lxr_large_model.specs.declared.LargeReply.TheVariants as large_reply
use Rattle.lxr_large_model.specs.History.{large_state}
use Rattle.lxr_large_model.specs.Step.{IsLargeReply}
use Rattle.lxr_heap.proofs.looking.see.Goals as goal

pub returns-in-Small : goal.returns-in-Small
returns-in-Small c = λ h is. subst (λ (o : LargeOp). IsLargeReply (large_state h) o (large_reply.Small c.see_small.result)) (sym c.in-Small.is) (c.see_small.ensures h is)

pub returns-in-BigGet : goal.returns-in-BigGet
returns-in-BigGet c = λ h is. subst (λ (o : LargeOp). IsLargeReply (large_state h) o c.see_word.result) (sym c.in-BigGet.is) (c.see_word.ensures h is)
