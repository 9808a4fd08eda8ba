use Rattle.std.proofs.Common.{◌≡◌, subst, length, List}
use Rattle.std.specs.Prelude.{unwrap_or}
use Rattle.lxr_large_model.specs.History.{LargeItem, large_state}
use Rattle.lxr_heap.specs.Bulk.{base_held, bulk_reply, words_held}
use Rattle.lxr_heap.specs.Holding.{IsHeapOf}
use Rattle.lxr_heap.proofs.LargeHeap.read.Goals as goal

pub returns-clause-reply : goal.returns-clause-reply
returns-clause-reply c = subst (λ x. (h : List LargeItem) → IsHeapOf x h → c.read.result ≡ bulk_reply (large_state h) (base_held h c.args.base) c.args.index (length c.args.into.now)) c.self.view_is c.read.ensures.reply

pub returns-clause-words : goal.returns-clause-words
returns-clause-words c =
    subst (λ x. (h : List LargeItem) → IsHeapOf x h → c.read.new.into ≡ unwrap_or (words_held (large_state h) (base_held h c.args.base) c.args.index (length c.args.into.now)) c.args.into.now) c.self.view_is c.read.ensures.words
