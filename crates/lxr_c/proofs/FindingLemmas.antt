-- What a program is told of a word that was found.
use Rattle.std.proofs.Common.{◌≡◌, ℕ, refl, Some, None}
use Rattle.std.specs.Prelude.{Ok, Err}
use Rattle.lxr_graph.specs.declared.Reply.TheVariants as reply
use Rattle.lxr_large_model.specs.declared.LargeReply.TheVariants as large_reply
use Rattle.lxr_c_base.specs.Requests.{Request}
use Rattle.lxr_c_heap.specs.Keeping.{Kept}
use Rattle.lxr_c_heap.specs.Looking.{Tells, word_in}
use Rattle.lxr_c_heap.specs.Trying.{Finds}

pub finds_tells : (before after : Kept) (request : Request) (w old : ℕ) → Finds before request w → after ≡ before → Tells word_in before after request 0 old w
finds_tells None after request w old found same = absurd found
finds_tells (Some x) after (Err e) w old found same = absurd found
finds_tells (Some x) after (Ok o) w old found same = (Ok (large_reply.Small (reply.Got w)), (same, large_reply.Small (reply.Got w), refl, found), refl, refl)
