-- What calls leave of the moment that a history leads to.
use Rattle.std.proofs.Common.{◌≡◌, refl, List, ◌∷◌}
use Rattle.lxr_large_model.specs.declared.LargeOp.{LargeOp}
use Rattle.lxr_large_model.specs.declared.LargeOp.TheVariants as large_op
use Rattle.lxr_large_model.specs.declared.LargeReply.{LargeReply}
use Rattle.lxr_large_model.specs.declared.LargeReply.TheVariants as large_reply
use Rattle.lxr_large_model.specs.History.{LargeItem, Called, large_moment}

-- a call counts no pause
pub same_number : (o : LargeOp) (r : LargeReply) (h : List LargeItem) → (large_moment (Called o r ∷ h)).number ≡ (large_moment h).number
same_number (large_op.Small o) (large_reply.Small r) h = refl
same_number (large_op.Big dest blocks) (large_reply.Big n) h = refl
same_number o r h = refl
