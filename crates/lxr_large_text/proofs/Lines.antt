-- The lines of operations in the order in which they are pushed.
use Rattle.std.proofs.Common.{◌≡◌, ℕ, ◌+◌, ◌<◌, sym, ap, ◌∙◌, List, ◌++◌, length, get_or, take, arith}
use Rattle.std.specs.Prelude.{Option, flat_map}
use Rattle.std.specs.List.{zip}
use Rattle.std.proofs.lemmas.Slice.Zip.{get_or-zip, length-zip}
use Rattle.lxr_text_print.specs.Pages.{Moves}
use Rattle.lxr_text_print.proofs.TextLemmas.{Moves-item}
use Rattle.lxr_large_model.specs.declared.LargeOp.{LargeOp}
use Rattle.lxr_large_model.specs.declared.LargeReply.{LargeReply}
use Rattle.lxr_large_text.specs.Replies.{one_text}

-- one line more was pushed behind the lines so far
pub Moves-line : {u v w : Option (List ℕ)} {p q r : List ℕ} (t : List ℕ) (os : List LargeOp) (rs : List LargeReply) (i : ℕ) (d : LargeOp) (e : LargeReply) → i < length os → i < length rs →
    Moves u v (t ++ flat_map (λ x. one_text x.0 x.1) (take i (zip os rs))) p → Moves v w p q → r ≡ q ++ one_text (get_or os i d) (get_or rs i e) →
    Moves u w (t ++ flat_map (λ x. one_text x.0 x.1) (take (i + 1) (zip os rs))) r
Moves-line {q = q} t os rs i d e h k a b pushed =
    let f : LargeOp × LargeReply → List ℕ = λ x. one_text x.0 x.1 in
    let at : get_or (zip os rs) i (d, e) ≡ (get_or os i d, get_or rs i e) = get_or-zip os rs i (d, e) h k in
    Moves-item t f (zip os rs) i (d, e) (omega (arith, length-zip os rs)) a b (pushed ∙ ap (λ x. q ++ f x) (sym at))
