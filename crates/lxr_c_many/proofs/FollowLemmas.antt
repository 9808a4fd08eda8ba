-- Operations that are done one after another: one more behind some, some behind others, and the items of things that are numbered.
use Rattle.std.proofs.Common.{◌≡◌, ℕ, suc, ◌+◌, ◌<◌, ◌∙◌, sym, ap, subst, arith, List, [], ◌∷◌, ◌++◌, length, get_or, take}
use Rattle.std.proofs.lemmas.List.{append_assoc, length-take-le, take_more}
use Rattle.lxr_large_model.specs.declared.LargeOp.{LargeOp}
use Rattle.lxr_large_model.specs.declared.LargeReply.{LargeReply}
use Rattle.lxr_large_model.specs.History.{LargeItem, Called, Paused, Renewed}
use Rattle.lxr_heap.specs.Holding.{IsHeapOf}
use Rattle.lxr_c_heap.specs.declared.host.HostHeap.{HostHeap}
use Rattle.lxr_c_heap.specs.Hosting.{Replies}
use Rattle.lxr_c_many.specs.Following.{Follows, newest_first}

-- ---- items

-- the item of the last of some things stands in front
pub newest_last : {A : Type 0} (item : ℕ → A → LargeItem) (i : ℕ) (xs : List A) (x : A) → newest_first item i (xs ++ x ∷ []) ≡ item (i + length xs) x ∷ newest_first item i xs
newest_last item i [] x = let same : i ≡ i + 0 = omega arith in ap (λ k. item k x ∷ []) same
newest_last item i (y ∷ ys) x =
    let same : i + 1 + length ys ≡ i + suc (length ys) = omega arith in
    ap (λ zs. zs ++ item i y ∷ []) (newest_last item (i + 1) ys x) ∙ ap (λ k. item k x ∷ (newest_first item (i + 1) ys ++ item i y ∷ [])) same

-- so is that of one more of them
pub newest_more : {A : Type 0} (item : ℕ → A → LargeItem) (i k : ℕ) (xs : List A) (d : A) → k < length xs → newest_first item i (take (k + 1) xs) ≡ item (i + k) (get_or xs k d) ∷ newest_first item i (take k xs)
newest_more item i k xs d within =
    ap (newest_first item i) (take_more xs k d within)
    ∙ newest_last item i (take k xs) (get_or xs k d)
    ∙ ap (λ n. item (i + n) (get_or xs k d) ∷ newest_first item i (take k xs)) (length-take-le k xs (omega (arith, within)))

-- ---- operations

-- what is led to is the heap of the history with the items in front
pub follows_holds : (x y : HostHeap) (h new : List LargeItem) → IsHeapOf x.heap h → Follows x h y new → IsHeapOf y.heap (new ++ h)
follows_holds x y h [] is same = subst (λ (z : HostHeap). IsHeapOf z.heap h) (sym same) is
follows_holds x y h (Called o r ∷ new) is done = done.2.heap.holds
follows_holds x y h (Paused report ∷ new) is done = absurd done
follows_holds x y h (Renewed ns ∷ new) is done = absurd done

-- some behind others
pub follows_on : (x m y : HostHeap) (h new newer : List LargeItem) → Follows x h m new → Follows m (new ++ h) y newer → Follows x h y (newer ++ new)
follows_on x m y h new [] before same = subst (λ (z : HostHeap). Follows x h z new) (sym same) before
follows_on x m y h new (Called o r ∷ newer) before done = (
  done.0,
  follows_on x m done.0 h new newer before done.1,
  subst (λ k. Replies done.0 y k o r) (sym (append_assoc newer new h)) done.2,
)
follows_on x m y h new (Paused report ∷ newer) before done = absurd done
follows_on x m y h new (Renewed ns ∷ newer) before done = absurd done

-- one more of some that are replied the same
pub follows_more : (o : ℕ → ℕ → LargeOp) (r : LargeReply) (x y z : HostHeap) (h : List LargeItem) (first : ℕ) (xs : List ℕ) (i index d : ℕ) → Follows x h y (newest_first (λ k v. Called (o k v) r) first (take i xs)) → i < length xs
    → index ≡ first + i → Replies y z (newest_first (λ k v. Called (o k v) r) first (take i xs) ++ h) (o index (get_or xs i d)) r → Follows x h z (newest_first (λ k v. Called (o k v) r) first (take (i + 1) xs))
follows_more o r x y z h first xs i index d before within is replies =
    let item : ℕ → ℕ → LargeItem = λ k v. Called (o k v) r in
    subst (Follows x h z) (sym (newest_more item first i xs d within)) (y, before, subst (λ k. Replies y z (newest_first item first (take i xs) ++ h) (o k (get_or xs i d)) r) is replies)
