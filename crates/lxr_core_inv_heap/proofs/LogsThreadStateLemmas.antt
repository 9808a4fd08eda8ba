-- What mutators show once one of them shows something else, and the entries of all their logs.
use Rattle.std.proofs.Common.{◌≡◌, ◌≢◌, ℕ, zero, suc, ◌≤◌, refl, sym, ap, subst, ◌∙◌, arith, List, [], ◌∷◌, ◌++◌, length}
use Rattle.std.specs.Prelude.{Some, slice_get, slice_set}
use Rattle.std.specs.List.Sorted.{IsPermutation}
use Rattle.std.proofs.lemmas.List.{length-append}
use Rattle.std.proofs.lemmas.List.Sorted.{IsPermutation-append_left, IsPermutation-append_right, IsPermutation-middle, IsPermutation-to_front, IsPermutation-trans}
use Rattle.lxr_layout.specs.declared.LogEntry.{LogEntry}
use Rattle.lxr_base.specs.Roomy.{pushed}
use Rattle.lxr_core_invariant.specs.ThreadStates.{ThreadState}
use Rattle.lxr_core_invariant.specs.Logged.{logs_of}

-- ---- what stands in a list where one element is put

-- the element that is put stands at its index
pub put_here : {A : Type 0} (xs : List A) (i : ℕ) (old new : A) → slice_get xs i ≡ Some old → slice_get (slice_set xs i new) i ≡ Some new
put_here [] i old new there = absurd (cc)
put_here (y ∷ xs) zero old new there = refl
put_here (y ∷ xs) (suc i) old new there = put_here xs i old new there

-- the others stand where they stood
pub put_other : {A : Type 0} (xs : List A) (i j : ℕ) (new : A) → j ≢ i → slice_get (slice_set xs i new) j ≡ slice_get xs j
put_other [] i j new differ = refl
put_other (y ∷ xs) zero zero new differ = absurd (differ refl)
put_other (y ∷ xs) zero (suc j) new differ = refl
put_other (y ∷ xs) (suc i) zero new differ = refl
put_other (y ∷ xs) (suc i) (suc j) new differ = put_other xs i j new (λ e. differ (ap suc e))

-- one index has one element
pub one_shown : {A : Type 0} (xs : List A) (i j : ℕ) (x y : A) → slice_get xs i ≡ Some x → slice_get xs j ≡ Some y → j ≡ i → y ≡ x
one_shown xs i j x y h k same = let e : Some y ≡ Some x = sym k ∙ ap (slice_get xs) same ∙ h in cc

-- ---- the entries of all logs

-- a mutator whose log stays changes nothing of the entries
pub logs_stay : (thread_states : List ThreadState) (i : ℕ) (v w : ThreadState) → slice_get thread_states i ≡ Some v → w.log ≡ v.log → logs_of (slice_set thread_states i w) ≡ logs_of thread_states
logs_stay [] i v w there same = absurd (cc)
logs_stay (x ∷ thread_states) zero v w there same = let e : x ≡ v = cc in ap (λ z. z.items ++ logs_of thread_states) (same ∙ sym (ap (λ (z : ThreadState). z.log) e))
logs_stay (x ∷ thread_states) (suc i) v w there same = ap (λ z. x.log.items ++ z) (logs_stay thread_states i v w there same)

-- an entry that joins the later logs joins them all
more_behind : (xs ys zs : List LogEntry) (e : LogEntry) → IsPermutation ys (e ∷ zs) → IsPermutation (xs ++ ys) (e ∷ (xs ++ zs))
more_behind xs ys zs e h = IsPermutation-trans (xs ++ ys) (xs ++ e ∷ zs) (e ∷ (xs ++ zs)) (IsPermutation-append_right xs ys (e ∷ zs) h) (IsPermutation-middle xs e zs)

-- an entry that one mutator records joins them
pub logs_grow : (thread_states : List ThreadState) (i : ℕ) (v w : ThreadState) (e : LogEntry) → slice_get thread_states i ≡ Some v → w.log ≡ pushed v.log e → IsPermutation (logs_of (slice_set thread_states i w)) (e ∷ logs_of thread_states)
logs_grow [] i v w e there grown = absurd (cc)
logs_grow (x ∷ thread_states) zero v w e there grown =
    let is : x ≡ v = cc in
    let items : w.log.items ≡ x.log.items ++ e ∷ [] = ap (λ z. z.items) grown ∙ sym (ap (λ (z : ThreadState). z.log.items ++ e ∷ []) is) in
    subst (λ z. IsPermutation (z ++ logs_of thread_states) (e ∷ (x.log.items ++ logs_of thread_states))) (sym items)
    (IsPermutation-append_left (logs_of thread_states) (x.log.items ++ e ∷ []) (e ∷ x.log.items) (IsPermutation-to_front x.log.items e))
logs_grow (x ∷ thread_states) (suc i) v w e there grown = more_behind x.log.items (logs_of (slice_set thread_states i w)) (logs_of thread_states) e (logs_grow thread_states i v w e there grown)

-- a mutator's log is no longer than all of them
pub log_is_part : (thread_states : List ThreadState) (i : ℕ) (v : ThreadState) → slice_get thread_states i ≡ Some v → length v.log.items ≤ length (logs_of thread_states)
log_is_part [] i v there = absurd (cc)
log_is_part (x ∷ thread_states) zero v there =
    let is : x ≡ v = cc in
    let items : length v.log.items ≡ length x.log.items = ap (λ (z : ThreadState). length z.log.items) (sym is) in
    let both = length-append x.log.items (logs_of thread_states) in omega (arith, both, items)
log_is_part (x ∷ thread_states) (suc i) v there =
    let rest = log_is_part thread_states i v there in
    let both = length-append x.log.items (logs_of thread_states) in omega (arith, rest, both)
