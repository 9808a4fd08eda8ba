-- Operations in turn: one more behind some, the last of all, and the entries with what was told.
use Rattle.std.proofs.Common.{◌≡◌, ◌≢◌, ℕ, zero, suc, ◌+◌, ◌<◌, ◌≤◌, refl, sym, ap, subst, arith, inl, inr, List, [], ◌∷◌, ◌++◌, length, get_or, set, drop}
use Rattle.std.specs.Prelude.{Ok}
use Rattle.std.proofs.lemmas.List.{append-nil, append_assoc, drop_all, drop_more}
use Rattle.lxr_large_model.specs.History.{LargeItem}
use Rattle.lxr_c_base.specs.declared.codes.Code.TheVariants as code
use Rattle.lxr_c_heap.specs.declared.host.HostHeap.{HostHeap}
use Rattle.lxr_c_heap.specs.Hosting.{IsHostOf}
use Rattle.lxr_c_heap.proofs.OperationLemmas.{making_more, quiet_more, storing_more}
use Rattle.lxr_c_heap.proofs.PacingLemmas.{replied_host}
use Rattle.lxr_c_many.specs.declared.applying.Applied.{Applied}
use Rattle.lxr_c_many.specs.declared.applying.Told.{Told}
use Rattle.lxr_c_many.specs.declared.asked.Asked.{Asked}
use Rattle.lxr_c_many.specs.declared.asked.Asked.TheVariants as asked
use Rattle.lxr_c_many.specs.declared.asked.Operation.{Operation}
use Rattle.lxr_c_many.specs.Applying.{AllAsk, Applies, Asks, MayBeAsked, Performs, PerformsEntry, all_told, with_told}
use Rattle.lxr_c_many.proofs.HostLemmas.{makes_host, stores_host}

-- ---- histories

pub performs_host : (x y : HostHeap) (h k : List LargeItem) (a : Asked) (told : Told) → IsHostOf x h → Performs x h a y k told → IsHostOf y k
performs_host x y h k (asked.Make o) told is (r, makes, same, tells) = subst (IsHostOf y) (sym same) (makes_host x y h o r is makes)
performs_host x y h k (asked.Store o) told is (r, stores, same, tells) = subst (IsHostOf y) (sym same) (stores_host x y h o r is stores)
performs_host x y h k (asked.Reply o) told is (r, replies, same, tells) = subst (IsHostOf y) (sym same) (replied_host x y h o r is replies)
performs_host x y h k (asked.See o) told is (r, sees, left, same, tells) = subst (IsHostOf y) (sym same) (subst (λ (z : HostHeap). IsHostOf z h) (sym left) is)
performs_host x y h k (asked.IsNil register) told is (nil, sees, left, same, tells) = subst (IsHostOf y) (sym same) (subst (λ (z : HostHeap). IsHostOf z h) (sym left) is)

pub entry_host : (x y : HostHeap) (h k : List LargeItem) (e : Operation) (told : Told) → IsHostOf x h → PerformsEntry x h e y k told → IsHostOf y k
entry_host x y h k e told is (a, asks, performs) = performs_host x y h k a told is performs

-- ---- registers

-- what may be asked for of some registers may be asked for of more
pub asked_more : (m n : ℕ) (a : Asked) → m ≤ n → MayBeAsked m a → MayBeAsked n a
asked_more m n (asked.Make o) few may = making_more m n o few may
asked_more m n (asked.Store o) few may = storing_more m n o few may
asked_more m n (asked.Reply o) few may = quiet_more m n o few may
asked_more m n (asked.See o) few may = may
asked_more m n (asked.IsNil register) few may = may

-- ---- entries

-- where all ask for something, each does
pub asks_at : (registers : ℕ) (es : List Operation) (i : ℕ) (d : Operation) → AllAsk registers es (Ok tt) → i < length es → Asks registers (get_or es i d)
asks_at registers [] i d all within = absurd (omega (arith, within))
asks_at registers (e ∷ es) zero d (inl (asks, rest)) within = asks
asks_at registers (e ∷ es) (suc i) d (inl (asks, rest)) within = asks_at registers es i d rest (omega (arith, within))
asks_at registers (e ∷ es) i d (inr (c, bad, other)) within = absurd (cc)

-- an entry behind those that were told is as it was
pub untold_at : (es : List Operation) (ts : List Told) (i : ℕ) (d : Operation) → length ts ≤ i → get_or (all_told es ts) i d ≡ get_or es i d
untold_at [] ts i d behind = refl
untold_at (e ∷ es) [] i d behind = refl
untold_at (e ∷ es) (t ∷ ts) zero d behind = absurd (omega (arith, behind))
untold_at (e ∷ es) (t ∷ ts) (suc i) d behind = untold_at es ts i d (omega (arith, behind))

pub told_long : (es : List Operation) (ts : List Told) → length (all_told es ts) ≡ length es
told_long [] ts = refl
told_long (e ∷ es) [] = refl
told_long (e ∷ es) (t ∷ ts) = ap suc (told_long es ts)

pub none_told : (es : List Operation) → all_told es [] ≡ es
none_told [] = refl
none_told (e ∷ es) = refl

-- the entry that is told next
pub told_next : (es : List Operation) (ts : List Told) (i : ℕ) (d : Operation) (t : Told) → length ts ≡ i → i < length es → set (all_told es ts) i (with_told (get_or es i d) t) ≡ all_told es (ts ++ t ∷ [])
told_next [] ts i d t long within = absurd (omega (arith, within))
told_next (e ∷ es) [] zero d t long within = ap (λ zs. with_told e t ∷ zs) (sym (none_told es))
told_next (e ∷ es) [] (suc i) d t long within = absurd (omega (arith, long))
told_next (e ∷ es) (u ∷ ts) zero d t long within = absurd (omega (arith, long))
told_next (e ∷ es) (u ∷ ts) (suc i) d t long within = ap (λ zs. with_told e u ∷ zs) (told_next es ts i d t (omega (arith, long)) (omega (arith, within)))

-- ---- in turn

-- So many were done with success: what is done of the others follows.
abbrev pub GoesOn : HostHeap → List LargeItem → List Operation → ℕ → List Told → HostHeap → List LargeItem → Type 0
GoesOn x h es i ts m j = (y : HostHeap) (k : List LargeItem) (us : List Told) (rest : Applied) → Applies m j (drop i es) y k us rest → Applies x h es y k (ts ++ us) (record { code = rest.code; done = i + rest.done })

pub goes_none : (x : HostHeap) (h : List LargeItem) (es : List Operation) → GoesOn x h es 0 [] x h
goes_none x h es y k us rest applies = subst (λ n. Applies x h es y k us (record { code = rest.code; done = n })) (let same : rest.done ≡ 0 + rest.done = omega arith in same) applies

module _ (x : HostHeap) (h : List LargeItem) (es : List Operation) (i : ℕ) (ts : List Told) (m : HostHeap) (j : List LargeItem) (goes : GoesOn x h es i ts m j) where
  -- one more with success
  pub goes_more : (d : Operation) (n : HostHeap) (l : List LargeItem) (t : Told) → i < length es → PerformsEntry m j (get_or es i d) n l t → t.code ≡ code.Done → GoesOn x h es (i + 1) (ts ++ t ∷ []) n l
  goes_more d n l t within performs done y k us rest applies =
      subst (λ vs. Applies x h es y k vs (record { code = rest.code; done = i + 1 + rest.done })) (sym (append_assoc ts (t ∷ []) us))
      (subst (λ c. Applies x h es y k (ts ++ t ∷ us) (record { code = rest.code; done = c })) (let same : i + (rest.done + 1) ≡ i + 1 + rest.done = omega arith in same)
      (goes y k (t ∷ us) (record { code = rest.code; done = rest.done + 1 })
      (subst (λ fs. Applies m j fs y k (t ∷ us) (record { code = rest.code; done = rest.done + 1 })) (sym (drop_more es i d within))
      (n, l, t, us, performs, refl, inl (done, rest, applies, refl)))))

  -- the first without
  pub stops : (d : Operation) (n : HostHeap) (l : List LargeItem) (t : Told) → i < length es → PerformsEntry m j (get_or es i d) n l t → t.code ≢ code.Done → Applies x h es n l (ts ++ t ∷ []) (record { code = t.code; done = i })
  stops d n l t within performs failed =
      subst (λ c. Applies x h es n l (ts ++ t ∷ []) (record { code = t.code; done = c })) (let same : i + 0 ≡ i = omega arith in same)
      (goes n l (t ∷ []) (record { code = t.code; done = 0 })
      (subst (λ fs. Applies m j fs n l (t ∷ []) (record { code = t.code; done = 0 })) (sym (drop_more es i d within))
      (n, l, t, [], performs, refl, inr (failed, refl, refl, refl, refl))))

  -- none is left
  pub ends : length es ≤ i → Applies x h es m j ts (record { code = code.Done; done = i })
  ends all =
      subst (λ us. Applies x h es m j us (record { code = code.Done; done = i })) (append-nil ts)
      (subst (λ c. Applies x h es m j (ts ++ []) (record { code = code.Done; done = c })) (let same : i + 0 ≡ i = omega arith in same)
      (goes m j [] (record { code = code.Done; done = 0 })
      (subst (λ fs. Applies m j fs m j [] (record { code = code.Done; done = 0 })) (sym (drop_all i es all)) (refl, refl, refl, refl))))
