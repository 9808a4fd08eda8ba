-- What is read of a history item by item begins what is read of the whole. So each call of a whole history that belongs to a script is an
-- operation of it.
use Rattle.std.proofs.Common.{◌≡◌, ◌≢◌, ℕ, zero, suc, ◌+◌, ◌-◌, ◌<◌, ◌≤◌, inl, inr, ◌⊎◌, true, false, List, [], ◌∷◌, ◌++◌, Some, length, refl, sym, ap, subst, ◌∙◌, arith, nat_eq, append_assoc, append-nil}
use Rattle.std.specs.Prelude.{slice_get, slice_index_or}
use Rattle.std.proofs.lemmas.Bool.{cases_Bool, cases_eq, cond-true, cond-false, eq-eqb, ne_eqb}
use Rattle.std.proofs.lemmas.List.{length_push}
use Rattle.std.proofs.lemmas.Option.{none-some, same_Some, slice_get_within, get_or_from_slice_get}
use Rattle.lxr_graph.specs.declared.Op.{Op}
use Rattle.lxr_graph.specs.declared.Op.TheVariants as op
use Rattle.lxr_graph.specs.declared.Reply.{Reply}
use Rattle.lxr_graph.specs.History.{Item, Call, Pause, Renew, calls_of}
use Rattle.lxr_graph.proofs.RowLemmas.{slice_get-push}
use Rattle.lxr_text_script.specs.Limits.{IsScript, IsWritten}
use Rattle.lxr_model.specs.Terms.{Terms}
use Rattle.lxr_model.proofs.UnrenewedLemmas.{IsUnrenewed, legal_unrenewed}
use Rattle.lxr_model.specs.Legal.{IsLegal}
use Rattle.lxr_model.specs.Belongs.{Script, operations_of, next_operation, Belongs}
use Rattle.lxr_judge.proofs.WholeLemmas.{onto, unrenewed_at}

-- ---- what begins a whole

-- what is read of an item stands behind what is read of those before it
abbrev pub Grows : {X : Type 0} → (List Item → List X) → Type 0
Grows {X} read = (x : Item) (h : List Item) → IsUnrenewed (x ∷ h) → (more : List X) × (read (x ∷ h) ≡ read h ++ more)

pub begins : {X : Type 0} (read : List Item → List X) → Grows read → (above h : List Item) → IsUnrenewed (onto above h) → (rest : List X) × (read (onto above h) ≡ read h ++ rest)
begins read grows [] h none = ([], sym (append-nil (read h)))
begins read grows (x ∷ above) h none =
    let more = grows x h (unrenewed_at above (x ∷ h) none) in
    let all = begins read grows above (x ∷ h) none in
    (more.0 ++ all.0, all.1 ∙ (ap (λ (xs : List _). xs ++ all.0) more.1 ∙ append_assoc (read h) more.0 all.0))

get_middle : {X : Type 0} (xs : List X) (y : X) (rest : List X) → slice_get ((xs ++ y ∷ []) ++ rest) (length xs) ≡ Some y
get_middle [] y rest = refl
get_middle (x ∷ xs) y rest = get_middle xs y rest

pub get_front : {X : Type 0} (xs ys : List X) (k : ℕ) (p : X) → slice_get xs k ≡ Some p → slice_get (xs ++ ys) k ≡ Some p
get_front [] ys k p at = absurd (none-some p at)
get_front (x ∷ xs) ys zero p at = at
get_front (x ∷ xs) ys (suc k) p at = get_front xs ys k p at

-- what one item adds stands in the whole where it was added
pub added_at : {X : Type 0} (read : List Item → List X) → Grows read → (above h : List Item) (x : Item) (y : X) → IsUnrenewed (onto above (x ∷ h)) → read (x ∷ h) ≡ read h ++ y ∷ []
    → slice_get (read (onto above (x ∷ h))) (length (read h)) ≡ Some y
added_at read grows above h x y none adds =
    let all = begins read grows above (x ∷ h) none in
    ap (λ (xs : List _). slice_get xs (length (read h))) (all.1 ∙ ap (λ (xs : List _). xs ++ all.0) adds) ∙ get_middle (read h) y all.0

-- ---- calls

pub calls_grow : (t : ℕ) → Grows (calls_of t)
calls_grow t (Renew ns) h none = absurd none
calls_grow t (Pause report) h none = ([], sym (append-nil (calls_of t h)))
calls_grow t (Call u o r) h none = elim (cases_Bool (nat_eq t u)) [
  | inl same ↦ (o ∷ [], cond-true (nat_eq t u) (calls_of t h ++ o ∷ []) (calls_of t h) same)
  | inr other ↦ ([], cond-false (nat_eq t u) (calls_of t h ++ o ∷ []) (calls_of t h) other ∙ sym (append-nil (calls_of t h)))
]

-- a call of the thread adds its operation
pub same_self : (t : ℕ) → nat_eq t t ≡ true
same_self t = eq-eqb t t refl

pub own_call : (t : ℕ) (o : Op) (r : Reply) (h : List Item) → calls_of t (Call t o r ∷ h) ≡ calls_of t h ++ o ∷ []
own_call t o r h = cond-true (nat_eq t t) (calls_of t h ++ o ∷ []) (calls_of t h) (same_self t)

-- ---- operations of a script

written_no_end : (o : Op) → IsWritten o → o ≢ op.End
written_no_end o written is = subst IsWritten is written

-- an operation of a thread is written in the script, or the last, which is its end
operation_at : (script : Script) (t k : ℕ) (o : Op) → IsScript script → 1 ≤ t → t ≤ length script → slice_get (operations_of script t) k ≡ Some o → IsWritten o ⊎ ((o ≡ op.End) × (length (operations_of script t) ≡ k + 1))
operation_at script t k o fits low high at =
    let os = slice_index_or script (t - 1) [] in
    let thread = fits.each (t - 1) [] (omega (arith, low, high)) in
    let count = length_push os op.End in
    elim (cases_eq k (length os)) [
      | inl last ↦
          let is : Some op.End ≡ Some o = sym (slice_get-push os op.End k ∙ cond-true (nat_eq k (length os)) (Some op.End) (slice_get os k) (eq-eqb k (length os) last)) ∙ at in
          inr (sym (same_Some op.End o is), omega (arith, count, last))
      | inr other ↦
          let there : slice_get os k ≡ Some o = sym (slice_get-push os op.End k ∙ cond-false (nat_eq k (length os)) (Some op.End) (slice_get os k) (ne_eqb k (length os) other)) ∙ at in
          inl (subst IsWritten (get_or_from_slice_get os k o op.End there) (thread.each k op.End (slice_get_within os k o there)).written)
    ]

-- no operation of a thread but the last is its end
pub early_no_end : (script : Script) (t k : ℕ) (o : Op) → IsScript script → 1 ≤ t → t ≤ length script → k + 1 < length (operations_of script t) → slice_get (operations_of script t) k ≡ Some o → o ≢ op.End
early_no_end script t k o fits low high early at = elim (operation_at script t k o fits low high at) [
  | inl written ↦ written_no_end o written
  | inr last ↦ let size = last.1 in absurd (omega (arith, early, size))
]

-- ---- a whole history

-- it is legal and belongs to a script
pub record IsWhole (terms : Terms) (script : Script) (h : List Item) : Type 0 where
  pub fits : IsScript script
  pub threads : terms.threads ≡ length script
  pub never : terms.renews ≡ false
  pub legal : IsLegal terms h
  pub belongs : Belongs terms script h

-- names are never renewed in it
pub whole_unrenewed : (terms : Terms) (script : Script) (h : List Item) → IsWhole terms script h → IsUnrenewed h
whole_unrenewed terms script h whole = legal_unrenewed terms h whole.never whole.legal.0

pub next_at : (terms : Terms) (script : Script) (above h : List Item) (t : ℕ) (o : Op) (r : Reply) → IsWhole terms script (onto above (Call t o r ∷ h)) → 1 ≤ t → t ≤ terms.threads → next_operation script t h ≡ Some o
next_at terms script above h t o r whole low high =
    ap (λ (os : List Op). slice_get os (length (calls_of t h))) (sym (whole.belongs.calls t low high)) ∙ added_at (calls_of t) (calls_grow t) above h (Call t o r) o (whole_unrenewed terms script (onto above (Call t o r ∷ h)) whole) (own_call t o r h)

-- a call is written in the script, or is the end
pub written_at : (terms : Terms) (script : Script) (above h : List Item) (t : ℕ) (o : Op) (r : Reply) → IsWhole terms script (onto above (Call t o r ∷ h)) → 1 ≤ t → t ≤ terms.threads → IsWritten o ⊎ (o ≡ op.End)
written_at terms script above h t o r whole low high =
    elim (operation_at script t (length (calls_of t h)) o whole.fits low (omega (arith, high, whole.threads)) (next_at terms script above h t o r whole low high)) [
      | inl written ↦ inl written
      | inr last ↦ inr last.0
    ]

-- none of the calls before another is the end
pub before_no_end : (terms : Terms) (script : Script) (above h : List Item) (t : ℕ) (o : Op) (r : Reply) → IsWhole terms script (onto above (Call t o r ∷ h)) → 1 ≤ t → t ≤ terms.threads → (k : ℕ) (p : Op) → slice_get (calls_of t h) k ≡ Some p → p ≢ op.End
before_no_end terms script above h t o r whole low high k p at =
    let next = next_at terms script above h t o r whole low high in
    let inside = slice_get_within (operations_of script t) (length (calls_of t h)) o next in
    let before = slice_get_within (calls_of t h) k p at in
    let all = begins (calls_of t) (calls_grow t) (Call t o r ∷ above) h (whole_unrenewed terms script (onto above (Call t o r ∷ h)) whole) in
    let there : slice_get (operations_of script t) k ≡ Some p = ap (λ (os : List Op). slice_get os k) (sym (whole.belongs.calls t low high) ∙ all.1) ∙ get_front (calls_of t h) all.0 k p at in
    early_no_end script t k p whole.fits low (omega (arith, high, whole.threads)) (omega (arith, inside, before)) there
