-- What a history of a script says by its calls: how many replies it has, and that a whole one ends with a pause that collects.
use Rattle.std.proofs.Common.{◌≡◌, ◌+◌, ◌∙◌, refl, sym, ap, subst, inl, inr, arith, List, [], ◌∷◌, ◌++◌, length, length-append}
use Rattle.lxr_graph.specs.declared.Op.TheVariants as op
use Rattle.lxr_graph.specs.declared.report.Kind.{Kind}
use Rattle.lxr_graph.specs.declared.report.Kind.TheVariants as kind
use Rattle.lxr_large_model.specs.declared.LargeOp.{LargeOp}
use Rattle.lxr_large_model.specs.declared.LargeOp.TheVariants as large_op
use Rattle.lxr_large_model.specs.Full.{IsFresh, LargeTerms}
use Rattle.lxr_large_model.specs.History.{LargeItem, Called, Paused, Renewed}
use Rattle.lxr_large_model.specs.Pauses.{AsksFor, WasAskedFor}
use Rattle.lxr_large_text.specs.Histories.{IsLargeHistory, called_in, replied_in, with_end}

-- ---- numbers

-- each call has a reply
pub as_many : (h : List LargeItem) → length (replied_in h) ≡ length (called_in h)
as_many [] = refl
as_many (Called o r ∷ h) = let rest = as_many h in let a = length-append (replied_in h) (r ∷ []) in let b = length-append (called_in h) (o ∷ []) in omega (arith, rest, a, b)
as_many (Paused report ∷ h) = as_many h
as_many (Renewed ns ∷ h) = as_many h

-- what is still to come says how many have come
pub has_done : (h : List LargeItem) (o : LargeOp) (rest operations : List LargeOp) → called_in h ++ o ∷ rest ≡ with_end operations → length (replied_in h) + 1 + length rest ≡ length operations + 1
has_done h o rest operations is =
    let same = as_many h in
    let all = ap length is in
    let a = length-append (called_in h) (o ∷ rest) in
    let b = length-append operations (large_op.Small op.End ∷ []) in
    omega (arith, same, all, a, b)

-- ---- the end

-- the last operation of some, or this one where there is none
abbrev last_of : LargeOp → List LargeOp → LargeOp
last_of d [] = d
last_of d (o ∷ os) = last_of o os

last_is : (d : LargeOp) (os : List LargeOp) (o : LargeOp) → last_of d (os ++ o ∷ []) ≡ o
last_is d [] o = refl
last_is d (p ∷ os) o = last_is p os o

same_last : (os ps : List LargeOp) (o p : LargeOp) → os ++ o ∷ [] ≡ ps ++ p ∷ [] → o ≡ p
same_last os ps o p is = sym (last_is o os o) ∙ ap (last_of o) is ∙ last_is o ps p

-- the pause that the last call of a script asked for collects
end_collects : (h : List LargeItem) (k : Kind) (operations : List LargeOp) → called_in h ≡ with_end operations → WasAskedFor h k → k ≡ kind.Collect
end_collects [] k operations calls asked = absurd asked
end_collects (Paused report ∷ h) k operations calls asked = absurd asked
end_collects (Renewed ns ∷ h) k operations calls asked = absurd asked
end_collects (Called o r ∷ h) k operations calls asked = subst (λ p. AsksFor p k) (same_last (called_in h) operations o (large_op.Small op.End) calls) asked

-- so a whole history ends with it
pub ends_fresh : (terms : LargeTerms) (operations : List LargeOp) (h : List LargeItem) → IsLargeHistory terms operations h → IsFresh h
ends_fresh terms operations [] is = let none = ap length is.calls in let some = length-append operations (large_op.Small op.End ∷ []) in absurd (omega (arith, none, some))
ends_fresh terms operations (Called o r ∷ h) is =
    let same = same_last (called_in h) operations o (large_op.Small op.End) is.calls in
    absurd (is.causes.0 kind.Collect (subst (λ p. AsksFor p kind.Collect) (sym same) refl))
ends_fresh terms operations (Paused report ∷ h) is = elim is.causes.0 [ inl asked ↦ end_collects h report.kind operations is.calls asked | inr made ↦ absurd made ]
ends_fresh terms operations (Renewed ns ∷ h) is = absurd is.causes
