-- Names in two lists one behind the other, the last of a list, and the references from a number on.
use Rattle.std.proofs.Common.{◌≡◌, ℕ, zero, suc, ◌+◌, refl, sym, ap, ◌∙◌, inl, inr, ◌⊎◌, arith, Bool, true, false, cond, List, [], ◌∷◌, ◌++◌, IsTrue, length}
use Rattle.std.specs.Prelude.{◌||◌, Option, Some, map, slice_get}
use Rattle.std.proofs.lemmas.Bool.{or_cases, or_left, or_right}
use Rattle.lxr_layout.specs.declared.Name.{Name}
use Rattle.lxr_graph.specs.Names.{has, same_held, same_name}
use Rattle.lxr_graph.proofs.NameSets.{same_itself}
use Rattle.lxr_model.specs.Moments.{Moment}
use Rattle.lxr_model.specs.References.{occurrences}
use Rattle.lxr_model_counting.specs.Distinct.{IsDistinct}
use Rattle.lxr_model_counting.specs.Following.{FollowsPause, IsLive}
use Rattle.lxr_model_counting.proofs.DistinctLemmas.{or_false, same_flip}
use Rattle.lxr_invariant.specs.AbstractState.{members}
use Rattle.lxr_invariant.specs.Counting.{occurrences_from}

-- nothing is in an empty list
pub no_member : {P : Type 0} (n : Name) → IsTrue (has [] n) → P
no_member n h = absurd (let k : false ≡ true = h in cc)

-- ---- two lists

pub has_append : (us ms : List Name) (n : Name) → has (us ++ ms) n ≡ (has us n || has ms n)
has_append [] ms n = refl
has_append (u ∷ us) ms n = ap (λ b. same_name n u || b) (has_append us ms n) ∙ or_group (same_name n u) (has us n) (has ms n)
  where
    or_group : (a b c : Bool) → (a || (b || c)) ≡ ((a || b) || c)
    or_group true b c = refl
    or_group false b c = refl

-- what is in one of the lists is in both together
pub in_first : (us ms : List Name) (n : Name) → IsTrue (has us n) → IsTrue (has (us ++ ms) n)
in_first us ms n h = has_append us ms n ∙ or_left (has us n) (has ms n) h

pub in_second : (us ms : List Name) (n : Name) → IsTrue (has ms n) → IsTrue (has (us ++ ms) n)
in_second us ms n h = has_append us ms n ∙ or_right (has us n) (has ms n) h

pub in_either : (us ms : List Name) (n : Name) → IsTrue (has (us ++ ms) n) → IsTrue (has us n) ⊎ IsTrue (has ms n)
in_either us ms n h = or_cases (has us n) (has ms n) (sym (has_append us ms n) ∙ h)

-- a longer first list has more
pub in_longer : (us vs ms : List Name) (n : Name) → ((x : Name) → IsTrue (has us x) → IsTrue (has vs x)) → IsTrue (has (us ++ ms) n) → IsTrue (has (vs ++ ms) n)
in_longer us vs ms n sub h = elim (in_either us ms n h) [ inl k ↦ in_first vs ms n (sub n k) | inr k ↦ in_second vs ms n k ]

-- what is live stands in the heap
pub live_member : (m : Moment) (n : Name) → FollowsPause m → IsLive m n → IsTrue (has (members m) n)
live_member m n follows (inl reached) = in_first m.unreclaimed m.made n (follows.kept n reached)
live_member m n follows (inr made) = in_second m.unreclaimed m.made n made

-- ---- the last of a list

pub or_nothing : (b : Bool) → (b || false) ≡ b
or_nothing true = refl
or_nothing false = refl

pub has_more : (ns : List Name) (r n : Name) → has (ns ++ r ∷ []) n ≡ (has ns n || same_name n r)
has_more ns r n = has_append ns (r ∷ []) n ∙ ap (λ b. has ns n || b) (or_nothing (same_name n r))

pub has_last : (ns : List Name) (r : Name) → IsTrue (has (ns ++ r ∷ []) r)
has_last ns r = has_more ns r r ∙ or_right (has ns r) (same_name r r) (same_itself r)

-- a further name at the end, which isn't there yet
pub distinct_more : (ns : List Name) (r : Name) → IsDistinct ns → has ns r ≡ false → IsDistinct (ns ++ r ∷ [])
distinct_more [] r once new = (refl, tt)
distinct_more (x ∷ ns) r once new =
    let parts = or_false (same_name r x) (has ns r) new in
    (has_more ns r x ∙ (λ i. once.0 i || same_flip r x parts.0 i), distinct_more ns r once.1 parts.1)

-- the last of what a list is mapped to is what its last is mapped to
pub split_last : {A B : Type 0} (f : A → B) (ns : List A) (xs : List B) (p : B) → xs ++ p ∷ [] ≡ map f ns → (ms : List A) × (r : A) × (ns ≡ ms ++ r ∷ []) × (xs ≡ map f ms) × (p ≡ f r)
split_last f [] [] p e = absurd (cc)
split_last f [] (x ∷ xs) p e = absurd (cc)
split_last f (n ∷ []) [] p e = ([], n, refl, refl, cc)
split_last f (n ∷ m ∷ ns) [] p e = absurd (cc)
split_last f (n ∷ ns) (x ∷ xs) p e =
    let head : x ≡ f n = cc in
    let tail : xs ++ p ∷ [] ≡ map f ns = cc in
    let s = split_last f ns xs p tail in
    (n ∷ s.0, s.1, ap (λ z. n ∷ z) s.2, (let k = s.3 in cc), s.4)

pub map_empty : {A B : Type 0} (f : A → B) (ns : List A) → [] ≡ map f ns → ns ≡ []
map_empty f [] e = refl
map_empty f (n ∷ ns) e = absurd (cc)

-- ---- references from a number on

pub occurrences_end : (rs : List (Option Name)) (o : Name) → occurrences_from rs (length rs) o ≡ 0
occurrences_end [] o = refl
occurrences_end (r ∷ rs) o = occurrences_end rs o

pub occurrences_step : (rs : List (Option Name)) (i : ℕ) (r : Option Name) (o : Name) → slice_get rs i ≡ Some r → occurrences_from rs i o ≡ cond (same_held (Some o) r) 1 0 + occurrences_from rs (i + 1) o
occurrences_step rs i r o e = let k : suc i ≡ i + 1 = omega arith in next rs i r o e ∙ ap (λ z. cond (same_held (Some o) r) 1 0 + occurrences_from rs z o) k
  where
    next : (rs : List (Option Name)) (i : ℕ) (r : Option Name) (o : Name) → slice_get rs i ≡ Some r → occurrences_from rs i o ≡ cond (same_held (Some o) r) 1 0 + occurrences_from rs (suc i) o
    next [] i r o e = absurd (cc)
    next (q ∷ rs) zero r o e = let k : q ≡ r = cc in ap (λ z. cond (same_held (Some o) z) 1 0 + occurrences rs o) k
    next (q ∷ rs) (suc i) r o e = next rs i r o e
