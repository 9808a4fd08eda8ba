-- An operation that a mutator has just done is the newest call of its thread, for its replies are the thread's, and by this one more than before.
use Rattle.std.proofs.Common.{Bool, true, false, ◌≡◌, ◌∙◌, ℕ, zero, suc, ◌+◌, ◌-◌, ◌<◌, ◌≤◌, refl, sym, ap, subst, arith, List, [], ◌∷◌, ◌++◌, length, take}
use Rattle.std.specs.Option.{option_or}
use Rattle.std.specs.Prelude.{Some, nat_eq, if◌then◌else◌, slice_get}
use Rattle.std.proofs.lemmas.Bool.Decides.{nat_tests}
use Rattle.std.proofs.lemmas.List.{length-append}
use Rattle.lxr_graph.specs.declared.Op.{Op}
use Rattle.lxr_graph.specs.declared.Op.TheVariants as op
use Rattle.lxr_graph.specs.declared.Reply.{Reply}
use Rattle.lxr_graph.specs.History.{Call, Item, Pause, Renew, calls_of, replies_of}
use Rattle.lxr_model.specs.Belongs.{Script}
use Rattle.lxr_mutator.specs.Mutating.{Mutating, last_reply, newest_of, reply_in}
use Rattle.lxr_mutator.specs.Naming.{all_told_as, told_as}
use Rattle.lxr_mutator.proofs.NamingLemmas.{ends_told, told_length}
use Rattle.lxr_core_invariant.specs.EpochStates.{Extends, IsStepCall, called, same}
use Rattle.lxr_shared_heap.specs.declared.settings.Settings.{Settings}
use Rattle.lxr_shared_heap.specs.Telling.{IsNewestCall, TellsHistory, TellsNewest, newest_reply}

-- ---- lists

-- the last items of a list are one
last_is : {X : Type 0} (xs ys : List X) (x y : X) → xs ++ x ∷ [] ≡ ys ++ y ∷ [] → x ≡ y
last_is [] [] x y e = cc
last_is [] (b ∷ []) x y e = absurd (cc)
last_is [] (b ∷ c ∷ ys) x y e = absurd (cc)
last_is (a ∷ []) [] x y e = absurd (cc)
last_is (a ∷ c ∷ xs) [] x y e = absurd (cc)
last_is (a ∷ xs) (b ∷ ys) x y e = last_is xs ys x y (cc)

-- with the item that comes next, so many and one more
take_next : {X : Type 0} (xs ys : List X) (n : ℕ) (x : X) → slice_get xs n ≡ Some x → take (suc n) (xs ++ ys) ≡ take n xs ++ x ∷ []
take_next [] ys n x at = absurd (cc)
take_next (a ∷ xs) ys zero x at = let same : a ≡ x = cc in ap (λ z. z ∷ []) same
take_next (a ∷ xs) ys (suc n) x at = ap (λ z. a ∷ z) (take_next xs ys n x at)

-- the item behind a list stands at its length
pub behind_is : {X : Type 0} (xs : List X) (x : X) → slice_get (xs ++ x ∷ []) (length xs) ≡ Some x
behind_is [] x = refl
behind_is (a ∷ xs) x = behind_is xs x

-- and is the last one
pub last_stands : {X : Type 0} (xs : List X) (x : X) → slice_get (xs ++ x ∷ []) (length (xs ++ x ∷ []) - 1) ≡ Some x
last_stands xs x =
    let many = length-append xs (x ∷ []) in
    ap (slice_get (xs ++ x ∷ [])) (omega (arith, many)) ∙ behind_is xs x

-- a list that has items has a last one
record HasLast {X : Type 0} (xs : List X) : Type 0 where
  front : List X
  last : X
  is : xs ≡ front ++ last ∷ []

has_last : {X : Type 0} (xs : List X) → 0 < length xs → HasLast xs
has_last [] some = absurd (omega (arith, some))
has_last (x ∷ []) some = record { front = []; last = x; is = refl }
has_last (x ∷ y ∷ ys) some = let rest = has_last (y ∷ ys) (omega arith) in record { front = x ∷ rest.front; last = rest.last; is = ap (λ z. x ∷ z) rest.is }

no_last : {P : Type 0} {X : Type 0} (xs : List X) (x : X) → [] ≡ xs ++ x ∷ [] → P
no_last [] x e = absurd (cc)
no_last (y ∷ xs) x e = absurd (cc)

-- ---- the newest reply

-- the last reply of a thread is its newest
newest_is : (t : ℕ) (h : List Item) (rs : List Reply) (r : Reply) → replies_of t h ≡ rs ++ r ∷ [] → newest_reply t h ≡ Some r
newest_is t [] rs r e = no_last rs r e
newest_is t (Renew ns ∷ h) rs r e = no_last rs r e
newest_is t (Pause report ∷ h) rs r e = newest_is t h rs r e
newest_is t (Call u o q ∷ h) rs r e = by_own (nat_eq t u) e (newest_is t h rs r)
  where
    by_own : (mine : Bool) → (if mine then replies_of t h ++ q ∷ [] else replies_of t h) ≡ rs ++ r ∷ [] → (replies_of t h ≡ rs ++ r ∷ [] → newest_reply t h ≡ Some r) → (if mine then Some q else newest_reply t h) ≡ Some r
    by_own true e earlier = ap Some (last_is (replies_of t h) rs q r e)
    by_own false e earlier = earlier e

-- so a mutator that has replies shows it, as it is told
pub newest_told : (t : ℕ) (h : List Item) (m : Mutating) (r : Reply) → all_told_as m.names (replies_of t h) ≡ m.replies.items → 0 < length m.replies.items → newest_of m ≡ Some r → TellsNewest m.names t h r
newest_told t h m r replies some is =
    let end = has_last m.replies.items some in
    let shown : last_reply m ≡ Some end.last = ap (λ xs. slice_get xs (length xs - 1)) end.is ∙ last_stands end.front end.last in
    let same : Some end.last ≡ Some r = sym (ap (λ z. option_or z (reply_in m.end)) shown) ∙ is in
    let ends = ends_told m.names (replies_of t h) end.front end.last (replies ∙ end.is) in
    let last : end.last ≡ r = cc in
    (ends.last, newest_is t h ends.front ends.last ends.is, ends.told ∙ last)

-- ---- the newest call

-- calls leave a thread at least the replies that it had
pub replies_grow : (threads every : ℕ) (h k : List Item) (t : ℕ) → Extends threads every h k → length (replies_of t h) ≤ length (replies_of t k)
replies_grow threads every h k t (same) = omega arith
replies_grow threads every h k t (called l u p q before is) =
    let earlier = replies_grow threads every h l t before in
    let more = grown (nat_eq t u) (replies_of t l) q in
    omega (arith, earlier, more)
  where
    grown : (mine : Bool) (rs : List Reply) (q : Reply) → length rs ≤ length (if mine then rs ++ q ∷ [] else rs)
    grown true rs q = let many = length-append rs (q ∷ []) in omega (arith, many)
    grown false rs q = omega arith

-- the newest reply of a thread, where it is one more than it had, is that to its newest call
pub newest_stands : (threads every : ℕ) (h k : List Item) (t : ℕ) (os : List Op) (rs : List Reply) (o : Op) (r : Reply) → Extends threads every h k → calls_of t k ≡ os ++ o ∷ [] → replies_of t k ≡ rs ++ r ∷ []
    → length (replies_of t h) ≤ length rs → IsNewestCall threads every h t o r k
newest_stands threads every h k t os rs o r (same) calls replies fewer =
    let many = ap length replies ∙ length-append rs (r ∷ []) in
    absurd (omega (arith, many, fewer))
newest_stands threads every h k t os rs o r (called l u p q before is) calls replies fewer =
    by_own (nat_eq t u) refl calls replies (λ asked told. newest_stands threads every h l t os rs o r before asked told fewer)
  where
    by_own : (mine : Bool) → nat_eq t u ≡ mine → (if mine then calls_of t l ++ p ∷ [] else calls_of t l) ≡ os ++ o ∷ [] → (if mine then replies_of t l ++ q ∷ [] else replies_of t l) ≡ rs ++ r ∷ []
        → (calls_of t l ≡ os ++ o ∷ [] → replies_of t l ≡ rs ++ r ∷ [] → IsNewestCall threads every h t o r l) → IsNewestCall threads every h t o r (Call u p q ∷ l)
    by_own true own calls replies earlier =
        let thread : t ≡ u = grind (arith, nat_tests, own) in
        let asked : p ≡ o = last_is (calls_of t l) os p o calls in
        let told : q ≡ r = last_is (replies_of t l) rs q r replies in
        subst (λ v. IsNewestCall threads every h t o r (Call v p q ∷ l)) thread
        (subst (λ a. IsNewestCall threads every h t o r (Call t a q ∷ l)) (sym asked)
        (subst (λ a. IsNewestCall threads every h t o r (Call t o a ∷ l)) (sym told)
        (record {
          before = l;
          extends = before;
          step = subst (λ a. IsStepCall threads every l t o a) told (subst (λ a. IsStepCall threads every l t a q) asked (subst (λ v. IsStepCall threads every l v p q) (sym thread) is));
          behind = same;
          newest = refl;
        })))
    by_own false own calls replies earlier =
        let rest = earlier calls replies in record {
          before = rest.before;
          extends = rest.extends;
          step = rest.step;
          behind = called l u p q rest.behind is;
          newest = ap (λ b. if b then calls_of t l ++ p ∷ [] else calls_of t l) own ∙ rest.newest;
        }

-- ---- what a station has answered

-- where a mutator has one reply more than it had, to the operation at that place: it is told so
pub told_newest : (settings : Settings) (script : Script) (h k l : List Item) (number : ℕ) (x m : Mutating) (o : Op) (r : Reply) → TellsHistory settings script h k number m → TellsHistory settings script h l number x
    → m.replies.items ≡ x.replies.items ++ r ∷ [] → slice_get m.operations (length x.replies.items) ≡ Some o
    → (replied : Reply) × (told_as m.names replied ≡ r) × IsNewestCall (length script) settings.every h (number + 1) o replied k
told_newest settings script h k l number x m o r tells told one at =
    let n = length x.replies.items in
    let many : length m.replies.items ≡ suc n = ap length one ∙ length-append x.replies.items (r ∷ []) ∙ (omega arith) in
    let had = replies_grow (length script) settings.every h l (number + 1) told.extends in
    let shown = sym (told_length x.names (replies_of (number + 1) l)) ∙ ap length told.replied.replies in
    let ends = ends_told m.names (replies_of (number + 1) k) x.replies.items r (tells.replied.replies ∙ one) in
    let as_many = ends.many in (
      ends.last,
      ends.told,
      newest_stands (length script) settings.every h k (number + 1) (take n m.operations) ends.front o ends.last tells.extends
          (tells.replied.calls ∙ ap (λ j. take j (m.operations ++ op.End ∷ [])) many ∙ take_next m.operations (op.End ∷ []) n o at)
          ends.is
          (omega (arith, had, shown, as_many)),
    )
