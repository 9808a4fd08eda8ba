-- Dealing from the last to the first and gathering from the first to the last: the last pass of a hand is the next in order.
use Rattle.std.proofs.Common.{◌≡◌, ℕ, zero, suc, ◌+◌, ◌-◌, ◌%◌, ◌<◌, Bool, true, false, List, [], ◌∷◌, ◌++◌, map, length, arith, refl, sym, subst, ap, ◌∙◌, zero-add}
use Rattle.std.specs.Prelude.{Some, All, nat_eq, nat_lt, if◌then◌else◌, slice_get, slice_index_or, slice_set}
use Rattle.std.proofs.lemmas.Nat.{mod_below}
use Rattle.std.proofs.lemmas.Option.{slice_get-get_or, slice_get_read, slice_get_within}
use Rattle.std.proofs.lemmas.List.{length-set}
use mathlib.Core.List.{map-append}
use Rattle.lxr_actor.proofs.Runs.{slice_get-set_other, slice_get-set_same}
use Rattle.lxr_barrier.proofs.ViewLemmas.{all_at, all_to}
use Rattle.lxr_core.specs.declared.actors.AnyActor.{AnyActor}
use Rattle.lxr_shared_passes.specs.Passing.{Passing}
use Rattle.lxr_run_threads.specs.declared.dealing.Dealing.{Dealing}
use Rattle.lxr_run_threads.specs.declared.dealing.Hand.{Hand}
use Rattle.lxr_run_threads.specs.Dealing.{AreDealt, IsAmong, IsAmongHands, OfEach, hand_of, numbers_from, numbers_of, worker_of}

-- there is such a worker
worker_within : (d : Dealing) (number : ℕ) → 0 < d.workers → worker_of d number < d.workers
worker_within d number some = by_side (nat_lt number d.mutators)
  where
    by_side : (b : Bool) → (if b then number % d.workers else (number - d.mutators) % d.workers) < d.workers
    by_side true = mod_below number d.workers some
    by_side false = mod_below (number - d.mutators) d.workers some

-- ---- lists

-- what two lists have before their last elements, and these
pub before_last : {X : Type 0} (xs ys : List X) (x y : X) → xs ++ x ∷ [] ≡ ys ++ y ∷ [] → (xs ≡ ys) × (x ≡ y)
before_last [] [] x y e = (refl, cc)
before_last [] (w ∷ []) x y e = absurd (cc)
before_last [] (w ∷ v ∷ ys) x y e = absurd (cc)
before_last (z ∷ []) [] x y e = absurd (cc)
before_last (z ∷ v ∷ xs) [] x y e = absurd (cc)
before_last (z ∷ xs) (w ∷ ys) x y e =
    let rest : xs ++ x ∷ [] ≡ ys ++ y ∷ [] = cc in
    let (same, last) = before_last xs ys x y rest in
    let first : z ≡ w = cc in
    (ap (λ v. v ∷ xs) first ∙ ap (λ vs. w ∷ vs) same, last)

-- one number more behind the others
pub numbers_more : (first count : ℕ) → numbers_from first (suc count) ≡ numbers_from first count ++ (first + count) ∷ []
numbers_more first zero = let e : first ≡ first + 0 = omega arith in ap (λ n. n ∷ []) e
numbers_more first (suc count) =
    let e : first + 1 + count ≡ first + suc count = omega arith in
    ap (λ ns. first ∷ ns) (numbers_more (first + 1) count ∙ ap (λ n. numbers_from (first + 1) count ++ n ∷ []) e)

-- and one before them
pub numbers_at : (first count : ℕ) → first < count → numbers_from first (count - first) ≡ first ∷ numbers_from (first + 1) (count - (first + 1))
numbers_at first count below = let e : count - first ≡ suc (count - (first + 1)) = omega arith in ap (numbers_from first) e

-- the last one of so many passes in order
pub last_number : (passes : List (Passing AnyActor)) (p : Passing AnyActor) (few : ℕ) → numbers_of (passes ++ p ∷ []) ≡ numbers_from 0 (suc few) → (numbers_of passes ≡ numbers_from 0 few) × (p.number ≡ few)
last_number passes p few order = before_last (numbers_of passes) (numbers_from 0 few) p.number few
    (sym (map-append (λ (q : Passing AnyActor). q.number) passes (p ∷ [])) ∙ (order ∙ (numbers_more 0 few ∙ ap (λ n. numbers_from 0 few ++ n ∷ []) (zero-add few))))

-- one more in order
pub next_number : (passes : List (Passing AnyActor)) (p : Passing AnyActor) (few : ℕ) → numbers_of passes ≡ numbers_from 0 few → p.number ≡ few → numbers_of (passes ++ p ∷ []) ≡ numbers_from 0 (few + 1)
next_number passes p few order is =
    let e : suc few ≡ few + 1 = omega arith in
    map-append (λ (q : Passing AnyActor). q.number) passes (p ∷ [])
    ∙ (ap (λ ns. ns ++ p.number ∷ []) order
    ∙ (ap (λ n. numbers_from 0 few ++ n ∷ []) (is ∙ sym (zero-add few))
    ∙ (sym (numbers_more 0 few) ∙ ap (numbers_from 0) e)))

-- ---- hands

-- what is read as the worker of a number has a place among all
pub worker_at : (d : Dealing) (numbers : List ℕ) (hands : List Hand) (number worker : ℕ) (hand : Hand) → 0 < d.workers → AreDealt d numbers hands → worker ≡ worker_of d number
    → hand ≡ slice_index_or hands worker hand → slice_get hands worker ≡ Some hand
worker_at d numbers hands number worker hand some dealt whose read =
    let below = worker_within d number some in
    let many = dealt.as_many in
    slice_get_read hands (length hands) worker hand refl (omega arith) read

-- what stands at a place where an element was put
put_at : {X : Type 0} (xs : List X) (i : ℕ) (x y z : X) → slice_get xs i ≡ Some x → slice_get (slice_set xs i y) i ≡ Some z → y ≡ z
put_at xs i x y z at got = let both : Some y ≡ Some z = sym (slice_get-set_same xs i y (slice_get_within xs i x at)) ∙ got in cc

-- one pass more is dealt: its worker has it behind the others
pub dealt_more : (d : Dealing) (numbers : List ℕ) (hands : List Hand) (number worker : ℕ) (hand hand' : Hand) → AreDealt d numbers hands → slice_get hands worker ≡ Some hand → worker ≡ worker_of d number
    → numbers_of hand'.passes.items ≡ numbers_of hand.passes.items ++ number ∷ [] → AreDealt d (number ∷ numbers) (slice_set hands worker hand')
dealt_more d numbers hands number worker hand hand' dealt at whose more = record {
  as_many = length-set hands worker hand' ∙ dealt.as_many;
  each = λ i h got. by_case i h got (nat_eq (worker_of d number) i) refl;
}
  where
    by_case : (i : ℕ) (h : Hand) → slice_get (slice_set hands worker hand') i ≡ Some h → (b : Bool) → nat_eq (worker_of d number) i ≡ b
        → numbers_of h.passes.items ≡ (if b then hand_of d i numbers ++ number ∷ [] else hand_of d i numbers)
    by_case i h got true e =
        let here : worker ≡ i = grind arith in
        let is : hand' ≡ h = put_at hands worker hand hand' h at (ap (slice_get (slice_set hands worker hand')) here ∙ got) in
        ap (λ (k : Hand). numbers_of k.passes.items) (sym is)
        ∙ (more ∙ (ap (λ ns. ns ++ number ∷ []) (dealt.each worker hand at) ∙ ap (λ j. hand_of d j numbers ++ number ∷ []) here))
    by_case i h got false e = dealt.each i h (sym (slice_get-set_other hands worker i hand' (λ same. absurd (grind arith))) ∙ got)

-- The next pass in order is gathered: it is the last of its worker.
pub record IsTaken (d : Dealing) (number : ℕ) (numbers : List ℕ) (hands : List Hand) (p : Passing AnyActor) : Type 0 where
  pub number_is : p.number ≡ number
  pub dealt : AreDealt d numbers hands

pub taken : (d : Dealing) (numbers : List ℕ) (hands : List Hand) (number worker : ℕ) (hand hand' : Hand) (p : Passing AnyActor) → AreDealt d (number ∷ numbers) hands → slice_get hands worker ≡ Some hand
    → worker ≡ worker_of d number → hand.passes.items ≡ hand'.passes.items ++ p ∷ [] → IsTaken d number numbers (slice_set hands worker hand') p
taken d numbers hands number worker hand hand' p dealt at whose popped = record {
  number_is = ends.1;
  dealt = record {
    as_many = length-set hands worker hand' ∙ dealt.as_many;
    each = λ i h got. by_case i h got (nat_eq (worker_of d number) i) refl;
  };
}
  where
    mine : (b : Bool) → nat_eq (worker_of d number) worker ≡ b → (if b then hand_of d worker numbers ++ number ∷ [] else hand_of d worker numbers) ≡ hand_of d worker numbers ++ number ∷ []
    mine true e = refl
    mine false e = absurd (grind arith)

    ends : (numbers_of hand'.passes.items ≡ hand_of d worker numbers) × (p.number ≡ number)
    ends = before_last (numbers_of hand'.passes.items) (hand_of d worker numbers) p.number number
        (sym (map-append (λ (q : Passing AnyActor). q.number) hand'.passes.items (p ∷ []))
        ∙ (ap numbers_of (sym popped) ∙ (dealt.each worker hand at ∙ mine (nat_eq (worker_of d number) worker) refl)))

    theirs : (i : ℕ) (h : Hand) → slice_get hands i ≡ Some h → nat_eq (worker_of d number) i ≡ false → numbers_of h.passes.items ≡ hand_of d i numbers
    theirs i h got e = dealt.each i h got ∙ ap (λ b. if b then hand_of d i numbers ++ number ∷ [] else hand_of d i numbers) e

    by_case : (i : ℕ) (h : Hand) → slice_get (slice_set hands worker hand') i ≡ Some h → (b : Bool) → nat_eq (worker_of d number) i ≡ b → numbers_of h.passes.items ≡ hand_of d i numbers
    by_case i h got true e =
        let here : worker ≡ i = grind arith in
        let is : hand' ≡ h = put_at hands worker hand hand' h at (ap (slice_get (slice_set hands worker hand')) here ∙ got) in
        ap (λ (k : Hand). numbers_of k.passes.items) (sym is) ∙ (ends.0 ∙ ap (λ j. hand_of d j numbers) here)
    by_case i h got false e = theirs i h (sym (slice_get-set_other hands worker i hand' (λ same. absurd (grind arith))) ∙ got) e

-- a worker whose pass is next has one
pub some_left : (d : Dealing) (numbers : List ℕ) (hands : List Hand) (number worker : ℕ) (hand : Hand) → AreDealt d (number ∷ numbers) hands → slice_get hands worker ≡ Some hand → worker ≡ worker_of d number
    → 0 < length hand.passes.items
some_left d numbers hands number worker hand dealt at whose = not_none hand.passes.items (dealt.each worker hand at) (nat_eq (worker_of d number) worker) refl
  where
    not_none : (ps : List (Passing AnyActor)) → numbers_of ps ≡ hand_of d worker (number ∷ numbers) → (b : Bool) → nat_eq (worker_of d number) worker ≡ b → 0 < length ps
    not_none (p ∷ ps) is b e = omega arith
    not_none [] is false e = absurd (grind arith)
    not_none [] is true e = none (hand_of d worker numbers) (is ∙ ap (λ b. if b then hand_of d worker numbers ++ number ∷ [] else hand_of d worker numbers) e)
      where
        none : {P : Type 0} (ns : List ℕ) → [] ≡ ns ++ number ∷ [] → P
        none [] e = absurd (cc)
        none (n ∷ ns) e = absurd (cc)

-- what holds of each pass, once a worker has others of which it holds
pub of_each_set : (P : Passing AnyActor → Type 0) (hands : List Hand) (worker : ℕ) (hand hand' : Hand) → OfEach P hands → slice_get hands worker ≡ Some hand → All P hand'.passes.items
    → OfEach P (slice_set hands worker hand')
of_each_set P hands worker hand hand' each at all i h got = by_case (nat_eq worker i) refl
  where
    by_case : (b : Bool) → nat_eq worker i ≡ b → All P h.passes.items
    by_case true e =
        let here : worker ≡ i = grind arith in
        subst (λ (k : Hand). All P k.passes.items) (put_at hands worker hand hand' h at (ap (slice_get (slice_set hands worker hand')) here ∙ got)) all
    by_case false e = each i h (sym (slice_get-set_other hands worker i hand' (λ same. absurd (grind arith))) ∙ got)

-- workers whose passes have the same numbers still have those that were dealt
pub still_dealt : (d : Dealing) (numbers : List ℕ) (before after : List Hand) → AreDealt d numbers before → map (λ (h : Hand). numbers_of h.passes.items) after ≡ map (λ (h : Hand). numbers_of h.passes.items) before
    → AreDealt d numbers after
still_dealt d numbers before after dealt same = record {
  as_many = as_many before after same ∙ dealt.as_many;
  each = λ i h got. let (k, at, is) = found before after i h same got in is ∙ dealt.each i k at;
}
  where
    as_many : (bs cs : List Hand) → map (λ (h : Hand). numbers_of h.passes.items) cs ≡ map (λ (h : Hand). numbers_of h.passes.items) bs → length cs ≡ length bs
    as_many [] [] e = refl
    as_many [] (a ∷ cs) e = absurd (cc)
    as_many (b ∷ bs) [] e = absurd (cc)
    as_many (b ∷ bs) (a ∷ cs) e = ap suc (as_many bs cs (cc))

    found : (bs cs : List Hand) (i : ℕ) (h : Hand) → map (λ (h : Hand). numbers_of h.passes.items) cs ≡ map (λ (h : Hand). numbers_of h.passes.items) bs → slice_get cs i ≡ Some h
        → (k : Hand) × (slice_get bs i ≡ Some k) × (numbers_of h.passes.items ≡ numbers_of k.passes.items)
    found [] [] i h e got = absurd (cc)
    found [] (a ∷ cs) i h e got = absurd (cc)
    found (b ∷ bs) [] i h e got = absurd (cc)
    found (b ∷ bs) (a ∷ cs) zero h e got =
        let same : a ≡ h = cc in
        let first : numbers_of a.passes.items ≡ numbers_of b.passes.items = cc in
        (b, refl, ap (λ (k : Hand). numbers_of k.passes.items) (sym same) ∙ first)
    found (b ∷ bs) (a ∷ cs) (suc i) h e got = found bs cs i h (cc) got

-- ---- before the first pass

-- no numbers are dealt where none are left
pub nothing_dealt : (d : Dealing) (count : ℕ) (hands : List Hand) → AreDealt d [] hands → AreDealt d (numbers_from count (count - count)) hands
nothing_dealt d count hands dealt = let none : count - count ≡ 0 = omega arith in subst (λ n. AreDealt d (numbers_from count n) hands) (sym none) dealt

-- workers without passes have none of which anything would not hold
pub none_of_any : (d : Dealing) (P : Passing AnyActor → Type 0) (hands : List Hand) → AreDealt d [] hands → OfEach P hands
none_of_any d P hands dealt i h at = of_none h.passes.items (dealt.each i h at)
  where
    of_none : (ps : List (Passing AnyActor)) → numbers_of ps ≡ [] → All P ps
    of_none [] e = λ k p within. absurd (omega arith)
    of_none (p ∷ ps) e = absurd (cc)

none_behind : (hands : List Hand) (last : Hand) → ((i : ℕ) (hand : Hand) → slice_get hands i ≡ Some hand → hand.passes.items ≡ []) → last.passes.items ≡ [] → (i : ℕ) (hand : Hand)
    → slice_get (hands ++ last ∷ []) i ≡ Some hand → hand.passes.items ≡ []
none_behind [] last none is zero hand at = let same : last ≡ hand = cc in subst (λ (h : Hand). h.passes.items ≡ []) same is
none_behind [] last none is (suc i) hand at = absurd (cc)
none_behind (h ∷ hands) last none is zero hand at = none 0 hand at
none_behind (h ∷ hands) last none is (suc i) hand at = none_behind hands last (λ j k there. none (suc j) k there) is i hand at

-- one worker more without passes
pub none_more : (hands hands' : List Hand) (last : Hand) → hands' ≡ hands ++ last ∷ [] → ((i : ℕ) (hand : Hand) → slice_get hands i ≡ Some hand → hand.passes.items ≡ []) → last.passes.items ≡ []
    → (i : ℕ) (hand : Hand) → slice_get hands' i ≡ Some hand → hand.passes.items ≡ []
none_more hands hands' last more none is i hand at = none_behind hands last none is i hand (ap (λ hs. slice_get hs i) (sym more) ∙ at)

-- ---- whose passes they are

-- each of these passes is among them
pub all_among : (passes : List (Passing AnyActor)) → All (IsAmong passes) passes
all_among passes k d within = (k, slice_get-get_or passes k d within)

-- each of the workers' passes is among these
pub hands_among : (hands : List Hand) → OfEach (IsAmongHands hands) hands
hands_among hands worker hand at k d within = (worker, hand, at, (k, slice_get-get_or hand.passes.items k d within))

-- what holds of all passes that were dealt holds of those of each worker; and back
pub dealt_hold : (P : Passing AnyActor → Type 0) (passes : List (Passing AnyActor)) (hands : List Hand) → All P passes → OfEach (IsAmong passes) hands → OfEach P hands
dealt_hold P passes hands all among worker hand at = all_to (IsAmong passes) P hand.passes.items (λ p (i, there). all_at P passes i p there all) (among worker hand at)

pub gathered_hold : (P : Passing AnyActor → Type 0) (hands : List Hand) (passes : List (Passing AnyActor)) → OfEach P hands → All (IsAmongHands hands) passes → All P passes
gathered_hold P hands passes each among = all_to (IsAmongHands hands) P passes (λ p (worker, hand, at, (i, there)). all_at P hand.passes.items i p there (each worker hand at)) among
