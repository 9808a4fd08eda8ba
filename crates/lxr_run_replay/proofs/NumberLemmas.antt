-- The numbers of actors that may be drawn: where a number stands, and what becomes of them when its actor steps.
use Rattle.std.proofs.Common.{◌≡◌, ℕ, zero, suc, ◌+◌, ◌<◌, Bool, true, false, List, [], ◌∷◌, ◌++◌, length, get_or, set, take, drop, arith, refl, sym, ap, ◌∙◌}
use Rattle.std.specs.Prelude.{if◌then◌else◌, Some, slice_get}
use Rattle.std.specs.List.{remove}
use Rattle.std.proofs.Math.Seq.{take-suc}
use Rattle.std.proofs.lemmas.List.{length-take-le}
use Rattle.lxr_core.specs.declared.actors.AnyActor.{AnyActor}
use Rattle.lxr_run_replay.specs.Replaying.{may_be_drawn, unfinished, unfinished_from}

-- what is known of a number that stands at a place among the unfinished from n on: it is that of an actor that may be drawn, and
-- another in that actor's stead leaves the numbers as they are if it may be too, and else takes this one out
pub record Stands (tracing : Bool) (n : ℕ) (actors : List AnyActor) (place number : ℕ) : Type 0 where
  pub index : ℕ
  pub number_is : number ≡ n + index
  pub actor : AnyActor
  pub at : slice_get actors index ≡ Some actor
  pub acting : may_be_drawn tracing actor ≡ true
  pub still : (a : AnyActor) → may_be_drawn tracing a ≡ true → unfinished_from tracing n (set actors index a) ≡ unfinished_from tracing n actors
  pub gone : (a : AnyActor) → may_be_drawn tracing a ≡ false → unfinished_from tracing n (set actors index a) ≡ remove (unfinished_from tracing n actors) place

-- the numbers where the first actor has this one or not
abbrev pub with_first : ℕ → List ℕ → Bool → List ℕ
with_first n rest b = if b then n ∷ rest else rest

-- nothing is dropped
drop_none : (xs : List ℕ) → drop 0 xs ≡ xs
drop_none [] = refl
drop_none (x ∷ xs) = refl

-- the first place, where the first actor acts
stands_first : (tracing : Bool) (n : ℕ) (a : AnyActor) (actors : List AnyActor) (number : ℕ) → may_be_drawn tracing a ≡ true → n ≡ number → Stands tracing n (a ∷ actors) zero number
stands_first tracing n a actors number does e = record {
  index = 0;
  number_is = omega arith;
  actor = a;
  at = refl;
  acting = does;
  still = λ a' h. ap (with_first n (unfinished_from tracing (n + 1) actors)) (h ∙ sym does);
  gone = λ a' h. ap (with_first n (unfinished_from tracing (n + 1) actors)) h ∙ (sym (drop_none (unfinished_from tracing (n + 1) actors)) ∙ sym (ap (λ b. remove (with_first n (unfinished_from tracing (n + 1) actors) b) 0) does));
}

-- a later place, where the first actor acts
stands_behind : (tracing : Bool) (n : ℕ) (a : AnyActor) (actors : List AnyActor) (place number : ℕ) → may_be_drawn tracing a ≡ true → Stands tracing (n + 1) actors place number → Stands tracing n (a ∷ actors) (suc place) number
stands_behind tracing n a actors place number does s = record {
  index = suc s.index;
  number_is = let e = s.number_is in omega arith;
  actor = s.actor;
  at = s.at;
  acting = s.acting;
  still = λ a' h. ap (λ r. with_first n r (may_be_drawn tracing a)) (s.still a' h);
  gone = λ a' h. ap (λ r. with_first n r (may_be_drawn tracing a)) (s.gone a' h) ∙ (ap (with_first n (remove (unfinished_from tracing (n + 1) actors) place)) does ∙ sym (ap (λ b. remove (with_first n (unfinished_from tracing (n + 1) actors) b) (suc place)) does));
}

-- any place, where the first actor does not act
stands_past : (tracing : Bool) (n : ℕ) (a : AnyActor) (actors : List AnyActor) (place number : ℕ) → may_be_drawn tracing a ≡ false → Stands tracing (n + 1) actors place number → Stands tracing n (a ∷ actors) place number
stands_past tracing n a actors place number idle s = record {
  index = suc s.index;
  number_is = let e = s.number_is in omega arith;
  actor = s.actor;
  at = s.at;
  acting = s.acting;
  still = λ a' h. ap (λ r. with_first n r (may_be_drawn tracing a)) (s.still a' h);
  gone = λ a' h. ap (λ r. with_first n r (may_be_drawn tracing a)) (s.gone a' h) ∙ (ap (with_first n (remove (unfinished_from tracing (n + 1) actors) place)) idle ∙ sym (ap (λ b. remove (with_first n (unfinished_from tracing (n + 1) actors) b) place) idle));
}

-- any place, whether the first actor acts or not
stands_by : (tracing : Bool) (n : ℕ) (a : AnyActor) (actors : List AnyActor) (place number : ℕ)
    → ((p : ℕ) → slice_get (unfinished_from tracing (n + 1) actors) p ≡ Some number → Stands tracing (n + 1) actors p number)
    → (b : Bool) → may_be_drawn tracing a ≡ b → slice_get (with_first n (unfinished_from tracing (n + 1) actors) b) place ≡ Some number → Stands tracing n (a ∷ actors) place number
stands_by tracing n a actors zero number more true does e = stands_first tracing n a actors number does (cc)
stands_by tracing n a actors (suc place) number more true does e = stands_behind tracing n a actors place number does (more place e)
stands_by tracing n a actors place number more false idle e = stands_past tracing n a actors place number idle (more place e)

-- a number among the unfinished is that of an actor that acts
pub stands : (tracing : Bool) (n : ℕ) (actors : List AnyActor) (place number : ℕ) → slice_get (unfinished_from tracing n actors) place ≡ Some number → Stands tracing n actors place number
stands tracing n [] place number e = absurd (cc)
stands tracing n (a ∷ actors) place number e = stands_by tracing n a actors place number (λ p h. stands tracing (n + 1) actors p number h) (may_be_drawn tracing a) refl e

-- the number of a single actor
last_by : (tracing : Bool) (n k : ℕ) → n ≡ k → (a : AnyActor) (b : Bool) → may_be_drawn tracing a ≡ b → unfinished_from tracing n (a ∷ []) ≡ with_first k [] b
last_by tracing n k e a b does = ap (with_first n []) does ∙ ap (λ (m : ℕ). with_first m [] b) e

-- what is added behind is added behind with a first number too
more_by : (n : ℕ) (b : Bool) (r s t : List ℕ) → r ≡ s ++ t → with_first n r b ≡ with_first n s b ++ t
more_by n true r s t e = ap (λ (l : List ℕ). n ∷ l) e
more_by n false r s t e = e

-- one more actor at the end
pub unfinished_more : (tracing : Bool) (n k : ℕ) (actors : List AnyActor) (a : AnyActor) → k ≡ n + length actors → unfinished_from tracing n (actors ++ a ∷ []) ≡ unfinished_from tracing n actors ++ with_first k [] (may_be_drawn tracing a)
unfinished_more tracing n k [] a e = last_by tracing n k (omega arith) a (may_be_drawn tracing a) refl
unfinished_more tracing n k (x ∷ actors) a e = more_by n (may_be_drawn tracing x) _ (unfinished_from tracing (n + 1) actors) _ (unfinished_more tracing (n + 1) k actors a (omega arith))

-- the numbers of one more of a list of actors
pub numbers_more : (tracing : Bool) (actors : List AnyActor) (i : ℕ) (a : AnyActor) (xs : List ℕ) → i < length actors → a ≡ get_or actors i a → xs ≡ unfinished tracing (take i actors)
    → xs ++ with_first i [] (may_be_drawn tracing a) ≡ unfinished tracing (take (i + 1) actors)
numbers_more tracing actors i a xs lt at are =
    let l : length (take i actors) ≡ i = length-take-le i actors (omega arith) in
    let one : i + 1 ≡ suc i = omega arith in
    let more : take (i + 1) actors ≡ take i actors ++ a ∷ [] = ap (λ (k : ℕ). take k actors) one ∙ (take-suc actors i a lt ∙ ap (λ (b : AnyActor). take i actors ++ b ∷ []) (sym at)) in
    ap (λ (l : List ℕ). l ++ with_first i [] (may_be_drawn tracing a)) are
    ∙ (sym (unfinished_more tracing 0 i (take i actors) a (omega arith)) ∙ ap (unfinished tracing) (sym more))
