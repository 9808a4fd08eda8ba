-- Sending all values, the last first: the next one is out, on its way, and paid for.
use Rattle.std.proofs.Common.{◌≡◌, ℕ, suc, ◌+◌, ◌-◌, ◌≤◌, Bool, List, [], ◌∷◌, ◌++◌, length, refl, sym, subst, ap, ◌∙◌, arith, append_assoc}
use Rattle.std.specs.Prelude.{All, Option, Some, slice_get}
use Rattle.std.proofs.lemmas.Option.{get_or_from_slice_get, slice_get_within}
use Rattle.lxr_stand.specs.declared.rule.Holding.{Holding}
use Rattle.lxr_stand.specs.Relaying.{IsFinished, IsIn, IsOnItsWay, below, one_at, price, weigh, with_sent, without}
use Rattle.lxr_stand.specs.Turning.GoesOn.{untouched}
use Rattle.lxr_stand.specs.Working.{AreSlots, HasKept}
use Rattle.lxr_stand.proofs.WeighLemmas.{one_at-same, weigh-push, weigh-without}
use Rattle.lxr_stand.proofs.KeeperLemmas.{kept_back, sent_on}

-- what stands behind some others
got_behind : {A : Type 0} (xs ys : List A) (x : A) → slice_get (xs ++ x ∷ ys) (length xs) ≡ Some x
got_behind [] ys x = refl
got_behind (z ∷ zs) ys x = got_behind zs ys x

-- the numbers below one more
below_next : (n k : ℕ) → n ≡ k + 1 → below n ≡ k ∷ below k
below_next n k more = let e : n ≡ suc k = omega arith in ap below e

module _ (n k : ℕ) (more : n ≡ k + 1) where
  below_weigh : (h : ℕ → ℕ) → weigh h (below n) ≡ h k + weigh h (below k)
  below_weigh h = ap (weigh h) (below_next n k more)

  -- the next one is out
  pub next_out : (out : List ℕ) → ((h : ℕ → ℕ) → weigh h (below n) ≤ weigh h out) → IsIn k out
  next_out out some = let few = some (one_at k) in let is = below_weigh (one_at k) in let here = one_at-same k in omega arith

  -- those before it are out too, if it comes back
  pub fewer_out : (out : List ℕ) → ((h : ℕ → ℕ) → weigh h (below n) ≤ weigh h out) → (h : ℕ → ℕ) → weigh h (below k) ≤ weigh h out
  fewer_out out some h = let few = some h in let is = below_weigh h in omega arith

  module _ {T : Type 0} (fits : T → Type 0) (made : T → T → Bool → Type 0) (left : T → ℕ) (values : List T) (init sent : List T) (x : T) (all : (init ++ x ∷ []) ++ sent ≡ values) (few : k ≡ length init) where
    -- it stands at its place
    next_was : slice_get values k ≡ Some x
    next_was =
        ap (slice_get values) few
        ∙ (ap (λ vs. slice_get vs (length init)) (sym all ∙ append_assoc init (x ∷ []) sent)
        ∙ got_behind init sent x)

    -- and is on its way, since it fits
    pub next_way : All fits values → IsOnItsWay fits made values (record { place = k; value = x })
    next_way fit = record {
      first = x;
      was = next_was;
      goes_on = untouched;
      fit = subst fits (get_or_from_slice_get values k x x next_was) (fit k x (slice_get_within values k x next_was));
    }

    -- those before it begin the list too
    pub begins_fewer : init ++ (x ∷ sent) ≡ values
    begins_fewer = sym (append_assoc init (x ∷ []) sent) ∙ all

  module _ {T : Type 0} (left : T → ℕ) (init : List T) (x : T) (v : Holding) (paid : weigh (price left) (init ++ x ∷ []) ≤ v.tokens) where
    pub next_paid : price left x ≤ v.tokens
    next_paid = let is = weigh-push (price left) init x in omega arith

    pub fewer_paid : weigh (price left) init ≤ v.tokens
    fewer_paid = let is = weigh-push (price left) init x in omega arith

    module _ (w : Holding) (gone : w ≡ with_sent left v (record { place = k; value = x })) (out : (h : ℕ → ℕ) → weigh h (below n) ≤ weigh h v.out) where
      sent_out : (h : ℕ → ℕ) → weigh h w.out + h k ≡ weigh h v.out
      sent_out h = let is : weigh h w.out ≡ weigh h (without k v.out) = ap (λ (u : Holding). weigh h u.out) gone in let less = weigh-without h k v.out (next_out v.out out) in omega arith

      -- it was sent
      pub sent_paid : weigh (price left) init ≤ w.tokens
      sent_paid = let is = weigh-push (price left) init x in let less : w.tokens ≡ v.tokens - price left x = ap (λ (u : Holding). u.tokens) gone in omega arith

      pub sent_fewer : (h : ℕ → ℕ) → weigh h (below k) ≤ weigh h w.out
      sent_fewer h = let few = out h in let is = below_weigh h in let less = sent_out h in omega arith

      pub sent_slots : (made : T → T → Bool → Type 0) (values : List T) (slots : List (Option T)) → AreSlots made values (below n) v.out slots → AreSlots made values (below k) w.out slots
      sent_slots made values slots are =
          sent_on made values k (below k) v.out w.out slots (subst (λ ns. AreSlots made values ns v.out slots) (below_next n k more) are) sent_out

  -- it came back, and was finished
  pub back_slots : {T : Type 0} (made : T → T → Bool → Type 0) (values : List T) (out : List ℕ) (slots slots' : List (Option T)) → AreSlots made values (below n) out slots
      → HasKept (λ v. IsFinished made values (record { place = k; value = v })) k slots slots' → AreSlots made values (below k) out slots'
  back_slots made values out slots slots' are kept =
      kept_back made values k (below k) out slots slots' (subst (λ ns. AreSlots made values ns out slots) (below_next n k more) are) kept
