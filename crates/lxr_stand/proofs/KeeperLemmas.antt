-- Slots fill up: each value that leaves the channel for good stands in its slot, finished.
use Rattle.std.proofs.Common.{◌≡◌, ◌≢◌, ℕ, zero, suc, ◌+◌, ◌<◌, ◌==◌, Bool, true, false, List, [], ◌∷◌, map, length, get_or, set, refl, sym, subst, ap, ◌∙◌, arith, eqb-true, length-set}
use Rattle.std.specs.Prelude.{Option, Some, None, IsSome, option_map, All, slice_get}
use Rattle.std.proofs.lemmas.Bool.{eqb-false}
use Rattle.std.proofs.lemmas.Option.{same_Some, slice_get-get_or, slice_get-map, slice_get_within}
use Rattle.std.proofs.lemmas.List.{length-map}
use Rattle.lxr_stand.specs.declared.rule.Baton.{Baton}
use Rattle.lxr_stand.specs.Relaying.{IsFinished, IsOnItsWay, below, one_at, weigh}
use Rattle.lxr_stand.specs.Turning.{Finishes, GoesOn, HasRelayed}
use Rattle.lxr_stand.specs.Turning.GoesOn.{untouched, turned}
use Rattle.lxr_stand.specs.Working.{AreSlots, HasKept, IsRaceOf}
use Rattle.lxr_stand.proofs.WeighLemmas.{below-has, one_at-other}

-- ---- lists

module _ {A : Type 0} where
  pub got_same : (xs : List A) (i : ℕ) (x : A) → i < length xs → slice_get (set xs i x) i ≡ Some x
  got_same [] i x few = absurd (omega arith)
  got_same (y ∷ ys) zero x few = refl
  got_same (y ∷ ys) (suc i) x few = got_same ys i x (omega arith)

  pub got_other : (xs : List A) (i j : ℕ) (x : A) → j ≢ i → slice_get (set xs i x) j ≡ slice_get xs j
  got_other [] i j x other = refl
  got_other (y ∷ ys) zero zero x other = absurd (other refl)
  got_other (y ∷ ys) zero (suc j) x other = refl
  got_other (y ∷ ys) (suc i) zero x other = refl
  got_other (y ∷ ys) (suc i) (suc j) x other = got_other ys i j x (λ e. other (ap suc e))

-- ---- turns

module _ {T : Type 0} (made : T → T → Bool → Type 0) where
  -- one list of turns behind another
  pub goes_on_more : (first v w : T) → GoesOn made first v → GoesOn made v w → GoesOn made first w
  goes_on_more first v w before untouched = before
  goes_on_more first v w before (turned {before = u} more turn) = turned (goes_on_more first v u before more) turn

  pub finishes_more : (first v w : T) → GoesOn made first v → Finishes made v w → Finishes made first w
  finishes_more first v w before after = record { before = after.before; goes_on = goes_on_more first v after.before before after.goes_on; ends = after.ends }

module _ {T : Type 0} (fits : T → Type 0) (made : T → T → Bool → Type 0) (left : T → ℕ) (fits' : T → Type 0) (made' : T → T → Bool → Type 0) (left' : T → ℕ) (race : IsRaceOf fits made left fits' made' left') where
  -- turns of the work are turns of the race
  pub goes_on_in : (v w : T) → GoesOn made' v w → GoesOn made v w
  goes_on_in v w untouched = untouched
  goes_on_in v w (turned {before = u} more turn) = turned (goes_on_in v u more) (race.turn u w false turn)

  pub finishes_in : (v w : T) → Finishes made' v w → Finishes made v w
  finishes_in v w f = record { before = f.before; goes_on = goes_on_in v f.before f.goes_on; ends = race.turn f.before w true f.ends }

  -- a value on its way that turns of the work have finished
  pub way_finished : (values : List T) (b : Baton T) (w : T) → IsOnItsWay fits made values b → Finishes made' b.value w → IsFinished made values (record { place = b.place; value = w })
  way_finished values b w way f = record { first = way.first; was = way.was; finishes = finishes_more made way.first b.value w way.goes_on (finishes_in b.value w f) }

-- ---- slots

module _ {T : Type 0} (made : T → T → Bool → Type 0) (values : List T) where
  -- at the beginning all are empty, and all values are out and are to be sent
  pub none_kept : (slots : List (Option T)) → length slots ≡ length values → All (λ s. s ≡ None) slots → AreSlots made values (below (length values)) (below (length values)) slots
  none_kept slots many none = record {
    many = many;
    filled = λ place v at.
        let few = slice_get_within slots place (Some v) at in
        let is : Some v ≡ None = none_at slots place (Some v) none at in
        absurd (grind arith);
    empty = λ place at. refl;
  }
    where
      none_at : (xs : List (Option T)) (i : ℕ) (x : Option T) → All (λ s. s ≡ None) xs → slice_get xs i ≡ Some x → x ≡ None
      none_at xs i x all at = let e = same_Some _ _ (sym at ∙ slice_get-get_or xs i x (slice_get_within xs i x at)) in e ∙ all i x (slice_get_within xs i x at)

  -- what is out matters by weights alone
  pub same_out : (to_send out out' : List ℕ) (slots : List (Option T)) → AreSlots made values to_send out slots → ((h : ℕ → ℕ) → weigh h out' ≡ weigh h out) → AreSlots made values to_send out' slots
  same_out to_send out out' slots are same = record { many = are.many; filled = are.filled; empty = λ place at. same (one_at place) ∙ are.empty place at }

  -- the next value was sent, and is not out any more
  pub sent_on : (k : ℕ) (rest out out' : List ℕ) (slots : List (Option T)) → AreSlots made values (k ∷ rest) out slots → ((h : ℕ → ℕ) → weigh h out' + h k ≡ weigh h out) → AreSlots made values rest out' slots
  sent_on k rest out out' slots are less = record {
    many = are.many;
    filled = are.filled;
    empty = λ place at. let before = are.empty place at in let gone = less (one_at place) in omega arith;
  }

  -- a finished value was put in its slot
  pub kept_one : (to_send to_send' out out' : List ℕ) (slots slots' : List (Option T)) (k : ℕ) → AreSlots made values to_send out slots
      → HasKept (λ v. IsFinished made values (record { place = k; value = v })) k slots slots'
      → ((p : ℕ) → p ≢ k → weigh (one_at p) out ≡ weigh (one_at p) to_send → weigh (one_at p) out' ≡ weigh (one_at p) to_send') → AreSlots made values to_send' out' slots'
  kept_one to_send to_send' out out' slots slots' k are kept others =
      let few : k < length slots = subst (λ n. k < n) (sym are.many) (slice_get_within values k kept.such.first kept.such.was) in
      record {
        many = ap length kept.is ∙ (length-set slots k (Some kept.value) ∙ are.many);
        filled = λ place v at. filled few place v (ap (λ xs. slice_get xs place) (sym kept.is) ∙ at) (place == k) refl;
        empty = λ place at. empty few place (ap (λ xs. slice_get xs place) (sym kept.is) ∙ at) (place == k) refl;
      }
    where
      filled : k < length slots → (place : ℕ) (v : T) → slice_get (set slots k (Some kept.value)) place ≡ Some (Some v) → (b : Bool) → (place == k) ≡ b
          → IsFinished made values (record { place = place; value = v })
      filled few place v at true e =
          let here = eqb-true place k e in
          let is : kept.value ≡ v = same_Some _ _ (same_Some _ _ (sym (got_same slots k (Some kept.value) few) ∙ (ap (slice_get (set slots k (Some kept.value))) (sym here) ∙ at))) in
          subst (λ (x : ℕ × T). IsFinished made values (record { place = x.0; value = x.1 })) (λ i. (sym here i, is i)) kept.such
      filled few place v at false e = are.filled place v (sym (got_other slots k place (Some kept.value) (eqb-false place k e)) ∙ at)

      empty : k < length slots → (place : ℕ) → slice_get (set slots k (Some kept.value)) place ≡ Some None → (b : Bool) → (place == k) ≡ b → weigh (one_at place) out' ≡ weigh (one_at place) to_send'
      empty few place at true e =
          let here = eqb-true place k e in
          let is : Some kept.value ≡ None = same_Some _ _ (sym (got_same slots k (Some kept.value) few) ∙ (ap (slice_get (set slots k (Some kept.value))) (sym here) ∙ at)) in
          absurd (grind arith)
      empty few place at false e =
          let other = eqb-false place k e in
          others place other (are.empty place (sym (got_other slots k place (Some kept.value) other) ∙ at))

  -- the next value that was to be sent came back, and was finished
  pub kept_back : (k : ℕ) (rest out : List ℕ) (slots slots' : List (Option T)) → AreSlots made values (k ∷ rest) out slots
      → HasKept (λ v. IsFinished made values (record { place = k; value = v })) k slots slots' → AreSlots made values rest out slots'
  kept_back k rest out slots slots' are kept = kept_one (k ∷ rest) rest out out slots slots' k are kept (λ p other same. let none = one_at-other p k other in omega arith)

  -- a value that was out beside the others was finished
  pub kept_more : (k : ℕ) (out out' : List ℕ) (slots slots' : List (Option T)) → AreSlots made values [] out slots
      → HasKept (λ v. IsFinished made values (record { place = k; value = v })) k slots slots' → ((h : ℕ → ℕ) → weigh h out' ≡ h k + weigh h out) → AreSlots made values [] out' slots'
  kept_more k out out' slots slots' are kept more = kept_one [] [] out out' slots slots' k are kept (λ p other same. let none = one_at-other p k other in let is = more (one_at p) in omega arith)

  -- where all values are out and none is to be sent, no slot is empty
  pub all_kept : (out : List ℕ) (slots : List (Option T)) → AreSlots made values [] out slots → ((h : ℕ → ℕ) → weigh h out ≡ weigh h (below (length values))) → All IsSome slots
  all_kept out slots are all place d few = by_slot (get_or slots place d) (slice_get-get_or slots place d few)
    where
      by_slot : (s : Option T) → slice_get slots place ≡ Some s → IsSome s
      by_slot (Some v) at = refl
      by_slot None at =
          let none = are.empty place at in
          let many = are.many in
          let has = below-has place (length values) (omega arith) in
          let is = all (one_at place) in
          absurd (omega arith)

  -- what stands in the slots is what the values were finished to
  pub listed : (out : List ℕ) (slots : List (Option T)) (after : List T) → AreSlots made values [] out slots → map Some after ≡ slots → HasRelayed made values after
  listed out slots after are is = record {
    many = sym (length-map after Some) ∙ (ap length is ∙ are.many);
    each = λ place first last was at.
        let here : slice_get slots place ≡ Some (Some last) = ap (λ xs. slice_get xs place) (sym is) ∙ (slice_get-map Some after place ∙ ap (option_map Some) at) in
        let finished = are.filled place last here in
        let same : finished.first ≡ first = same_Some _ _ (sym finished.was ∙ was) in
        subst (λ v. Finishes made v last) same finished.finishes;
  }
