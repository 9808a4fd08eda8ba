-- The rule of the channel: where each value is, what it has become, and how many times values are taken at most.
use Rattle.std.specs.Prelude.{◌≡◌, ℕ, zero, suc, ◌+◌, ◌-◌, ◌≤◌, ◌==◌, Bool, List, [], ◌∷◌, ◌++◌, length, Some, slice_get, if◌then◌else◌}
use Rattle.lxr_stand.specs.declared.rule.Baton.{Baton}
use Rattle.lxr_stand.specs.declared.rule.Holding.{Holding}
use Rattle.lxr_stand.specs.declared.rule.TheConstants.{PARTS}
use Rattle.lxr_stand.specs.Turning.{GoesOn, Finishes}

-- what each item weighs, added up
abbrev pub weigh : {A : Type 0} → (A → ℕ) → List A → ℕ
weigh weight [] = 0
weigh weight (x ∷ xs) = weight x + weigh weight xs

-- P holds of each item
abbrev pub Every : {A : Type 0} → (A → Type 0) → List A → Type 0
Every P [] = Unit {0}
Every P (x ∷ xs) = P x × Every P xs

-- the numbers below one, each once
abbrev pub below : ℕ → List ℕ
below zero = []
below (suc n) = n ∷ below n

-- 1 for this number, and 0 for any other
abbrev pub one_at : ℕ → ℕ → ℕ
one_at p q = if p == q then 1 else 0

-- a list without the first one of this number
abbrev pub without : ℕ → List ℕ → List ℕ
without p [] = []
without p (q ∷ qs) = if p == q then qs else q ∷ without p qs

-- the number stands in the list
abbrev pub IsIn : ℕ → List ℕ → Type 0
IsIn p places = 1 ≤ weigh (one_at p) places

-- where these values stand, as weights of places: equal for all weights where the same places stand as often
abbrev pub places_weigh : {T : Type 0} → (ℕ → ℕ) → List (Baton T) → ℕ
places_weigh weight batons = weigh (λ b. weight b.place) batons

-- ---- what passes know

-- a pass of a thread that has taken nothing yet
abbrev pub empty_hands : Holding
empty_hands = record { parts = 1; out = []; tokens = 0; taken = 0 }

-- a pass that another one took in knows nothing any more
abbrev pub spent : Holding
spent = record { parts = 0; out = []; tokens = 0; taken = 0 }

-- what is left to a pass that gave so many parts away
abbrev pub without_parts : ℕ → Holding → Holding
without_parts parts v = record v { parts = v.parts - parts }

-- what both know
abbrev pub together : Holding → Holding → Holding
together v w = record { parts = v.parts + w.parts; out = v.out ++ w.out; tokens = v.tokens + w.tokens; taken = v.taken + w.taken }

module _ {T : Type 0} (left : T → ℕ) where
  -- a value pays one token for each turn that it can still take, the one that ends it included
  abbrev pub price : T → ℕ
  price v = left v + 1

  -- behind a take: the value's place is out, and one of its tokens is spent
  abbrev pub with_taken : Holding → Baton T → Holding
  with_taken v b = record { parts = v.parts; out = b.place ∷ v.out; tokens = v.tokens + left b.value; taken = v.taken + 1 }

  -- behind a send: the value's place is not out any more, and its tokens go with it
  abbrev pub with_sent : Holding → Baton T → Holding
  with_sent v b = record { parts = v.parts; out = without b.place v.out; tokens = v.tokens - price b.value; taken = v.taken }

  -- so many times values are taken at most
  abbrev pub most_taken : List T → ℕ
  most_taken values = weigh price values

  -- the pass that a channel is made with has all values out
  abbrev pub all_out : List T → Holding
  all_out values = record { parts = PARTS; out = below (length values); tokens = most_taken values; taken = 0 }

-- ---- what values are

module _ {T : Type 0} (fits : T → Type 0) (made : T → T → Bool → Type 0) (values : List T) where
  -- a value on its way: it fits, and it is what the first value of its place became by a list of turns that all answered false
  pub record IsOnItsWay (b : Baton T) : Type 0 where
    pub first : T
    pub was : slice_get values b.place ≡ Some first
    pub goes_on : GoesOn made first b.value
    pub fit : fits b.value

module _ {T : Type 0} (made : T → T → Bool → Type 0) (values : List T) where
  -- a value that is finished, and that was the first one of its place
  pub record IsFinished (b : Baton T) : Type 0 where
    pub first : T
    pub was : slice_get values b.place ≡ Some first
    pub finishes : Finishes made first b.value

-- ---- the rule

module _ {T : Type 0} (fits : T → Type 0) (made : T → T → Bool → Type 0) (left : T → ℕ) (values : List T) where
  -- Each value in the channel is on its way. Each place is in the channel or out with one pass, in hand or finished, each once.
  -- No token is lost or made: one is spent for each value that was taken.
  pub record IsKept (items : List (Baton T)) (views : List Holding) : Type 0 where
    pub ways : Every (IsOnItsWay fits made values) items
    pub once : (weight : ℕ → ℕ) → places_weigh weight items + weigh (λ v. weigh weight v.out) views ≡ weigh weight (below (length values))
    pub paid : weigh (λ b. price left b.value) items + weigh (λ v. v.tokens + v.taken) views ≡ most_taken left values
    pub parts : weigh (λ v. v.parts) views ≡ PARTS
    pub idle : Every (λ v. v.parts ≡ 0 → v.out ≡ []) views

  -- a take tells this of what a pass knew, of the value, and of what the pass knows then
  pub record HasTaken (v : Holding) (b : Baton T) (w : Holding) : Type 0 where
    pub is : w ≡ with_taken left v b
    pub way : IsOnItsWay fits made values b
    pub few : (weight : ℕ → ℕ) → weigh weight w.out ≤ weigh weight (below (length values))
    pub most : w.taken ≤ most_taken left values

  -- whoever has all parts learns this of the values in the channel: those places are in it that are not out
  abbrev pub KnowsAll : Holding → List (Baton T) → Type 0
  KnowsAll v items = v.parts ≡ PARTS → (weight : ℕ → ℕ) → places_weigh weight items + weigh weight v.out ≡ weigh weight (below (length values))
