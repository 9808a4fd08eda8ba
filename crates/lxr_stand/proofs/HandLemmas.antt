-- What a take means for the thread that made it: it has room for the value, and may send it back.
use Rattle.std.proofs.Common.{◌≡◌, ℕ, ◌+◌, ◌-◌, ◌<◌, ◌≤◌, Bool, true, false, List, [], ◌∷◌, ◌++◌, length, ap, arith}
use Rattle.lxr_stand.specs.declared.rule.Baton.{Baton}
use Rattle.lxr_stand.specs.declared.rule.Holding.{Holding}
use Rattle.lxr_stand.specs.Relaying.{HasTaken, IsFinished, IsIn, IsOnItsWay, most_taken, one_at, places_weigh, price, weigh, with_sent, without, without_parts}
use Rattle.lxr_stand.specs.Turning.GoesOn.{turned}
use Rattle.lxr_stand.specs.Working.{HasLetGo, IsRaceOf}
use Rattle.lxr_stand.proofs.WeighLemmas.{below-many, one_at-same, weigh-ones, weigh-push, weigh-without}

module _ {T : Type 0} (fits : T → Type 0) (made : T → T → Bool → Type 0) (left : T → ℕ) (values : List T) (v : Holding) (b : Baton T) (w : Holding) (took : HasTaken fits made left values v b w) where
  -- the weight of what is out behind a take
  pub taken_out : (h : ℕ → ℕ) → weigh h w.out ≡ h b.place + weigh h v.out
  taken_out h = ap (λ (u : Holding). weigh h u.out) took.is

  pub taken_parts : w.parts ≡ v.parts
  taken_parts = ap (λ (u : Holding). u.parts) took.is

  -- its place is out
  pub taken_in : IsIn b.place w.out
  taken_in = let here = one_at-same b.place in let is = taken_out (one_at b.place) in omega arith

  -- its tokens are there for it
  pub taken_paid : left b.value ≤ w.tokens
  taken_paid = let is : w.tokens ≡ v.tokens + left b.value = ap (λ (u : Holding). u.tokens) took.is in omega arith

  -- each take is nearer to the last
  pub taken_nearer : most_taken left values - w.taken < most_taken left values - v.taken
  taken_nearer = let is : w.taken ≡ v.taken + 1 = ap (λ (u : Holding). u.taken) took.is in let most = took.most in omega arith

  -- there is room for it beside the finished ones
  pub taken_room : (bs : List (Baton T)) → ((h : ℕ → ℕ) → weigh h v.out ≡ places_weigh h bs) → length bs < length values
  taken_room bs out =
      let few = took.few (λ _. 1) in
      let is = taken_out (λ _. 1) in
      let many = out (λ _. 1) in
      let ones = weigh-ones bs in
      let all = below-many (length values) in
      omega arith

  -- it was sent back: what is out is what was out before
  pub sent_back : (bs : List (Baton T)) (u : Holding) → ((h : ℕ → ℕ) → weigh h v.out ≡ places_weigh h bs) → HasLetGo b.place w u → (h : ℕ → ℕ) → weigh h u.out ≡ places_weigh h bs
  sent_back bs u out gone h = let is = taken_out h in let less = gone.out h in let before = out h in omega arith

  -- it was finished: it is out, and among the finished ones
  pub finished_more : (bs : List (Baton T)) (done : Baton T) → ((h : ℕ → ℕ) → weigh h v.out ≡ places_weigh h bs) → done.place ≡ b.place → (h : ℕ → ℕ) → weigh h w.out ≡ places_weigh h (bs ++ done ∷ [])
  finished_more bs done out same h =
      let is = taken_out h in
      let before = out h in
      let more = weigh-push (λ (x : Baton T). h x.place) bs done in
      let here : h done.place ≡ h b.place = ap h same in
      omega arith

module _ {T : Type 0} (fits : T → Type 0) (made : T → T → Bool → Type 0) (left : T → ℕ) (fits' : T → Type 0) (made' : T → T → Bool → Type 0) (left' : T → ℕ) (race : IsRaceOf fits made left fits' made' left') (values : List T) (b : Baton T)
    (way : IsOnItsWay fits made values b) (w : T) where
  -- a turn that answered false leaves a value on its way
  pub way_turned : made' b.value w false → fits' w → IsOnItsWay fits made values (record { place = b.place; value = w })
  way_turned turn fit = record { first = way.first; was = way.was; goes_on = turned way.goes_on (race.turn b.value w false turn); fit = race.fit w fit }

  -- one that answered true ends it
  pub way_ended : made' b.value w true → IsFinished made values (record { place = b.place; value = w })
  way_ended turn = record { first = way.first; was = way.was; finishes = record { before = b.value; goes_on = way.goes_on; ends = race.turn b.value w true turn } }

  -- its tokens are enough for a further send
  pub turned_paid : (tokens : ℕ) → left' w < left' b.value → left b.value ≤ tokens → price left w ≤ tokens
  turned_paid tokens less enough = let before = race.left_is b.value in let after = race.left_is w in omega arith

-- what a send leaves out
pub let_go : {T : Type 0} (left : T → ℕ) (v w : Holding) (b : Baton T) → IsIn b.place v.out → w ≡ with_sent left v b → HasLetGo b.place v w
let_go left v w b out is = record {
  parts = ap (λ (u : Holding). u.parts) is;
  taken = ap (λ (u : Holding). u.taken) is;
  out = λ h. let here : weigh h w.out ≡ weigh h (without b.place v.out) = ap (λ (u : Holding). weigh h u.out) is in let less = weigh-without h b.place v.out out in omega arith;
}

-- one part more is given away
pub parts_more : (v : Holding) (n : ℕ) → without_parts 1 (without_parts n v) ≡ without_parts (n + 1) v
parts_more v n = let e : v.parts - n - 1 ≡ v.parts - (n + 1) = omega arith in ap (λ (p : ℕ). record v { parts = p }) e
