-- Each step keeps the rule of the channel: sums change by what went from one place to another.
use Rattle.std.proofs.Common.{◌≡◌, ℕ, zero, suc, ◌+◌, ◌<◌, ◌≤◌, Bool, List, [], ◌∷◌, length, set, refl, sym, ap, ◌∙◌, arith}
use mathlib.Core.Option.{some, some-injective, some-ne-none}
use lib.ListN.{get_elem?}
use Rattle.crossbeam_channel.specs.Fifo.{Forks, Learns, Merges, Pops, Pushes}
use Rattle.lxr_stand.specs.declared.rule.Baton.{Baton}
use Rattle.lxr_stand.specs.declared.rule.Holding.{Holding}
use Rattle.lxr_stand.specs.Relaying.{Every, HasTaken, IsIn, IsKept, IsOnItsWay, KnowsAll, all_out, below, empty_hands, most_taken, places_weigh, price, spent, together, weigh, with_sent, with_taken, without, without_parts}
use Rattle.lxr_stand.proofs.WeighLemmas.{every-at, every-push, every-set, weigh-append, weigh-at, weigh-push, weigh-set, weigh-without}

-- a pass without parts has nothing out
abbrev IsIdle : Holding → Type 0
IsIdle v = v.parts ≡ 0 → v.out ≡ []

-- what is out with passes that have no parts
none_out : (h : ℕ → ℕ) (views : List Holding) → weigh (λ v. v.parts) views ≡ 0 → Every IsIdle views → weigh (λ v. weigh h v.out) views ≡ 0
none_out h [] none idle = refl
none_out h (v ∷ vs) none idle =
    let here : weigh h v.out ≡ 0 = ap (weigh h) (idle.0 (omega arith)) in
    let rest = none_out h vs (omega arith) idle.1 in
    omega arith

-- where one pass has all parts, all that is out is out with it
all_with_one : (h : ℕ → ℕ) (views : List Holding) (i : ℕ) (v : Holding) → get_elem? views i ≡ some v → weigh (λ v. v.parts) views ≡ v.parts → Every IsIdle views
    → weigh (λ v. weigh h v.out) views ≡ weigh h v.out
all_with_one h [] i v at all idle = absurd (some-ne-none v (sym at))
all_with_one h (u ∷ us) zero v at all idle =
    let is : u ≡ v = some-injective u v at in
    let parts : u.parts ≡ v.parts = ap (λ (w : Holding). w.parts) is in
    let rest = none_out h us (omega arith) idle.1 in
    let here : weigh h u.out ≡ weigh h v.out = ap (λ (w : Holding). weigh h w.out) is in
    omega arith
all_with_one h (u ∷ us) (suc i) v at all idle =
    let some_parts = weigh-at (λ (w : Holding). w.parts) us i v at in
    let here : weigh h u.out ≡ 0 = ap (weigh h) (idle.0 (omega arith)) in
    let rest = all_with_one h us i v at (omega arith) idle.1 in
    omega arith

module _ {T : Type 0} (fits : T → Type 0) (made : T → T → Bool → Type 0) (left : T → ℕ) (values : List T) where
  abbrev Kept : List (Baton T) → List Holding → Type 0
  Kept = IsKept fits made left values

  -- the channel is empty, and its first pass has all values out
  pub begins : Kept [] (all_out left values ∷ [])
  begins = record {
    ways = tt;
    once = λ h. omega arith;
    paid = omega arith;
    parts = refl;
    idle = ((λ none. absurd (omega arith)), tt);
  }

  -- a value that is out, and on its way, is sent
  pub sends : (n pass : ℕ) (v : Holding) (b : Baton T) → IsIn b.place v.out → IsOnItsWay fits made values b → price left b.value ≤ v.tokens
      → Pushes Kept n pass v b (λ (w : Holding). w ≡ with_sent left v b)
  sends n pass v b out way paid items views room kept at =
      let w = with_sent left v b in (
        w,
        record {
          ways = every-push (IsOnItsWay fits made values) items b kept.ways way;
          once = λ h.
              let before = kept.once h in
              let pushed = weigh-push (λ (x : Baton T). h x.place) items b in
              let changed = weigh-set (λ (u : Holding). weigh h u.out) views pass v w at in
              let less = weigh-without h b.place v.out out in
              omega arith;
          paid =
              let before = kept.paid in
              let pushed = weigh-push (λ (x : Baton T). price left x.value) items b in
              let changed = weigh-set (λ (u : Holding). u.tokens + u.taken) views pass v w at in
              omega arith;
          parts =
              let before = kept.parts in
              let changed = weigh-set (λ (u : Holding). u.parts) views pass v w at in
              omega arith;
          idle = every-set IsIdle views pass w kept.idle (λ none. ap (without b.place) (every-at IsIdle views pass v kept.idle at none));
        },
        refl,
      )

  -- a value is taken
  pub takes : (pass : ℕ) (v : Holding) → 0 < v.parts → Pops Kept pass v (HasTaken fits made left values v)
  takes pass v some_parts b items views kept at =
      let w = with_taken left v b in
      let once : (h : ℕ → ℕ) → places_weigh h items + weigh (λ (u : Holding). weigh h u.out) (set views pass w) ≡ weigh h (below (length values)) = λ h.
      let before = kept.once h in
      let changed = weigh-set (λ (u : Holding). weigh h u.out) views pass v w at in
      omega arith in
      let paid : weigh (λ (x : Baton T). price left x.value) items + weigh (λ (u : Holding). u.tokens + u.taken) (set views pass w) ≡ most_taken left values =
      let before = kept.paid in
      let changed = weigh-set (λ (u : Holding). u.tokens + u.taken) views pass v w at in
      omega arith in (
        w,
        record {
          ways = kept.ways.1;
          once = once;
          paid = paid;
          parts =
              let before = kept.parts in
              let changed = weigh-set (λ (u : Holding). u.parts) views pass v w at in
              omega arith;
          idle = every-set IsIdle views pass w kept.idle (λ none. absurd (omega arith));
        },
        record {
          is = refl;
          way = kept.ways.0;
          few = λ h.
              let before = kept.once h in
              let mine = weigh-at (λ (u : Holding). weigh h u.out) views pass v at in
              omega arith;
          most =
              let before = kept.paid in
              let mine = weigh-at (λ (u : Holding). u.tokens + u.taken) views pass v at in
              omega arith;
        },
      )

  pub learns : (pass : ℕ) (v : Holding) → Learns Kept pass v (KnowsAll fits made left values v)
  learns pass v items views kept at = λ all h.
      let mine = all_with_one h views pass v at (kept.parts ∙ sym all) kept.idle in
      let once = kept.once h in
      omega arith

  -- a part is given to a new pass
  pub parts : (pass : ℕ) (v : Holding) → 1 < v.parts → Forks Kept pass v (without_parts 1 v) empty_hands
  parts pass v some_parts items views kept at =
      let w = without_parts 1 v in
      let vs = set views pass w in
      record {
        ways = kept.ways;
        once = λ h.
            let before = kept.once h in
            let changed = weigh-set (λ (u : Holding). weigh h u.out) views pass v w at in
            let more = weigh-push (λ (u : Holding). weigh h u.out) vs empty_hands in
            omega arith;
        paid =
            let before = kept.paid in
            let changed = weigh-set (λ (u : Holding). u.tokens + u.taken) views pass v w at in
            let more = weigh-push (λ (u : Holding). u.tokens + u.taken) vs empty_hands in
            omega arith;
        parts =
            let before = kept.parts in
            let changed = weigh-set (λ (u : Holding). u.parts) views pass v w at in
            let more = weigh-push (λ (u : Holding). u.parts) vs empty_hands in
            omega arith;
        idle = every-push IsIdle vs empty_hands (every-set IsIdle views pass w kept.idle (λ none. absurd (omega arith))) (λ _. refl);
      }

  -- a pass takes in another
  pub joins : (pass : ℕ) (v : Holding) (other : ℕ) (u : Holding) → 0 < v.parts → Merges Kept pass v other u (together v u) spent
  joins pass v other u some_parts items views kept at apart at' =
      let w = together v u in
      let vs = set views pass w in
      record {
        ways = kept.ways;
        once = λ h.
            let before = kept.once h in
            let first = weigh-set (λ (x : Holding). weigh h x.out) views pass v w at in
            let second = weigh-set (λ (x : Holding). weigh h x.out) vs other u spent at' in
            let both = weigh-append h v.out u.out in
            omega arith;
        paid =
            let before = kept.paid in
            let first = weigh-set (λ (x : Holding). x.tokens + x.taken) views pass v w at in
            let second = weigh-set (λ (x : Holding). x.tokens + x.taken) vs other u spent at' in
            omega arith;
        parts =
            let before = kept.parts in
            let first = weigh-set (λ (x : Holding). x.parts) views pass v w at in
            let second = weigh-set (λ (x : Holding). x.parts) vs other u spent at' in
            omega arith;
        idle = every-set IsIdle vs other spent (every-set IsIdle views pass w kept.idle (λ none. absurd (omega arith))) (λ _. refl);
      }
