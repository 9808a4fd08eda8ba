-- A round, turn by turn: what holds of all passes, and of those that have had their turn.
use Rattle.std.proofs.Common.{◌≡◌, ◌≢◌, ℕ, ◌+◌, ◌≤◌, Bool, true, false, List, length, nat_eq, arith, refl, sym, subst, ap, ◌∙◌, All, get_or}
use Rattle.std.specs.Prelude.{Some, ◌||◌, slice_get, slice_set}
use Rattle.std.proofs.lemmas.List.{length-set}
use Rattle.std.proofs.lemmas.List.Elements.{All-set}
use Rattle.std.proofs.lemmas.Option.{get_or_from_slice_get, slice_get_within, slice_get-get_or}
use Rattle.std.proofs.Math.Seq.{map-set_same}
use Rattle.lxr_actor.specs.Run.{one_if}
use Rattle.lxr_actor.proofs.Runs.{slice_get-set_other, slice_get-set_same}
use Rattle.lxr_barrier.proofs.ViewLemmas.{all_at, sum_set}
use Rattle.lxr_core.specs.declared.actors.AnyActor.{AnyActor}
use Rattle.lxr_shared_passes.specs.Passing.{Opened, Passing}
use Rattle.lxr_run_threads.specs.Dealing.{numbers_of}
use Rattle.lxr_run_threads.specs.Working.{HasServed, IsPassOf, work_in, work_of}

-- Of these passes, those from one place on have had their turn; a mutator goes on or none does. What a turn keeps of a pass is kept.
pub record IsInRound (epoch : Opened AnyActor) (P : Passing AnyActor → Type 0) (before : List (Passing AnyActor)) (left : ℕ) (passes : List (Passing AnyActor)) (some_go_on : Bool) : Type 0 where
  pub few : left ≤ length passes
  pub each : All (IsPassOf epoch) passes
  pub numbers : numbers_of passes ≡ numbers_of before
  pub served : some_go_on ≡ false → (i : ℕ) (p : Passing AnyActor) → left ≤ i → slice_get passes i ≡ Some p → HasServed p.actor
  pub nearer : work_in passes + one_if some_go_on ≤ work_in before
  pub kept : All P before → All P passes

one_if_either : (a b : Bool) → one_if (a || b) ≤ one_if a + one_if b
one_if_either true b = omega arith
one_if_either false b = omega arith

-- neither of two
neither : (a b : Bool) → (a || b) ≡ false → (a ≡ false) × (b ≡ false)
neither true b e = absurd (cc)
neither false b e = (refl, e)

-- before the first turn
pub begins : (epoch : Opened AnyActor) (P : Passing AnyActor → Type 0) (before : List (Passing AnyActor)) (left : ℕ) → All (IsPassOf epoch) before → left ≡ length before → IsInRound epoch P before left before false
begins epoch P before left each all = record {
  few = omega arith;
  each = each;
  numbers = refl;
  served = λ stops i p late at. absurd (let within = slice_get_within before i p at in omega arith);
  nearer = omega arith;
  kept = λ all. all;
}

-- one turn more
pub round_on : (epoch : Opened AnyActor) (P : Passing AnyActor → Type 0) (before : List (Passing AnyActor)) (left left' : ℕ) (passes : List (Passing AnyActor)) (some_go_on goes : Bool) (p q : Passing AnyActor) → IsInRound epoch P before left passes some_go_on
    → left ≡ left' + 1 → slice_get passes left' ≡ Some p → IsPassOf epoch q → q.number ≡ p.number → (goes ≡ false → HasServed q.actor) → work_of q.actor + one_if goes ≤ work_of p.actor → (P p → P q)
    → IsInRound epoch P before left' (slice_set passes left' q) (goes || some_go_on)
round_on epoch P before left left' passes some_go_on goes p q round next at is number served less keeps = record {
  few = let many = length-set passes left' q in let few = round.few in omega arith;
  each = All-set (IsPassOf epoch) passes left' q is round.each;
  numbers = map-set_same (λ (r : Passing AnyActor). r.number) passes left' q p (number ∙ ap (λ (r : Passing AnyActor). r.number) (sym (get_or_from_slice_get passes left' p p at))) ∙ round.numbers;
  served = λ stops i r late got. by_place (neither goes some_go_on stops) i r got (nat_eq i left') refl late;
  nearer =
      let sum = sum_set (λ (r : Passing AnyActor). work_of r.actor) passes left' p q at in
      let either = one_if_either goes some_go_on in
      let so_far = round.nearer in
      omega arith;
  kept = λ all. let passed = round.kept all in All-set P passes left' q (keeps (all_at P passes left' p at passed)) passed;
}
  where
    by_place : (goes ≡ false) × (some_go_on ≡ false) → (i : ℕ) (r : Passing AnyActor) → slice_get (slice_set passes left' q) i ≡ Some r → (b : Bool) → nat_eq i left' ≡ b → left' ≤ i → HasServed r.actor
    by_place (stops, none) i r got true e late =
        let here : i ≡ left' = grind arith in
        let both : Some q ≡ Some r = sym (slice_get-set_same passes left' q (slice_get_within passes left' p at)) ∙ (ap (slice_get (slice_set passes left' q)) (sym here) ∙ got) in
        let same : q ≡ r = cc in
        subst (λ (s : Passing AnyActor). HasServed s.actor) same (served stops)
    by_place (stops, none) i r got false e late =
        let other : i ≢ left' = grind arith in
        round.served none i r (omega arith) (sym (slice_get-set_other passes left' i q other) ∙ got)

-- after the last turn all have served where none goes on
pub all_served : (epoch : Opened AnyActor) (P : Passing AnyActor → Type 0) (before passes : List (Passing AnyActor)) (left : ℕ) (some_go_on : Bool) → IsInRound epoch P before left passes some_go_on → left ≡ 0 → some_go_on ≡ false
    → All (λ (p : Passing AnyActor). HasServed p.actor) passes
all_served epoch P before passes left some_go_on round none stops i d within = round.served stops i (get_or passes i d) (omega arith) (slice_get-get_or passes i d within)

-- Some of these passes had turns since.
pub record AreAfterTurns (epoch : Opened AnyActor) (P : Passing AnyActor → Type 0) (before passes : List (Passing AnyActor)) : Type 0 where
  pub each : All (IsPassOf epoch) passes
  pub numbers : numbers_of passes ≡ numbers_of before
  pub nearer : work_in passes ≤ work_in before
  pub kept : All P before → All P passes

pub one_turn : (epoch : Opened AnyActor) (P : Passing AnyActor → Type 0) (before passes : List (Passing AnyActor)) (at : ℕ) (p q : Passing AnyActor) → AreAfterTurns epoch P before passes
    → slice_get passes at ≡ Some p → IsPassOf epoch q → q.number ≡ p.number → work_of q.actor ≤ work_of p.actor → (P p → P q) → AreAfterTurns epoch P before (slice_set passes at q)
one_turn epoch P before passes at p q turns there is number less keeps = record {
  each = All-set (IsPassOf epoch) passes at q is turns.each;
  numbers = map-set_same (λ (r : Passing AnyActor). r.number) passes at q p (number ∙ ap (λ (r : Passing AnyActor). r.number) (sym (get_or_from_slice_get passes at p p there))) ∙ turns.numbers;
  nearer =
      let sum = sum_set (λ (r : Passing AnyActor). work_of r.actor) passes at p q there in
      let so_far = turns.nearer in
      omega arith;
  kept = λ all. let passed = turns.kept all in All-set P passes at q (keeps (all_at P passes at p there passed)) passed;
}
