-- Passes that threads take in turn: what a list of turns leaves.
use Rattle.std.proofs.Common.{◌≡◌, ℕ, zero, suc, ◌<◌, Bool, true, false, List, [], ◌∷◌, length, map, arith, refl, sym, subst, ap, ◌∙◌, All}
use Rattle.std.specs.Prelude.{Some, slice_get}
use Rattle.std.proofs.lemmas.List.Elements.{All-cons, All-head, All-map, All-nil, All-tail}
use Rattle.lxr_barrier.proofs.ViewLemmas.{all_at, all_to}
use Rattle.lxr_core.specs.declared.actors.AnyActor.{AnyActor}
use Rattle.lxr_shared_passes.specs.Passing.{Opened, Passing}
use Rattle.lxr_stand.specs.Turning.{Finishes, GoesOn, HasRelayed, turned, untouched}
use Rattle.lxr_run_replay.specs.Replaying.{CanBeReplayed}
use Rattle.lxr_run_threads.specs.declared.standing.Standing.{Standing}
use Rattle.lxr_run_threads.specs.Standing.{IsStanding, MakesLetTurn, first}
use Rattle.lxr_run_threads.specs.Working.{HasPassed, HasServed, HaveWorked, IsDoneOf, IsPassOf}
use Rattle.lxr_run_threads.proofs.GateLemmas.{let_turn_passed}

-- ---- what a list of turns leaves

module _ (table : Opened AnyActor) (passed : ℕ → ℕ → Type 0) (most : ℕ) where
  -- what turns make of a pass, and where the last one was its last in this epoch, it has served
  pub record HasGone (s t : Standing) (through : Bool) : Type 0 where
    pub number : t.pass.number ≡ s.pass.number
    pub pass : IsPassOf table t.pass
    pub served : through ≡ true → HasServed t.pass.actor
    pub passed_on : HasPassed passed s.pass → HasPassed passed t.pass

  gone_on : (s t u : Standing) (a b : Bool) → HasGone s t a → HasGone t u b → HasGone s u b
  gone_on s t u a b before after = record { number = after.number ∙ before.number; pass = after.pass; served = after.served; passed_on = λ passes. after.passed_on (before.passed_on passes) }

  turn_gone : (s t : Standing) (through : Bool) → MakesLetTurn table passed most s t through → HasGone s t through
  turn_gone s t through m = record {
    number = m.turn.same.number;
    pass = m.turn.pass;
    served = m.turn.served;
    passed_on = λ passes. let_turn_passed passed m.turn.unit.0 s.pass t.pass m.let_pass m.turn.unit.1 passes;
  }

  -- and by turns of which none was the last
  turns_gone : (s t : Standing) → IsPassOf table s.pass → GoesOn (MakesLetTurn table passed most) s t → HasGone s t false
  turns_gone s t pass untouched = record { number = refl; pass = pass; served = λ e. absurd (cc); passed_on = λ passes. passes }
  turns_gone s u pass (turned {before} turns m) = gone_on s before u false false (turns_gone s before pass turns) (turn_gone before u false m)

  finished_gone : (s t : Standing) → IsPassOf table s.pass → Finishes (MakesLetTurn table passed most) s t → HasGone s t true
  finished_gone s t pass f = gone_on s f.before t false true (turns_gone s f.before pass f.goes_on) (turn_gone f.before t true f.ends)

  -- ---- all passes

  gone_worked : (ss ts : List Standing) → length ts ≡ length ss → ((i : ℕ) (s t : Standing) → slice_get ss i ≡ Some s → slice_get ts i ≡ Some t → HasGone s t true)
      → HaveWorked table passed (map (λ (s : Standing). s.pass) ss) (map (λ (s : Standing). s.pass) ts)
  gone_worked [] [] many gone = record { done = All-nil (IsDoneOf table); numbers = refl; passed_on = λ all. All-nil (HasPassed passed) }
  gone_worked [] (t ∷ ts) many gone = absurd (omega (arith, many))
  gone_worked (s ∷ ss) [] many gone = absurd (omega (arith, many))
  gone_worked (s ∷ ss) (t ∷ ts) many gone =
      let here = gone 0 s t refl refl in
      let rest = gone_worked ss ts (omega (arith, many)) (λ i a b at at'. gone (suc i) a b at at') in
      record {
        done = All-cons (IsDoneOf table) t.pass _ (here.pass, here.served refl) rest.done;
        numbers = λ i. here.number i ∷ rest.numbers i;
        passed_on = λ all. All-cons (HasPassed passed) t.pass _ (here.passed_on (All-head (HasPassed passed) s.pass _ all)) (rest.passed_on (All-tail (HasPassed passed) s.pass _ all));
      }

-- passes that have made no turn yet are the passes themselves
pub first_passes : (passes : List (Passing AnyActor)) → map (λ (s : Standing). s.pass) (map first passes) ≡ passes
first_passes [] = refl
first_passes (p ∷ passes) = ap (λ (ps : List (Passing AnyActor)). p ∷ ps) (first_passes passes)

-- each of them is one
first_is : (passes : List (Passing AnyActor)) (i : ℕ) (s : Standing) → slice_get (map first passes) i ≡ Some s → (p : Passing AnyActor) × (slice_get passes i ≡ Some p) × (first p ≡ s)
first_is [] i s at = absurd (cc)
first_is (p ∷ passes) zero s at = (p, refl, cc)
first_is (p ∷ passes) (suc i) s at = first_is passes i s at

-- ---- the relay of an epoch

-- at first each pass may make turns
pub all_standing : (table : Opened AnyActor) (most : ℕ) (passes : List (Passing AnyActor)) → CanBeReplayed table.opening → 0 < most → All (IsPassOf table) passes → All (IsStanding table most) (map first passes)
all_standing table most passes fits some of_table =
    All-map (IsStanding table most) first passes
    (all_to (IsPassOf table) (λ (p : Passing AnyActor). IsStanding table most (first p)) passes (λ p is. record { fits = fits; pass = is; turns = λ helper. some }) of_table)

-- and once all are relayed they have worked
pub relayed : (table : Opened AnyActor) (passed : ℕ → ℕ → Type 0) (most : ℕ) (passes : List (Passing AnyActor)) (values after : List Standing) → values ≡ map first passes → All (IsPassOf table) passes
    → HasRelayed (MakesLetTurn table passed most) values after → HaveWorked table passed passes (map (λ (s : Standing). s.pass) after)
relayed table passed most passes values after is of_table relay =
    let were : map (λ (s : Standing). s.pass) values ≡ passes = ap (map (λ (s : Standing). s.pass)) is ∙ first_passes passes in
    subst (λ (ps : List (Passing AnyActor)). HaveWorked table passed ps (map (λ (s : Standing). s.pass) after)) were
    (gone_worked table passed most values after relay.many (λ i s t was now.
    let (p, there, same) = first_is passes i s (ap (λ (ss : List Standing). slice_get ss i) (sym is) ∙ was) in
    let pass : IsPassOf table s.pass = subst (λ (x : Standing). IsPassOf table x.pass) same (all_at (IsPassOf table) passes i p there of_table) in
    finished_gone table passed most s t pass (relay.each i s t was now)))
