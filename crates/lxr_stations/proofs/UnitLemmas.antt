-- Units that are done one after another, and what has come of them.
use Rattle.std.proofs.Common.{◌≡◌, ◌∙◌, ℕ, suc, ◌+◌, ◌≤◌, true, false, refl, subst, arith}
use Rattle.lxr_core.specs.declared.actors.AnyActor.{AnyActor}
use Rattle.lxr_shared.specs.Ends.{end_of}
use Rattle.lxr_shared_passes.specs.Passing.{IsSamePass, Passing}
use Rattle.lxr_stations.specs.Stations.{HasTurned, HaveWorked, Helps, found_work, is_mutator}

-- so many units were done, each of which found work
pub record HelpsOn (count : ℕ) (p q : Passing AnyActor) : Type 0 where
  pub same : IsSamePass p q
  pub worked : HaveWorked count p q

pub helps_none : (p : Passing AnyActor) → HelpsOn 0 p p
helps_none p = record { same = record { epoch = refl; opening = refl; number = refl }; worked = refl }

pub same_further : (p q r : Passing AnyActor) → IsSamePass p q → IsSamePass q r → IsSamePass p r
same_further p q r first second = record { epoch = second.epoch ∙ first.epoch; opening = second.opening ∙ first.opening; number = second.number ∙ first.number }

-- one more found work
pub helps_more : (n : ℕ) (p q r : Passing AnyActor) → HelpsOn n p q → IsSamePass q r → HasTurned q r → found_work (end_of r.actor) ≡ true → HelpsOn (n + 1) p r
helps_more n p q r on same unit found =
    let next : suc n ≡ n + 1 = omega arith in record { same = same_further p q r on.same same; worked = subst (λ k. HaveWorked k p r) next (q, on.worked, unit, found) }

-- one more found none
pub helps_less : (units n : ℕ) (p q r : Passing AnyActor) → is_mutator p.actor ≡ false → n + 1 ≤ units → HelpsOn n p q → HasTurned q r → found_work (end_of r.actor) ≡ false → Helps units p false r
helps_less units n p q r helper few on unit found = record {
  busy = λ helper no. absurd (cc);
  stopped = λ helper not_all. (n, q, omega (arith, few), on.worked, unit, found);
  mutator = λ is. absurd (cc);
}

-- all found work
pub helps_all : (units : ℕ) (p q : Passing AnyActor) → is_mutator p.actor ≡ false → HelpsOn units p q → Helps units p true q
helps_all units p q helper on = record {
  busy = λ helper yes. on.worked;
  stopped = λ helper no. absurd (cc);
  mutator = λ is. absurd (cc);
}
