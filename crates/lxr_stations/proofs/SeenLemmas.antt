-- The history of an epoch goes on by calls alone from what each pass has seen to what its end has led to.
use Rattle.std.proofs.Common.{Bool, true, false, ◌≡◌, ◌∙◌, ℕ, zero, suc, ◌+◌, ◌≤◌, ◌⊎◌, inl, inr, refl, sym, ap, subst, arith, List, [], ◌∷◌, ◌++◌, append_assoc, length}
use Rattle.std.specs.Prelude.{Option, Some, None, if◌then◌else◌, slice_get}
use Rattle.lxr_graph.specs.declared.Op.{Op}
use Rattle.lxr_graph.specs.declared.Reply.{Reply}
use Rattle.lxr_graph.specs.History.{Call, Item}
use Rattle.lxr_graph.specs.Step.{step}
use Rattle.lxr_actor.specs.declared.Event.{Event}
use Rattle.lxr_actor.specs.declared.Event.TheVariants.{Give, Order, Out, Step}
use Rattle.lxr_actor.specs.Run.{stepped}
use Rattle.lxr_mutator.specs.Mutating.{op_now}
use Rattle.lxr_mutator.specs.Steps.{mutator_machine}
use Rattle.lxr_core_invariant.specs.EpochStates.{Beginning, Extends, called, limits_of, moment_of, same}
use Rattle.lxr_core_sim_mutator.specs.Stepping.{stands_in}
use Rattle.lxr_core.specs.declared.actors.AnyActor.{AnyActor}
use Rattle.lxr_core.specs.declared.actors.AnyActor.TheVariants as any
use Rattle.lxr_core.specs.Executions.{Execution, HoldsExecution, after_step, epoch_state_of, tell, tell_all}
use Rattle.lxr_core.proofs.ExecutionLemmas.{epoch_invariant_holds}
use Rattle.lxr_shared_passes.specs.Passing.{Every, IsSeen, Opened, Passing}
use Rattle.lxr_stations.specs.Homes.{ArePassesFrom, GoesOnFrom}

-- ---- histories

-- calls behind calls
extends_on : (threads every : ℕ) (h k l : List Item) → Extends threads every h k → Extends threads every k l → Extends threads every h l
extends_on threads every h k l first (same) = first
extends_on threads every h k l first (called j t o r before is) = called j t o r (extends_on threads every h k j first before) is

longer : (threads every : ℕ) (h k : List Item) → Extends threads every h k → length h ≤ length k
longer threads every h k (same) = omega arith
longer threads every h k (called j t o r before is) = let earlier = longer threads every h j before in omega (arith, earlier)

-- a history with one call more goes on by that call
one_more : (threads every : ℕ) (h j : List Item) → Extends threads every h j → (k : List Item) (t : ℕ) (o : Op) (r : Reply) → j ≡ Call t o r ∷ k → Extends threads every h k → Extends threads every k j
one_more threads every h j (same) k t o r is before =
    let fewer = longer threads every h k before in
    let one = ap length is in
    absurd (omega (arith, fewer, one))
one_more threads every h j (called l u p q earlier step) k t o r is before =
    let tail : l ≡ k = cc in
    subst (λ z. Extends threads every z (Call u p q ∷ l)) tail (called l u p q same step)

-- ---- executions

module _ (b : Beginning) where
  -- this history is that of the execution, with one call more or none
  abbrev IsOneMore : Execution → List Item → Type 0
  IsOneMore execution k = (k ≡ execution.history) ⊎ ((t : ℕ) × (o : Op) × (r : Reply) × (k ≡ Call t o r ∷ execution.history))

  by_place : (execution : Execution) (t : ℕ) (o : Op) (r : Reply) (stands : Bool) → IsOneMore execution (if stands then Call t o r ∷ execution.history else execution.history)
  by_place execution t o r true = inr (t, o, r, refl)
  by_place execution t o r false = inl refl

  by_actor : (execution : Execution) (a : Option AnyActor) → IsOneMore execution (after_step b execution a).0
  by_actor execution None = inl refl
  by_actor execution (Some (any.Mutator m)) =
      let s = epoch_state_of b execution [] in
      by_place execution m.thread (op_now m) (step (moment_of b s).state m.thread (op_now m)).1 (stands_in m.phase m (stepped mutator_machine execution.core.words m).1)
  by_actor execution (Some (any.Decrementer d)) = inl refl
  by_actor execution (Some (any.Tracer d)) = inl refl

  by_event : (execution : Execution) (e : Event) → IsOneMore execution (tell b execution e).history
  by_event execution (Step n) = by_actor execution (slice_get execution.core.actors n)
  by_event execution (Give n place) = inl refl
  by_event execution (Out n) = inl refl
  by_event execution (Order n o) = inl refl

  -- each schedule leads on by calls
  all_extend : (execution : Execution) (schedule : List Event) → HoldsExecution b execution → Extends (limits_of b).threads b.every execution.history (tell_all b execution schedule).history
  all_extend execution [] holds = same
  all_extend execution (e ∷ es) holds =
      let after = (epoch_invariant_holds b execution (e ∷ []) holds).holds in
      extends_on (limits_of b).threads b.every execution.history (tell b execution e).history (tell_all b (tell b execution e) es).history (one_extends after (by_event execution e)) (all_extend (tell b execution e) es after)
    where
      one_extends : HoldsExecution b (tell b execution e) → IsOneMore execution (tell b execution e).history → Extends (limits_of b).threads b.every execution.history (tell b execution e).history
      one_extends after (inl stays) = subst (λ k. Extends (limits_of b).threads b.every execution.history k) (sym stays) same
      one_extends after (inr (t, o, r, more)) =
          one_more (limits_of b).threads b.every b.history (tell b execution e).history after.1.epoch.extends execution.history t o r more holds.1.epoch.extends

  tell_behind : (execution : Execution) (first rest : List Event) → tell_all b execution (first ++ rest) ≡ tell_all b (tell_all b execution first) rest
  tell_behind execution [] rest = refl
  tell_behind execution (e ∷ first) rest = tell_behind (tell b execution e) first rest

  -- a beginning of the schedule has led to a beginning of what it has led to
  pub beginning_leads : (execution : Execution) (schedule seen rest : List Event) → HoldsExecution b execution → schedule ≡ seen ++ rest
      → Extends (limits_of b).threads b.every (tell_all b execution seen).history (tell_all b execution schedule).history
  beginning_leads execution schedule seen rest holds whole =
      subst (λ (x : Execution). Extends (limits_of b).threads b.every (tell_all b execution seen).history x.history) (sym (ap (tell_all b execution) whole ∙ tell_behind execution seen rest))
      (all_extend (tell_all b execution seen) rest (epoch_invariant_holds b execution seen holds).holds)

  -- so has what was seen
  pub seen_begins : (execution : Execution) (schedule : List Event) (number : ℕ) (seen : List Event) → HoldsExecution b execution → IsSeen schedule number seen
      → Extends (limits_of b).threads b.every (tell_all b execution seen).history (tell_all b execution schedule).history
  seen_begins execution schedule number seen holds (rest, whole, none) = beginning_leads execution schedule seen rest holds whole

-- ---- passes

-- of a schedule of which each of these passes has seen a beginning, that of a number has
pub seen_at : (epoch : Opened AnyActor) (passes : List (Passing AnyActor)) → ArePassesFrom epoch 0 passes → (schedule : List Event) → Every (λ (p : Passing AnyActor). IsSeen schedule p.number p.seen) passes → (number : ℕ) (p : Passing AnyActor)
    → slice_get passes number ≡ Some p → IsSeen schedule number p.seen
seen_at epoch passes are schedule all number p at = let first : 0 + number ≡ number = omega arith in subst (λ n. IsSeen schedule n p.seen) first (from_on 0 passes are all number p at)
  where
    from_on : (from : ℕ) (ps : List (Passing AnyActor)) → ArePassesFrom epoch from ps → Every (λ (p : Passing AnyActor). IsSeen schedule p.number p.seen) ps → (k : ℕ) (p : Passing AnyActor) → slice_get ps k ≡ Some p → IsSeen schedule (from + k) p.seen
    from_on from [] are all k p at = absurd (cc)
    from_on from (q ∷ ps) are all zero p at =
        let same : q ≡ p = cc in
        let place : from ≡ from + 0 = omega arith in
        subst (λ n. IsSeen schedule n p.seen) place (subst (λ (x : Passing AnyActor). IsSeen schedule from x.seen) same (subst (λ n. IsSeen schedule n q.seen) are.0.number_is all.0))
    from_on from (q ∷ ps) are all (suc k) p at =
        let place : suc from + k ≡ from + suc k = omega arith in
        subst (λ n. IsSeen schedule n p.seen) place (from_on (suc from) ps are.1 all.1 k p at)

-- and of one that it goes on from, its schedule begins with what that one saw
pub goes_on_begins : (schedule : List Event) (number : ℕ) (p q : Passing AnyActor) → GoesOnFrom p q → IsSeen schedule number q.seen → (rest : List Event) × (schedule ≡ p.seen ++ rest)
goes_on_begins schedule number p q on (rest, whole, none) = (on.more ++ rest, whole ∙ ap (λ es. es ++ rest) on.seen ∙ append_assoc p.seen on.more rest)
