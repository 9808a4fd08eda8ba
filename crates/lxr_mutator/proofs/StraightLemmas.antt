-- A stage that is done straight is the step of its phase, and brings the mutator nearer.
use Rattle.std.proofs.Common.{◌≡◌, ℕ, ◌+◌, ◌-◌, ◌<◌, Bool, true, false, arith, refl, sym, ap, subst, ◌∙◌}
use Rattle.std.specs.Prelude.{IsSome, None, if◌then◌else◌, nat_le, nat_lt}
use Rattle.lxr_layout.specs.declared.Place.{Place}
use Rattle.lxr_layout.specs.Objects.{word_count}
use Rattle.lxr_graph.specs.declared.Op.{Op}
use Rattle.lxr_actor.specs.Machine.{to_go}
use Rattle.lxr_actor.specs.Steps.{Does}
use Rattle.lxr_barrier.specs.declared.machines.StorePhase.{StorePhase}
use Rattle.lxr_barrier.specs.declared.machines.StorePhase.TheVariants as store_phase
use Rattle.lxr_barrier.specs.Storing.{Storing, action_in as store_action, end_in}
use Rattle.lxr_mutator.specs.declared.phases.MutatorPhase.{MutatorPhase}
use Rattle.lxr_mutator.specs.declared.phases.MutatorPhase.TheVariants as phase
use Rattle.lxr_mutator.specs.Mutating.{Mutating, op_now, rests_in}
use Rattle.lxr_mutator.specs.Steps.{action, after_in, left_in, mutator_machine, next_in, shape_now, wiped}
use Rattle.lxr_mutator.specs.Laws.{StepsByRule, does_one, finds_asked, finds_end, gave_up, goes_on, stands_still}
use Rattle.lxr_mutator.specs.Mutators.{IsAskedIn, IsBusy, IsMutator}
use Rattle.lxr_mutator.proofs.NearerLemmas.{ready_nearer, storing_nearer}
use Rattle.lxr_mutator.proofs.NowLemmas.{few_words}
use Rattle.lxr_mutator.proofs.StepLemmas.{done_rests, step_by_rule}

-- what a stage leads to is what the step of its phase leads to
pub staged : {S : Type 0} (did : S → Mutating → ℕ → S → Type 0) (m m' : Mutating) (s t : S) (p : MutatorPhase) (old : ℕ)
    → m.phase ≡ p → m' ≡ next_in m p old → to_go mutator_machine (next_in m p old) < left_in m p → did s m old t → Does mutator_machine did m s m' t
staged did m m' s t p old is leads nearer step = record {
  old = old;
  step = step;
  after = leads ∙ ap (λ (q : MutatorPhase). next_in m q old) (sym is);
  nearer = subst (λ (q : MutatorPhase). to_go mutator_machine m' < left_in m q) (sym is) (subst (λ (x : Mutating). to_go mutator_machine x < left_in m p) (sym leads) nearer);
}

-- at the beginning of a unit
pub ready_staged : {S : Type 0} (did : S → Mutating → ℕ → S → Type 0) (m m' : Mutating) (s t : S) (old : ℕ)
    → m.phase ≡ phase.Ready → IsMutator m → m' ≡ after_in m phase.Ready old → did s m old t → Does mutator_machine did m s m' t
ready_staged did m m' s t old is sound leads step = staged did m m' s t phase.Ready old is leads (ready_nearer m old (few_words m sound)) step

-- in a store
pub store_staged : {S : Type 0} (did : S → Mutating → ℕ → S → Type 0) (m m' : Mutating) (s t : S) (store : Storing) (old : ℕ)
    → IsBusy m (phase.Storing store) → m' ≡ next_in m (phase.Storing store) old → did s m old t → Does mutator_machine did m s m' t
store_staged did m m' s t store old busy leads step = staged did m m' s t (phase.Storing store) old busy.phase leads (storing_nearer m store old busy.may.1) step

-- one word fewer is left to wipe, or the header
wiped_to_go : (m : Mutating) (place : Place) (next : ℕ) → next < word_count (shape_now m) → (b : Bool) → nat_lt (next + 1) (word_count (shape_now m)) ≡ b
    → to_go mutator_machine (record m { phase = if b then phase.Wiping place (next + 1) else phase.Heading place }) < word_count (shape_now m) - next + 1
wiped_to_go m place next within true e = omega arith
wiped_to_go m place next within false e = omega arith

-- where words are wiped
pub wipe_staged : {S : Type 0} (did : S → Mutating → ℕ → S → Type 0) (m m' : Mutating) (s t : S) (place : Place) (next old : ℕ)
    → IsBusy m (phase.Wiping place next) → m' ≡ wiped m place next → did s m old t → Does mutator_machine did m s m' t
wipe_staged did m m' s t place next old busy leads step =
    staged did m m' s t (phase.Wiping place next) old busy.phase leads (wiped_to_go m place next busy.may.1.1 (nat_lt (next + 1) (word_count (shape_now m))) refl) step

-- a store in progress has a next step
store_acts_in : (s : Storing) (p : StorePhase) → end_in p ≡ None → IsSome (store_action s p)
store_acts_in s store_phase.Begun e = refl
store_acts_in s store_phase.Unlogged e = refl
store_acts_in s (store_phase.Loaded old) e = refl
store_acts_in s store_phase.Logged e = refl
store_acts_in s (store_phase.Ended how) e = absurd (cc)

pub store_acts : (m : Mutating) (store : Storing) → IsBusy m (phase.Storing store) → IsSome (action m)
store_acts m store busy = subst (λ (p : MutatorPhase). IsSome (action (record m { phase = p }))) (sym busy.phase) (store_acts_in store store.phase busy.may.1)

-- as long as a unit goes on, its operation is the one whose turn it is
same_op : (m : Mutating) (old : ℕ) (to : Mutating) → StepsByRule m old to → rests_in to.phase ≡ false → op_now to ≡ op_now m
same_op m old to (goes_on log registers spans p busy) on = refl
same_op m old to (finds_asked ready is) on = absurd (cc)
same_op m old to (finds_end ready unasked is) on = absurd (cc)
same_op m old to (gave_up why is) on = absurd (cc)
same_op m old to (does_one log registers r) on = let rest = done_rests (nat_le m.every (m.since + 1)) in absurd (cc)
same_op m old to (stands_still is) on = refl

pub still_asked : {S : Type 0} (did : S → Mutating → ℕ → S → Type 0) (m m' : Mutating) (s t : S) (o : Op)
    → o ≡ op_now m → Does mutator_machine did m s m' t → IsAskedIn m'.phase o (op_now m')
still_asked did m m' s t o is does busy = is ∙ sym (same_op m does.old m' (subst (StepsByRule m does.old) (sym does.after) (step_by_rule m does.old)) busy)
