-- Each step of a mutator leaves less work in an epoch.
use Rattle.std.proofs.Common.{◌≡◌, ◌≢◌, ℕ, ◌+◌, ◌-◌, ◌*◌, ◌<◌, ◌≤◌, inl, inr, Bool, true, false, [], ◌∷◌, length, arith, refl, ap, length-append}
use Rattle.std.specs.Prelude.{nat_le, if◌then◌else◌, None}
use Rattle.lxr_graph.specs.declared.Reply.{Reply}
use Rattle.lxr_barrier.specs.declared.machines.StorePhase.{StorePhase}
use Rattle.lxr_barrier.specs.declared.machines.StorePhase.TheVariants as store_phase
use Rattle.lxr_barrier.specs.Storing.{Storing, end_in, action_in as store_action_in}
use Rattle.lxr_mutator.specs.declared.phases.MutatorPhase.{MutatorPhase}
use Rattle.lxr_mutator.specs.declared.phases.MutatorPhase.TheVariants as phase
use Rattle.lxr_actor.specs.Machine.{to_go}
use Rattle.lxr_mutator.specs.Mutating.{Mutating, rests_in}
use Rattle.lxr_mutator.specs.Mutators.{IsMutator, MayBeIn}
use Rattle.lxr_mutator.specs.Steps.{left_in, mutator_machine, action, action_in, after, done_with}
use Rattle.lxr_mutator.specs.Laws.{StepsByRule}
use Rattle.lxr_mutator.specs.Laws.StepsByRule.{does_one, finds_asked, finds_end, gave_up, goes_on, stands_still}
use Rattle.lxr_mutator.proofs.NearerLemmas.{step_nearer}
use Rattle.lxr_mutator.proofs.StepLemmas.{step_by_rule}
use Rattle.lxr_run_replay.specs.Working.{units, work, work_in}

-- a further reply makes up for all of the next unit
unit_less : (k n n' : ℕ) → n ≤ k → n' ≡ n + 1 → 2055 * (k + 1 - n') + 2054 < 2055 * (k + 1 - n)
unit_less k n n' few e = omega arith

-- a unit that is left is some work
unit_some : (k n : ℕ) → n ≤ k → 0 < 2055 * (k + 1 - n)
unit_some k n few = omega arith

-- it has a reply to give
abbrev HasUnit : Mutating → Type 0
HasUnit m = length m.replies.items ≤ length m.operations

-- an operation that is done leaves less than all units that were left, whether the mutator goes on or is through
done_by : (m : Mutating) (r : Reply) → HasUnit m → (b : Bool) → work_in (done_with m r) (if b then phase.Finished else phase.Ready) < 2055 * units m
done_by m r few true = unit_some (length m.operations) (length m.replies.items) few
done_by m r few false = unit_less (length m.operations) (length m.replies.items) _ few (length-append m.replies.items (r ∷ []))

-- so does one that is done in either way
done_work : (m : Mutating) (r : Reply) → HasUnit m → work (done_with m r) < 2055 * units m
done_work m r few = done_by m r few (nat_le m.every (m.since + 1))

-- in a phase of a unit it has all units that are left, and what is left of this one
busy_work : (m : Mutating) (p : MutatorPhase) → p ≢ phase.Finished → work_in m p ≡ 2055 * units m + left_in m p
busy_work m phase.Finished goes = absurd (goes refl)
busy_work m p goes = refl

-- so it is where it is nearer to the end of its unit
nearer_work : (m : Mutating) (p : MutatorPhase) (n : ℕ) → rests_in p ≡ false → (if rests_in p then 0 else left_in m p) < n → work_in m p < 2055 * units m + n
nearer_work m p n busy nearer =
    let same = busy_work m p (λ e. (let k = ap rests_in e in absurd (cc))) in
    let left : (if rests_in p then 0 else left_in m p) ≡ left_in m p = ap (λ (b : Bool). if b then 0 else left_in m p) busy in
    omega (arith, same, left, nearer)

-- a step that brings it nearer, or ends its unit, leaves less
step_work : (m : Mutating) (old : ℕ) (to : Mutating) → HasUnit m → m.phase ≢ phase.Finished → to_go mutator_machine to < left_in m m.phase → StepsByRule m old to → work to < work m
step_work m old to has goes nearer (goes_on log registers spans p busy) =
    let less = nearer_work (record m { log = log; registers = registers; spans = spans; phase = p }) p (left_in m m.phase) busy nearer in
    let now = busy_work m m.phase goes in
    omega (arith, less, now)
step_work m old to has goes nearer (finds_asked ready is) = let now = busy_work m m.phase goes in omega (arith, nearer, now)
step_work m old to has goes nearer (finds_end ready unasked is) = let now = busy_work m m.phase goes in omega (arith, nearer, now)
step_work m old to has goes nearer (gave_up why is) = let now = busy_work m m.phase goes in omega (arith, nearer, now)
step_work m old to has goes nearer (does_one log registers r) =
    let done = done_work (record m { log = log; registers = registers }) r has in
    let now = busy_work m m.phase goes in
    omega (arith, done, now)
step_work m old to has goes nearer (stands_still is) = absurd (goes is)

-- what is not through has a unit left
unit_left : (m : Mutating) → IsMutator m → (action m ≡ None → ⊥) → HasUnit m
unit_left m is some = elim is.replies [ inl through ↦ absurd (some (ap (action_in m) through.0)) | inr few ↦ few ]

-- each step leaves less
pub step_works : (m : Mutating) (old : ℕ) → IsMutator m → (action m ≡ None → ⊥) → work (after m old) < work m
step_works m old is some = step_work m old (after m old) (unit_left m is some) (λ e. some (ap (action_in m) e)) (step_nearer m old is some) (step_by_rule m old)

-- a store that has not ended has a next action
storing_acts : (s : Storing) (p : StorePhase) → end_in p ≡ None → store_action_in s p ≡ None → ⊥
storing_acts s store_phase.Begun e n = cc
storing_acts s store_phase.Unlogged e n = cc
storing_acts s (store_phase.Loaded old) e n = cc
storing_acts s store_phase.Logged e n = cc
storing_acts s (store_phase.Ended how) e n = cc

-- what has no next action is finished, by the phase
finished_by : (m : Mutating) (p : MutatorPhase) → MayBeIn m p → action_in m p ≡ None → p ≡ phase.Finished
finished_by m phase.Finished may e = refl
finished_by m (phase.Storing s) may e = absurd (storing_acts s s.phase may.1 e)
finished_by m p may e = absurd (cc)

-- a mutator with no next action is finished
pub finished_phase : (m : Mutating) → IsMutator m → action m ≡ None → m.phase ≡ phase.Finished
finished_phase m is e = finished_by m m.phase is.phase e
