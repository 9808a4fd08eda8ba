-- How much work a mutator has before it in an epoch.
use Rattle.std.specs.Prelude.{ℕ, ◌+◌, ◌-◌, ◌*◌, length}
use Rattle.lxr_mutator.specs.declared.phases.MutatorPhase.{MutatorPhase}
use Rattle.lxr_mutator.specs.declared.phases.MutatorPhase.TheVariants as phase
use Rattle.lxr_mutator.specs.Mutating.{Mutating}
use Rattle.lxr_mutator.specs.Steps.{left_in}

-- how many units it has before it, that in progress or the next among them: one for each reply that is left
abbrev pub units : Mutating → ℕ
units m = length m.operations + 1 - length m.replies.items

-- a bound on the steps that it has before it in this epoch, by its phase
abbrev pub work_in : Mutating → MutatorPhase → ℕ
work_in m phase.Finished = 0
work_in m p = 2055 * units m + left_in m p

-- the same bound for the phase that it is in
abbrev pub work : Mutating → ℕ
work m = work_in m m.phase
