-- Units are short.
use Rattle.std.proofs.Common.{◌≤◌, arith}
use Rattle.lxr_layout.specs.declared.TheConstants.{GRANULES_IN_BLOCK}
use Rattle.lxr_layout.specs.Objects.{word_count}
use Rattle.lxr_barrier.specs.declared.machines.StorePhase.{StorePhase}
use Rattle.lxr_barrier.specs.declared.machines.StorePhase.TheVariants as store_phase
use Rattle.lxr_barrier.specs.Storers.{steps_left}
use Rattle.lxr_mutator.specs.declared.phases.MutatorPhase.{MutatorPhase}
use Rattle.lxr_mutator.specs.declared.phases.MutatorPhase.TheVariants as phase
use Rattle.lxr_mutator.specs.Mutating.{Mutating}
use Rattle.lxr_mutator.specs.Steps.{left_in, shape_now}
use Rattle.lxr_mutator.specs.Laws.{UnitsAreShort}
use Rattle.lxr_mutator.proofs.NowLemmas.{few_words}

-- a store has at most four steps
store_short : (p : StorePhase) → steps_left p ≤ 4
store_short store_phase.Begun = omega arith
store_short store_phase.Unlogged = omega arith
store_short (store_phase.Loaded old) = omega arith
store_short store_phase.Logged = omega arith
store_short (store_phase.Ended how) = omega arith

-- in each phase few steps are left
short_in : (m : Mutating) (p : MutatorPhase) → word_count (shape_now m) ≤ GRANULES_IN_BLOCK → left_in m p ≤ 8192
short_in m phase.Ready few = omega arith
short_in m phase.Finished few = omega arith
short_in m (phase.Base base) few = omega arith
short_in m (phase.Reference base) few = omega arith
short_in m (phase.Referent place) few = omega arith
short_in m (phase.Datum base refs) few = omega arith
short_in m (phase.Putting base refs) few = omega arith
short_in m (phase.Adding base refs) few = omega arith
short_in m (phase.Storing store) few = omega (arith, store_short store.phase)
short_in m phase.DrawsRun few = omega arith
short_in m (phase.RunNumber number) few = omega arith
short_in m (phase.Run number) few = omega arith
short_in m phase.DrawsBlock few = omega arith
short_in m (phase.BlockNumber number) few = omega arith
short_in m (phase.Block number) few = omega arith
short_in m (phase.Wiping place next) few = omega arith
short_in m (phase.Heading place) few = omega arith
short_in m phase.Asking few = omega arith
short_in m (phase.GivingUp why) few = omega arith

-- a unit of a mutator has at most 8,192 steps
pub units_short : UnitsAreShort
units_short m is = short_in m m.phase (few_words m is)
