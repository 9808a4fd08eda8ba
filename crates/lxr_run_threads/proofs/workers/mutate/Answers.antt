use Rattle.std.proofs.Common.{◌+◌, ◌≤◌, ◌∙◌, sym, subst, ap}
use Rattle.lxr_actor.specs.Run.{one_if}
use Rattle.lxr_run_replay.specs.Replaying.{CanBeReplayed}
use Rattle.lxr_run_threads.specs.Working.{goes_on, work_of}
use Rattle.lxr_run_threads.proofs.WorkingLemmas.{any_turn_leaves, stopped_served, turn_kind}
use Rattle.lxr_run_threads.proofs.workers.mutate.Goals as goal

pub returns-clause-mutator : goal.returns-clause-mutator
returns-clause-mutator c =
    let can = subst CanBeReplayed (sym c.requires.pass.opening_is) c.requires.can in
    let unit = c.turn_at.ensures.unit in
    turn_kind unit.0 c.args.pass.now c.turn_at.new.self can unit.2 ∙ c.requires.mutator

pub returns-clause-done : goal.returns-clause-done
returns-clause-done c stops =
    let told = c.goes_on.ensures ∙ ap goes_on c.actor.ensures in
    stopped_served c.turn_at.new.self.actor (returns-clause-mutator c) (sym told ∙ stops)

pub returns-clause-nearer : goal.returns-clause-nearer
returns-clause-nearer c =
    let can = subst CanBeReplayed (sym c.requires.pass.opening_is) c.requires.can in
    let told = c.goes_on.ensures ∙ ap goes_on c.actor.ensures in
    let unit = c.turn_at.ensures.unit in
    subst (λ b. work_of c.turn_at.new.self.actor + one_if b ≤ work_of c.args.pass.now.actor) (sym told) (any_turn_leaves unit.0 c.args.pass.now c.turn_at.new.self can unit.2)
