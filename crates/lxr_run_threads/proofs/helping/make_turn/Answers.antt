use Rattle.std.proofs.Common.{sym, subst, ◌∙◌}
use Rattle.lxr_run_replay.specs.Replaying.{CanBeReplayed}
use Rattle.lxr_run_threads.proofs.HelpLemmas.{turn_serves}
use Rattle.lxr_run_threads.proofs.WorkingLemmas.{turn_kind}
use Rattle.lxr_run_threads.proofs.helping.make_turn.Goals as goal

pub returns-clause-helper : goal.returns-clause-helper
returns-clause-helper c =
    let can = subst CanBeReplayed (sym c.requires.pass.opening_is) c.requires.can in
    let unit = c.turn_at.ensures.unit in
    turn_kind unit.0 c.args.pass.now c.turn_at.new.self can unit.2 ∙ c.requires.helper

pub returns-clause-served : goal.returns-clause-served
returns-clause-served c =
    let unit = c.turn_at.ensures.unit in
    turn_serves unit.0 c.args.pass.now c.turn_at.new.self _ (returns-clause-helper c) c.requires.pass.rests unit.2 c.turn_at.ensures.rests c.turn_at.ensures.end
