use Rattle.std.proofs.Common.{sym, subst}
use Rattle.lxr_core.specs.Closing.{IsPauseExplained}
use Rattle.lxr_core.specs.Executions.{epoch_state_of}
use Rattle.lxr_core.proofs.ClosingLemmas.{all_gave, closes, is_end, may_all_give, may_hand_out, pause_due}
use Rattle.lxr_core.proofs.CollectingLemmas.{all_given}
use Rattle.lxr_core.proofs.closing.close_epoch.Goals as goal

pub collect_all-requires : goal.collect_all-requires
collect_all-requires c =
    let may = c.requires.2 in
    may_all_give c.requires.0 (epoch_state_of c.requires.0 c.requires.1 may.holds.0) c.args.space.now c.args.actors.now
    (is_end c.requires.0 c.requires.1 may.holds.0 c.args.space.now c.args.actors.now may may.holds.1)

pub hand_out_drawn-requires : goal.hand_out_drawn-requires
hand_out_drawn-requires c =
    let may = c.requires.2 in (
      c.requires.0.space,
      may_hand_out c.requires.0 (epoch_state_of c.requires.0 c.requires.1 may.holds.0) c.args.space.now c.collect_all.new.space c.args.actors.now
          (is_end c.requires.0 c.requires.1 may.holds.0 c.args.space.now c.args.actors.now may may.holds.1)
          (all_given c.args.space.now c.args.actors.now c.collect_all.new.space c.collect_all.new.actors c.collect_all.ensures),
    )

pub returns-clause-closes : goal.returns-clause-closes
returns-clause-closes c b execution may =
    closes b execution c.args.space.now c.collect_all.new.space c.hand_out_drawn.new.space c.args.actors.now c.collect_all.new.actors may c.collect_all.ensures
    (c.hand_out_drawn.ensures b.space (may_hand_out b (epoch_state_of b execution may.holds.0) c.args.space.now c.collect_all.new.space c.args.actors.now
    (is_end b execution may.holds.0 c.args.space.now c.args.actors.now may may.holds.1)
    (all_given c.args.space.now c.args.actors.now c.collect_all.new.space c.collect_all.new.actors c.collect_all.ensures)))

pub returns-clause-due : goal.returns-clause-due
returns-clause-due c b execution may wanted =
    subst (IsPauseExplained b execution) (sym (all_gave c.args.space.now c.args.actors.now c.collect_all.new.space c.collect_all.new.actors c.collect_all.ensures))
    (pause_due b execution may.holds.0 c.args.space.now c.args.actors.now (is_end b execution may.holds.0 c.args.space.now c.args.actors.now may may.holds.1) wanted)
