use Rattle.std.proofs.Common.{◌∙◌, subst, sym}
use Rattle.lxr_pause_increments.specs.Accounted.{HasRaisedRoots}
use Rattle.lxr_pause_increments.specs.Increments.{first_stage}
use Rattle.lxr_pause_increments.proofs.FrameLemmas.{leaves_both}
use Rattle.lxr_pause_increments.proofs.RaisedLemmas.{begun, ending, outs_grayed, outs_used, raises}
use Rattle.lxr_pause_increments.proofs.RootLemmas.{same_registers}
use Rattle.lxr_pause_increments.proofs.SnapshotLemmas.{grayed_space, old_values_fit}
use Rattle.lxr_pause_increments.proofs.order.increments.Goals as goal

pub raise_entries-requires-clause-may : goal.raise_entries-requires-clause-may
raise_entries-requires-clause-may c = let r = c.requires in (r.0, r.1, first_stage r.1 c.args.space.now, begun c.args.space.now r.0 r.1 r.2)

pub raise_registers-requires-clause-may : goal.raise_registers-requires-clause-may
raise_registers-requires-clause-may c =
    let r = c.requires in
    let x = c.raise_entries.ensures.settles r.0 r.1 (first_stage r.1 c.args.space.now) (begun c.args.space.now r.0 r.1 r.2) in
    (r.0, r.1, x.0, x.2)

pub gray_old_values-requires-clause-space : goal.gray_old_values-requires-clause-space
gray_old_values-requires-clause-space c =
    let r = c.requires in
    let x = c.raise_entries.ensures.settles r.0 r.1 (first_stage r.1 c.args.space.now) (begun c.args.space.now r.0 r.1 r.2) in
    let y = c.raise_registers.ensures.settles r.0 r.1 x.0 x.2 in
    y.2.settled.accounted.incrementing.space

pub gray_old_values-requires-clause-fit : goal.gray_old_values-requires-clause-fit
gray_old_values-requires-clause-fit c =
    let r = c.requires in
    let x = c.raise_entries.ensures.settles r.0 r.1 (first_stage r.1 c.args.space.now) (begun c.args.space.now r.0 r.1 r.2) in
    let y = c.raise_registers.ensures.settles r.0 r.1 x.0 x.2 in
    old_values_fit c.raise_registers.new.space r.0 r.1 y.0 y.2.settled.accounted.incrementing

pub clear_all-requires : goal.clear_all-requires
clear_all-requires c =
    let r = c.requires in
    let x = c.raise_entries.ensures.settles r.0 r.1 (first_stage r.1 c.args.space.now) (begun c.args.space.now r.0 r.1 r.2) in
    let y = c.raise_registers.ensures.settles r.0 r.1 x.0 x.2 in
    record {
      space = grayed_space c.raise_registers.new.space c.gray_old_values.new.space c.gray_old_values.ensures y.2.settled.accounted.incrementing.space;
      free = outs_grayed c.raise_registers.new.space c.gray_old_values.new.space c.gray_old_values.ensures
          (outs_used c.args.space.now c.raise_registers.new.space r.0 r.1 y.0 r.2 (y.1 ∙ x.1) y.2.settled.accounted.incrementing);
    }

pub returns : goal.returns
returns c = λ m at can.
    let x = c.raise_entries.ensures.settles m at (first_stage at c.args.space.now) (begun c.args.space.now m at can) in
    let y = c.raise_registers.ensures.settles m at x.0 x.2 in
    let count = same_registers c.raise_entries.new.space c.raise_registers.new.space m at x.0 y.0 x.2.settled.accounted.incrementing y.2.settled.accounted.incrementing in (
      y.0.now,
      raises c.args.space.now c.raise_registers.new.space c.clear_all.new.space m at y.0 can
          (leaves_both c.args.space.now c.raise_entries.new.space c.raise_registers.new.space c.raise_entries.ensures.leaves c.raise_registers.ensures.leaves) (y.1 ∙ x.1)
          (subst (HasRaisedRoots c.raise_registers.new.space m at y.0) (sym count) y.2)
          (ending c.raise_registers.new.space c.gray_old_values.new.space c.clear_all.new.space c.gray_old_values.ensures c.clear_all.ensures),
    )
