use Rattle.lxr_evac_moving.proofs.AssembledLemmas.{can_move, keeps_all, moved_stage, then_clear, then_deferred, then_done, then_fix, then_registers}
use Rattle.lxr_evac_moving.proofs.evacuating.evacuate.Goals as goal

pub returns-then-overflowed : goal.returns-then-overflowed
returns-then-overflowed c = λ m at can. keeps_all c.args.space.now m at c.count_chosen.result can (c.overflowed.ensures.0 c.if-overflowed.true) c.count_chosen.ensures.few (c.count_chosen.ensures.count m at can)

pub move_objects-evacuated-requires : goal.move_objects-evacuated-requires
move_objects-evacuated-requires c = (c.requires.0, c.requires.1, can_move c.args.space.now c.requires.0 c.requires.1 c.overflowed.result c.requires.2 c.overflowed.ensures c.if-overflowed.false)

pub fix_references-requires : goal.fix_references-requires
fix_references-requires c =
    let can = can_move c.args.space.now c.requires.0 c.requires.1 c.overflowed.result c.requires.2 c.overflowed.ensures c.if-overflowed.false in
    let x = c.move_objects-evacuated in
    let s = c.args.space.now in (c.requires.0, moved_stage s x.new.space s s s x.result x.ensures c.requires.0 c.requires.1 can, then_fix s x.new.space s s s x.result x.ensures c.requires.0 c.requires.1 can)

pub fix_registers-requires : goal.fix_registers-requires
fix_registers-requires c =
    let can = can_move c.args.space.now c.requires.0 c.requires.1 c.overflowed.result c.requires.2 c.overflowed.ensures c.if-overflowed.false in
    let x = c.move_objects-evacuated in
    let y = c.fix_references in
    let s = c.args.space.now in (
      c.requires.0,
      moved_stage s x.new.space y.new.space s s x.result x.ensures c.requires.0 c.requires.1 can,
      then_registers s x.new.space y.new.space s s x.result x.ensures y.ensures c.requires.0 c.requires.1 can,
    )

pub fix_registers-requires-2 : goal.fix_registers-requires-2
fix_registers-requires-2 c =
    let can = can_move c.args.space.now c.requires.0 c.requires.1 c.overflowed.result c.requires.2 c.overflowed.ensures c.if-overflowed.false in
    let x = c.move_objects-evacuated in
    let y = c.fix_references in
    let z = c.fix_registers in
    let s = c.args.space.now in (
      c.requires.0,
      moved_stage s x.new.space y.new.space z.new.space s x.result x.ensures c.requires.0 c.requires.1 can,
      then_deferred s x.new.space y.new.space z.new.space s x.result x.ensures y.ensures z.ensures.fixes z.ensures.rest c.requires.0 c.requires.1 can,
    )

pub clear_old_places-requires : goal.clear_old_places-requires
clear_old_places-requires c =
    let can = can_move c.args.space.now c.requires.0 c.requires.1 c.overflowed.result c.requires.2 c.overflowed.ensures c.if-overflowed.false in
    let x = c.move_objects-evacuated in
    let y = c.fix_references in
    let z = c.fix_registers in
    let w = c.fix_registers-2 in
    let s = c.args.space.now in (
      c.requires.0,
      moved_stage s x.new.space y.new.space z.new.space w.new.space x.result x.ensures c.requires.0 c.requires.1 can,
      then_clear s x.new.space y.new.space z.new.space w.new.space x.result x.ensures y.ensures z.ensures.fixes z.ensures.rest w.ensures.fixes w.ensures.rest c.requires.0 c.requires.1 can,
    )

pub returns : goal.returns
returns c = λ m at is.
    let can = can_move c.args.space.now m at c.overflowed.result is c.overflowed.ensures c.if-overflowed.false in
    let x = c.move_objects-evacuated in
    let y = c.fix_references in
    let z = c.fix_registers in
    let w = c.fix_registers-2 in
    let v = c.clear_old_places in
    then_done c.args.space.now x.new.space y.new.space z.new.space w.new.space x.result x.ensures y.ensures z.ensures.fixes z.ensures.rest w.ensures.fixes w.ensures.rest v.new.space v.ensures.clears v.ensures.tables v.ensures.rest m at can
