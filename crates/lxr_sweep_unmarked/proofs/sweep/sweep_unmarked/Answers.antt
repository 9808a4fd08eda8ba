use Rattle.std.proofs.Common.{reverse, subst, sym}
use Rattle.lxr_sweep_unmarked.specs.Sweeping.{SweepsUnmarked}
use Rattle.lxr_sweep_unmarked.proofs.ReleaseBeginLemmas.{all_left, releasing}
use Rattle.lxr_sweep_unmarked.proofs.SweepLemmas.{swept_all}
use Rattle.lxr_sweep_unmarked.proofs.sweep.sweep_unmarked.Goals as goal

pub release_all_swept-requires : goal.release_all_swept-requires
release_all_swept-requires c =
    let m = c.requires.0 in
    let at = c.requires.1 in
    let x = c.clear_all_unmarked.ensures m at c.requires.2 in
    (_, all_left c.args.space.now c.clear_all_unmarked.new.space m at x.0 x.1)

pub returns : goal.returns
returns c = λ m at can.
    let x = c.clear_all_unmarked.ensures m at can in
    let st = releasing c.args.space.now c.clear_all_unmarked.new.space m at x.0 in
    let y = c.release_all_swept.ensures.reaches st (all_left c.args.space.now c.clear_all_unmarked.new.space m at x.0 x.1) in (
      reverse x.0,
      reverse y.0,
      subst (λ w. SweepsUnmarked c.args.space.now (record c.release_all_swept.new.space { work = w }) m at (reverse x.0) (reverse y.0)) (sym c.clear.ensures)
          (swept_all c.args.space.now c.clear_all_unmarked.new.space c.release_all_swept.new.space m at x.0 x.1 y.0 y.1 c.release_all_swept.ensures.keeps),
    )
