use Rattle.lxr_pause_increments.proofs.FrameLemmas.{leaves_both, leaves_none}
use Rattle.lxr_pause_increments.proofs.HeldLemmas.{goes_both, goes_none}
use Rattle.lxr_pause_increments.proofs.ScanLemmas.{emptied, popped, popped_leaves}
use Rattle.lxr_pause_increments.proofs.order.empty_worklist.Goals as goal

pub loop-place-init : goal.loop-place-init
loop-place-init c = record { reaches = λ m at st base is. (st, is, goes_none c.args.space.now m st); leaves = leaves_none c.args.space.now; short = c.requires.short }

pub scan-requires-clause-may : goal.scan-requires-clause-may
scan-requires-clause-may c =
    let x = c.loop-place.invariant.reaches c.requires.may.0 c.requires.may.1 c.requires.may.2 c.requires.may.3 c.requires.may.4 in
    let y = popped c.loop-place.space c.pop.new.self c.in-Some.place c.requires.may.0 c.requires.may.1 x.0 c.requires.may.3 x.1 c.in-Some.ensures in
    (_, _, _, _, _, y.scanning)

pub loop-place-preserved : goal.loop-place-preserved
loop-place-preserved c = record {
  reaches = λ m at st base is.
      let x = c.loop-place.invariant.reaches m at st base is in
      let y = popped c.loop-place.space c.pop.new.self c.in-Some.place m at x.0 base x.1 c.in-Some.ensures in
      let z = c.scan.ensures.reaches _ _ _ _ _ y.scanning in
      let middle = goes_both c.args.space.now c.loop-place.space (record c.loop-place.space { work = c.pop.new.self }) m st x.0 _ x.2 y.goes_on in
      (z.0, z.1, goes_both c.args.space.now (record c.loop-place.space { work = c.pop.new.self }) c.scan.new.space m st _ z.0 middle z.2);
  leaves = leaves_both c.args.space.now c.loop-place.space c.scan.new.space c.loop-place.invariant.leaves
      (leaves_both c.loop-place.space (record c.loop-place.space { work = c.pop.new.self }) c.scan.new.space
      (popped_leaves c.loop-place.space c.pop.new.self c.in-Some.place c.in-Some.ensures) c.scan.ensures.leaves);
  short = c.scan.ensures.short;
}

pub returns-clause-settles : goal.returns-clause-settles
returns-clause-settles c = λ m at st base is.
    let x = c.loop-place.invariant.reaches m at st base is in
    let y = emptied c.loop-place.space c.pop.new.self m at x.0 base c.in_default.ensures.0 c.in_default.ensures.1 x.1 in
    (y.0, y.1, goes_both c.args.space.now c.loop-place.space (record c.loop-place.space { work = c.pop.new.self }) m st x.0 y.0 x.2 y.2)
