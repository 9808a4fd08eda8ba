use Rattle.std.proofs.Common.{arith}
use Rattle.lxr_pause_trace.proofs.ScanLemmas.{passed_all, slots_were}
use Rattle.lxr_pause_trace.proofs.finish.scan.Goals as goal

pub scan_field-requires : goal.scan_field-requires
scan_field-requires c =
    let before = c.requires.0 in
    let x = c.loop-index.invariant.scanning before c.requires.1 in
    let then = slots_were before c.args.space.now _ _ _ c.requires.1.stage c.args.place.0 in
    let now = slots_were before c.loop-index.space _ _ _ x.stage c.args.place.0 in
    let count = c.reference_slots-count.ensures in
    let t = c.loop-index-test.true in
    (before, x, omega (arith, then, now, count, t))

pub loop-index-preserved : goal.loop-index-preserved
loop-index-preserved c = record {
  scanning = λ before is.
      let x = c.loop-index.invariant.scanning before is in
      let then = slots_were before c.args.space.now _ _ _ is.stage c.args.place.0 in
      let now = slots_were before c.loop-index.space _ _ _ x.stage c.args.place.0 in
      let count = c.reference_slots-count.ensures in
      let t = c.loop-index-test.true in
      c.scan_field.ensures.scans before x (omega (arith, then, now, count, t));
  to_do = let falls = c.scan_field.ensures.to_do in let fell = c.loop-index.invariant.to_do in omega (arith, falls, fell);
}

pub returns-clause-scans : goal.returns-clause-scans
returns-clause-scans c = λ before is.
    let x = c.loop-index.invariant.scanning before is in
    let then = slots_were before c.args.space.now _ _ _ is.stage c.args.place.0 in
    let now = slots_were before c.loop-index.space _ _ _ x.stage c.args.place.0 in
    let count = c.reference_slots-count.ensures in
    let t = c.loop-index-test.false in
    passed_all before c.loop-index.space c.args.place.0 c.loop-index.index x (omega (arith, then, now, count, t))
