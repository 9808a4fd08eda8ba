use Rattle.std.proofs.Common.{◌∙◌, arith, refl}
use Rattle.lxr_pause_increments.proofs.FrameLemmas.{leaves_both, leaves_none}
use Rattle.lxr_pause_increments.proofs.RootLemmas.{all_entries, as_many_fields, log_order, no_entries}
use Rattle.lxr_pause_increments.proofs.order.raise_entries.Goals as goal

pub loop-index-init : goal.loop-index-init
loop-index-init c = record {
  settles = λ m at st fields order settled. (st, refl, no_entries c.args.space.now m at st fields order settled);
  leaves = leaves_none c.args.space.now;
  short = c.requires.short;
}

pub raise_entry-requires-clause-may : goal.raise_entry-requires-clause-may
raise_entry-requires-clause-may c =
    let m = c.requires.may.0 in
    let at = c.requires.may.1 in
    let fields = log_order c.args.space.now m at c.requires.may.2 c.requires.may.3.accounted.incrementing in
    let count = as_many_fields m at fields.0 c.args.space.now.logged.items fields.1 in
    let x = c.loop-index.invariant.settles m at c.requires.may.2 fields.0 fields.1 c.requires.may.3 in
    let t = c.loop-index-test.true in
    let e = c.len-index-end.ensures in
    (m, at, x.0, fields.0, x.2, omega (arith, count, t, e))

pub loop-index-preserved : goal.loop-index-preserved
loop-index-preserved c = record {
  settles = λ m at st fields order settled.
      let count = as_many_fields m at fields c.args.space.now.logged.items order in
      let x = c.loop-index.invariant.settles m at st fields order settled in
      let t = c.loop-index-test.true in
      let e = c.len-index-end.ensures in
      let y = c.raise_entry.ensures.settles m at x.0 fields x.2 (omega (arith, count, t, e)) in
      (y.0, y.1 ∙ x.1, y.2);
  leaves = leaves_both c.args.space.now c.loop-index.space c.raise_entry.new.space c.loop-index.invariant.leaves c.raise_entry.ensures.leaves;
  short = c.raise_entry.ensures.short;
}

pub returns-clause-settles : goal.returns-clause-settles
returns-clause-settles c = λ m at st settled.
    let fields = log_order c.args.space.now m at st settled.accounted.incrementing in
    let count = as_many_fields m at fields.0 c.args.space.now.logged.items fields.1 in
    let x = c.loop-index.invariant.settles m at st fields.0 fields.1 settled in
    let t = c.loop-index-test.false in
    let u = c.loop-index.auto.index-end in
    let e = c.len-index-end.ensures in
    (x.0, x.1, all_entries c.loop-index.space m at x.0 fields.0 c.loop-index.index (omega (arith, count, t, u, e)) x.2)
