use Rattle.std.proofs.Common.{◌∙◌, ◌+◌, arith, refl, subst}
use Rattle.lxr_pause_increments.specs.Accounted.{HasRaisedRoots}
use Rattle.lxr_pause_increments.proofs.FrameLemmas.{leaves_both, leaves_none}
use Rattle.lxr_pause_increments.proofs.RootLemmas.{registers_passed, same_registers}
use Rattle.lxr_pause_increments.proofs.order.raise_registers.Goals as goal

pub loop-register-init : goal.loop-register-init
loop-register-init c = record {
  settles = λ m at st roots.
      let next = c.next_changed-register.ensures in
      (st, refl, registers_passed c.args.space.now m at st 0 c.next_changed-register.result next.range.0 next.range.1 next.passed roots);
  as_many = refl;
  within = c.next_changed-register.ensures.range.1;
  leaves = leaves_none c.args.space.now;
  short = c.requires.short;
}

pub raise_register-requires-clause-may : goal.raise_register-requires-clause-may
raise_register-requires-clause-may c =
    let r = c.requires.may in
    let x = c.loop-register.invariant.settles r.0 r.1 r.2 r.3 in
    let t = c.loop-register-test.true in
    let e = c.len.ensures in
    (r.0, r.1, x.0, omega (arith, t, e), x.2)

pub next_changed-register-requires-in-loop-register-clause-as_many : goal.next_changed-register-requires-in-loop-register-clause-as_many
next_changed-register-requires-in-loop-register-clause-as_many c =
    let r = c.requires.may in
    let x = c.loop-register.invariant.settles r.0 r.1 r.2 r.3 in
    let t = c.loop-register-test.true in
    let e = c.len.ensures in
    let y = c.raise_register.ensures.settles r.0 r.1 x.0 (omega (arith, t, e)) x.2 in
    let many = y.2.settled.accounted.incrementing.as_many in
    omega (arith, many)

pub next_changed-register-requires-in-loop-register-clause-from : goal.next_changed-register-requires-in-loop-register-clause-from
next_changed-register-requires-in-loop-register-clause-from c =
    let r = c.requires.may in
    let x = c.loop-register.invariant.settles r.0 r.1 r.2 r.3 in
    let t = c.loop-register-test.true in
    let e = c.len.ensures in
    let y = c.raise_register.ensures.settles r.0 r.1 x.0 (omega (arith, t, e)) x.2 in
    let same = same_registers c.loop-register.space c.raise_register.new.space r.0 r.1 x.0 y.0 x.2.settled.accounted.incrementing y.2.settled.accounted.incrementing in
    omega (arith, t, e, same)

pub loop-register-smaller : goal.loop-register-smaller
loop-register-smaller c =
    let t = c.loop-register-test.true in
    let e = c.len.ensures in
    let many = c.loop-register.invariant.as_many in
    let later = c.next_changed-register-in-loop-register.ensures.range.0 in
    omega (arith, t, e, many, later)

pub loop-register-preserved : goal.loop-register-preserved
loop-register-preserved c =
    let next = c.next_changed-register-in-loop-register.ensures in
    let t = c.loop-register-test.true in
    let e = c.len.ensures in
    let r = c.requires.may in
    let before = c.loop-register.invariant in
    let was = before.settles r.0 r.1 r.2 r.3 in
    let is = c.raise_register.ensures.settles r.0 r.1 was.0 (omega (arith, t, e)) was.2 in
    let same = same_registers c.loop-register.space c.raise_register.new.space r.0 r.1 was.0 is.0 was.2.settled.accounted.incrementing is.2.settled.accounted.incrementing in
    record {
      settles = λ m at st roots.
          let x = before.settles m at st roots in
          let y = c.raise_register.ensures.settles m at x.0 (omega (arith, t, e)) x.2 in
          (y.0, y.1 ∙ x.1, registers_passed c.raise_register.new.space m at y.0 (c.loop-register.register + 1) c.next_changed-register-in-loop-register.result next.range.0 next.range.1 next.passed y.2);
      as_many = same ∙ before.as_many;
      within = let high = next.range.1 in let many = before.as_many in omega (arith, high, same, many);
      leaves = leaves_both c.args.space.now c.loop-register.space c.raise_register.new.space before.leaves c.raise_register.ensures.leaves;
      short = c.raise_register.ensures.short;
    }

pub returns-clause-settles : goal.returns-clause-settles
returns-clause-settles c = λ m at st roots.
    let x = c.loop-register.invariant.settles m at st roots in
    let t = c.loop-register-test.false in
    let u = c.loop-register.invariant.within in
    let many = c.loop-register.invariant.as_many in
    let e = c.len.ensures in
    (x.0, x.1, subst (HasRaisedRoots c.loop-register.space m at x.0) (omega (arith, t, u, many, e)) x.2)
