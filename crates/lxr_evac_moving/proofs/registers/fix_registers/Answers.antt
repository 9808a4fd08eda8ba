use Rattle.std.proofs.Common.{◌∙◌, ◌+◌, ap, arith, refl}
use Rattle.lxr_evac_moving.specs.Steps.{held_names, held_places, with_places}
use Rattle.lxr_evac_moving.proofs.RegisterLemmas.{all_now, as_many_held, held_either, places_same, places_twice, registers_passed}
use Rattle.lxr_evac_moving.proofs.registers.fix_registers.Goals as goal

pub loop-register-init : goal.loop-register-init
loop-register-init c =
    let next = c.next_in_use-register.ensures in
    record {
      fixes = λ m st is. (is, registers_passed c.args.space.now m st c.args.registers 0 c.next_in_use-register.result is next.range.0 next.range.1 next.passed (record { first = λ k p r below there held. absurd (omega (arith, below)) }));
      as_many = refl;
      within = next.range.1;
      rest = places_same c.args.registers c.args.space.now;
    }

pub fix_register-requires : goal.fix_register-requires
fix_register-requires c =
    let r = c.requires in
    let x = c.loop-register.invariant.fixes r.0 r.1 r.2 in
    let t = c.loop-register-test.true in
    let e = c.count.ensures in
    (r.0, r.1, x.0, omega (arith, t, e))

pub next_in_use-register-requires-in-loop-register : goal.next_in_use-register-requires-in-loop-register
next_in_use-register-requires-in-loop-register c =
    let r = c.requires in
    let x = c.loop-register.invariant.fixes r.0 r.1 r.2 in
    let y = c.fix_register.ensures.fixes r.0 r.1 x.0 x.1 in
    let same = as_many_held c.loop-register.space c.fix_register.new.space r.0 r.1 c.args.registers x.0 y.0 in
    let t = c.loop-register-test.true in
    let e = c.count.ensures in
    omega (arith, same, t, e)

pub loop-register-smaller : goal.loop-register-smaller
loop-register-smaller c =
    let t = c.loop-register-test.true in
    let e = c.count.ensures in
    let many = c.loop-register.invariant.as_many in
    let later = c.next_in_use-register-in-loop-register.ensures.range.0 in
    omega (arith, t, e, many, later)

pub loop-register-preserved : goal.loop-register-preserved
loop-register-preserved c =
    let next = c.next_in_use-register-in-loop-register.ensures in
    let before = c.loop-register.invariant in
    let r = c.requires in
    let was = before.fixes r.0 r.1 r.2 in
    let is_now = c.fix_register.ensures.fixes r.0 r.1 was.0 was.1 in
    let same = as_many_held c.loop-register.space c.fix_register.new.space r.0 r.1 c.args.registers was.0 is_now.0 in
    record {
      fixes = λ m st is.
          let x = before.fixes m st is in
          let y = c.fix_register.ensures.fixes m st x.0 x.1 in
          (y.0, registers_passed c.fix_register.new.space m st c.args.registers (c.loop-register.register + 1) c.next_in_use-register-in-loop-register.result y.0 next.range.0 next.range.1 next.passed y.1);
      as_many = same ∙ before.as_many;
      within = let high = next.range.1 in let many = before.as_many in omega (arith, high, same, many);
      rest = c.fix_register.ensures.rest ∙ ap (λ s. with_places c.args.registers s (held_places c.args.registers c.fix_register.new.space)) before.rest
          ∙ places_twice c.args.registers c.args.space.now (held_places c.args.registers c.loop-register.space) (held_places c.args.registers c.fix_register.new.space);
    }

pub returns-clause-fixes : goal.returns-clause-fixes
returns-clause-fixes c = λ m st is.
    let x = c.loop-register.invariant.fixes m st is in
    let many = (held_either c.loop-register.space m st c.args.registers x.0).as_many in
    let t = c.loop-register-test.false in
    let e = c.count.ensures in
    (x.0, all_now st (held_places c.args.registers c.loop-register.space) (held_names c.args.registers m) c.loop-register.register (held_either c.loop-register.space m st c.args.registers x.0) x.1 (omega (arith, many, t, e)))
