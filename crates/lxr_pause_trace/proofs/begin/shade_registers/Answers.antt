use Rattle.std.proofs.Common.{◌≡◌, ◌+◌, ◌*◌, ◌≤◌, ◌∙◌, ap, arith, length, subst, sym}
use Rattle.std.specs.Prelude.{Some, slice_get}
use Rattle.lxr_layout.specs.declared.TheConstants.{GRANULES_IN_BLOCK}
use Rattle.lxr_layout.specs.Registers.{AreNil}
use Rattle.lxr_pause_trace.specs.Marking.{ShadesRegisters}
use Rattle.lxr_pause_trace.proofs.ShadingLemmas.{none_shaded, registers_passed, shaded_none, shaded_one}
use Rattle.lxr_pause_trace.proofs.begin.shade_registers.Goals as goal
use Rattle.lxr_pause_trace.proofs.begin.shade_registers.Goals.{then-place-ne0, else-place-ne0}

pub loop-register-init : goal.loop-register-init
loop-register-init c =
    let next = c.next_in_use-register.ensures in
    record {
      shades = registers_passed c.args.space.now c.args.space.now 0 c.next_in_use-register.result next.range.0 next.range.1 next.passed (none_shaded c.args.space.now c.requires.space);
      within = next.range.1;
    }

pub set_gray-requires-clause-space : goal.set_gray-requires-clause-space
set_gray-requires-clause-space c = c.loop-register.invariant.shades.space

pub set_gray-requires-clause-granule : goal.set_gray-requires-clause-granule
set_gray-requires-clause-granule c =
    let rest = c.loop-register.invariant.shades.rest in
    let there = sym (ap (λ s. slice_get s.registers.items c.loop-register.register) rest) ∙ c.at-place.ensures in
    let within = c.requires.places c.loop-register.register c.at-place.result there in
    let same = ap (λ s. GRANULES_IN_BLOCK * s.limits.blocks) rest in
    let g = c.granule_of.ensures in
    let some = c.if-place-ne0.true in
    omega (arith, within, same, g, some)

pub loop-register-smaller : goal.loop-register-smaller
loop-register-smaller c =
    let t = c.loop-register-test.true in
    let e = c.len.ensures in
    let many = ap (λ s. length s.registers.items) c.loop-register.invariant.shades.rest in
    let later = c.next_in_use-register-in-loop-register.ensures.range.0 in
    omega (arith, t, e, many, later)

pub loop-register-preserved : goal.loop-register-preserved
loop-register-preserved c =
    let next = c.next_in_use-register-in-loop-register.ensures in
    let before = c.loop-register.invariant.shades in
    let there : slice_get c.args.space.now.registers.items c.loop-register.register ≡ Some c.at-place.result = sym (ap (λ s. slice_get s.registers.items c.loop-register.register) before.rest) ∙ c.at-place.ensures in
    let one : ShadesRegisters c.args.space.now c.if-place-ne0.space (c.loop-register.register + 1) = elim c.if-place-ne0.branch [
      | then-place-ne0 w ↦
          let some = w.if-place-ne0.true in
          subst (λ s. ShadesRegisters c.args.space.now s (c.loop-register.register + 1)) (sym w.space-is)
          (shaded_one c.args.space.now c.loop-register.space c.loop-register.register c.at-place.result there before w.set_gray.new.self w.granule_of.result (omega (arith, some)) w.granule_of.ensures w.set_gray.ensures)
      | else-place-ne0 w ↦
          subst (λ s. ShadesRegisters c.args.space.now s (c.loop-register.register + 1)) (sym w.space-is)
          (shaded_none c.args.space.now c.loop-register.space c.loop-register.register c.at-place.result there before w.if-place-ne0.false)
    ] in
    let same = ap (λ s. s.registers.items) one.rest in
    let many = ap length same in
    let high = next.range.1 in
    let within : c.next_in_use-register-in-loop-register.result ≤ length c.args.space.now.registers.items = omega (arith, high, many) in
    record {
      shades = registers_passed c.args.space.now c.if-place-ne0.space (c.loop-register.register + 1) c.next_in_use-register-in-loop-register.result next.range.0 within
          (subst (λ xs. AreNil xs (c.loop-register.register + 1) c.next_in_use-register-in-loop-register.result) same next.passed) one;
      within = within;
    }

pub returns : goal.returns
returns c =
    let t = c.loop-register-test.false in
    let e = c.len.ensures in
    let within = c.loop-register.invariant.within in
    let many = ap (λ s. length s.registers.items) c.loop-register.invariant.shades.rest in
    subst (ShadesRegisters c.args.space.now c.loop-register.space) (omega (arith, t, e, within, many)) c.loop-register.invariant.shades
