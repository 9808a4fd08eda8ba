use Rattle.std.proofs.Common.{◌+◌, ◌-◌, ◌*◌, ◌<◌, arith, sym, subst}
use Rattle.std.specs.Prelude.{slice_set}
use Rattle.lxr_layout.specs.declared.TheConstants.{REGISTERS}
use Rattle.lxr_placing.specs.Placing.{IsServed}
use Rattle.lxr_placing.proofs.ServedLemmas.{placed_is_served, with_places}
use Rattle.lxr_placing.proofs.placing.serve.Goals as goal

pub returns : goal.returns
returns c =
    let before = c.args.space.now in
    let after = c.place_now.new.space in
    let place = c.in_ok-place.place in
    let registers = c.requires.stands.1.rests.safepoint.holds.space.limits.registers.1 in
    let named = c.requires.dest in
    let dest : c.args.dest < REGISTERS = omega (arith, named, registers) in
    record {
      serves = subst (λ z. IsServed before (record after { registers = z }) c.args.name c.args.dest c.args.shape place) (sym c.set.ensures)
          (subst (λ z. IsServed before (with_places after (slice_set after.registers.items (REGISTERS * (z - 1) + c.args.dest) place)) c.args.name c.args.dest c.args.shape place) (sym c.from.ensures)
          (placed_is_served before after c.args.name c.args.dest c.args.shape place c.requires.thread dest c.requires.shape c.requires.serial
          (λ full. let none = c.in_ok-place.ensures.none.1 full in absurd (cc)) c.in_ok-place.ensures.placed));
    }
