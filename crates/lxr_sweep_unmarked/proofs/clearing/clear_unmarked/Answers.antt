use Rattle.std.proofs.Common.{◌+◌, arith, refl}
use Rattle.lxr_sweep_unmarked.proofs.ClearingLemmas.{taken_out, unmarked_fits, unmarked_name, unmarked_object, unmarked_placed, unmarked_room, unmarked_stands}
use Rattle.lxr_sweep_unmarked.proofs.clearing.clear_unmarked.Goals as goal

pub place_at-requires : goal.place_at-requires
place_at-requires c = let h = unmarked_fits c.args.space.now c.args.granule c.requires.0 c.requires.1 in omega (arith, h)

pub take_out-requires-clause-place : goal.take_out-requires-clause-place
take_out-requires-clause-place c = let h = unmarked_fits c.args.space.now c.args.granule c.requires.0 c.requires.1 in rw c.place_at.ensures (omega arith, omega (arith, h))

pub take_out-requires-clause-header : goal.take_out-requires-clause-header
take_out-requires-clause-header c =
    let h = unmarked_placed c.args.space.now c.args.granule c.requires.0 c.requires.1 (record { 0 = c.args.granule + 1 }) refl in
    rw c.place_at.ensures (_, _, h.header, h.fits)

pub take_out-requires-clause-work : goal.take_out-requires-clause-work
take_out-requires-clause-work c = (unmarked_room c.args.space.now c.args.granule c.requires.0 c.requires.1).0

pub take_out-requires-clause-swept : goal.take_out-requires-clause-swept
take_out-requires-clause-swept c = (unmarked_room c.args.space.now c.args.granule c.requires.0 c.requires.1).1

pub returns : goal.returns
returns c = λ st h.
    let x = unmarked_name c.args.space.now c.args.granule st h in
    let p = unmarked_placed c.args.space.now c.args.granule st h (record { 0 = c.args.granule + 1 }) refl in (
      x.0,
      taken_out c.args.space.now c.take_out.new.space (record { 0 = c.args.granule + 1 }) c.args.granule st h refl x.0 x.1 (unmarked_object c.args.space.now c.args.granule st h)
          (unmarked_stands c.args.space.now c.args.granule st h) ((rw c.place_at.ensures at c.take_out.ensures) _ _ p.header),
    )
