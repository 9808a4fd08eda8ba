use Rattle.std.proofs.Common.{◌≡◌, ◌+◌, ◌*◌, arith, subst}
use Rattle.std.specs.Prelude.{◌↔◌, IsBitSet, slice_index}
use Rattle.lxr_tables.specs.declared.lanes.TheConstants.{LANES}
use Rattle.lxr_tables.proofs.BitLemmas.{TellsOf}
use Rattle.lxr_tables.proofs.LanesLemmas.{more_lanes}
use Rattle.lxr_tables.proofs.lanes.zero_lanes.Goals as goal

pub loop-group-preserved : goal.loop-group-preserved
loop-group-preserved c =
    let at = LANES * c.loop-group.group in
    let before = c.loop-group.invariant in
    let test = c.loop-group-test.true in
    let told = c.zeros_of.ensures in
    let lanes : TellsOf (λ i. slice_index c.args.words.now (at + i) ≡ 0) LANES c.zeros_of.result = λ i within.
    subst (λ x. IsBitSet c.zeros_of.result i ↔ (x ≡ 0)) (c.lanes_from.ensures i within) (told.told i within) in
    let more = more_lanes (λ i. slice_index c.args.words.now i ≡ 0) c.loop-group.group c.loop-group.zeros c.zeros_of.result (omega (arith, test)) before.fit told.within before.told lanes in
    record { fit = more.0; told = more.1 }
