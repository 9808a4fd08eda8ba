use Rattle.lxr_pause_increments.proofs.FewLemmas.{can_enter}
use Rattle.lxr_pause_increments.proofs.FrameLemmas.{leaves_both}
use Rattle.lxr_pause_increments.proofs.RootLemmas.{entry_field, entry_raised, entry_settled}
use Rattle.lxr_pause_increments.proofs.order.raise_entry.Goals as goal

pub raise_field-requires-clause-may : goal.raise_field-requires-clause-may
raise_field-requires-clause-may c =
    let r = c.requires.may in
    let is = r.4.settled.accounted.incrementing in
    let x = entry_field c.args.space.now r.0 r.1 r.2 r.3 c.args.index c.at-entry.result is r.4.order c.at-entry.ensures in
    (r.0, r.1, r.2, x.field.0, is, x.holder, x.raisable, can_enter c.args.space.now r.0 r.1 r.2 _ _ _ r.4.settled.accounted)

pub empty_worklist-requires-clause-may : goal.empty_worklist-requires-clause-may
empty_worklist-requires-clause-may c =
    let r = c.requires.may in
    let is = r.4.settled.accounted.incrementing in
    let x = entry_field c.args.space.now r.0 r.1 r.2 r.3 c.args.index c.at-entry.result is r.4.order c.at-entry.ensures in
    let y = c.raise_field.ensures.raises r.0 r.1 r.2 x.field.0 is x.holder x.raisable in
    (r.0, r.1, _, _, entry_raised c.args.space.now c.raise_field.new.space r.0 r.1 r.2 r.3 c.args.index c.at-entry.result y.0 r.4.order r.4.settled x y.1)

pub returns-clause-settles : goal.returns-clause-settles
returns-clause-settles c = λ m at st fields roots within.
    let is = roots.settled.accounted.incrementing in
    let x = entry_field c.args.space.now m at st fields c.args.index c.at-entry.result is roots.order c.at-entry.ensures in
    let y = c.raise_field.ensures.raises m at st x.field.0 is x.holder x.raisable in
    let even = entry_raised c.args.space.now c.raise_field.new.space m at st fields c.args.index c.at-entry.result y.0 roots.order roots.settled x y.1 in
    entry_settled c.args.space.now c.raise_field.new.space c.empty_worklist.new.space m at st fields c.args.index c.at-entry.result y.0 roots x y.1
    (leaves_both c.args.space.now c.raise_field.new.space c.empty_worklist.new.space c.raise_field.ensures.leaves c.empty_worklist.ensures.leaves) (c.empty_worklist.ensures.settles m at _ _ even)

pub returns-clause-leaves : goal.returns-clause-leaves
returns-clause-leaves c = leaves_both c.args.space.now c.raise_field.new.space c.empty_worklist.new.space c.raise_field.ensures.leaves c.empty_worklist.ensures.leaves
