use Rattle.std.proofs.Common.{refl}
use Rattle.lxr_pause_increments.proofs.FrameLemmas.{leaves_both}
use Rattle.lxr_pause_increments.proofs.RootLemmas.{register_at, register_raised, register_same, register_settled}
use Rattle.lxr_pause_increments.proofs.order.raise_register.Goals as goal

pub raise_held-requires-clause-may : goal.raise_held-requires-clause-may
raise_held-requires-clause-may c =
    let r = c.requires.may in
    let x = register_at c.args.space.now r.0 r.1 r.2 r.4.settled.accounted.incrementing c.args.register c.at-held.result c.at.result c.at-held.ensures c.at.ensures in
    (r.0, r.1, r.2, x.0, x.2.raises)

pub empty_worklist-requires-clause-may : goal.empty_worklist-requires-clause-may
empty_worklist-requires-clause-may c =
    let r = c.requires.may in
    let x = register_at c.args.space.now r.0 r.1 r.2 r.4.settled.accounted.incrementing c.args.register c.at-held.result c.at.result c.at-held.ensures c.at.ensures in
    let y = c.raise_held.ensures.raises r.0 r.1 r.2 x.0 x.2.raises in
    (r.0, r.1, _, _, register_raised c.args.space.now c.raise_held.new.space r.0 r.1 r.2 c.args.register c.at-held.result c.at.result x.0 x.1 y.0 x.2 c.if-held-at.true r.4 y.1)

pub returns-then-held-at-clause-settles : goal.returns-then-held-at-clause-settles
returns-then-held-at-clause-settles c = λ m at st within roots.
    let x = register_at c.args.space.now m at st roots.settled.accounted.incrementing c.args.register c.at-held.result c.at.result c.at-held.ensures c.at.ensures in
    let y = c.raise_held.ensures.raises m at st x.0 x.2.raises in
    let even = register_raised c.args.space.now c.raise_held.new.space m at st c.args.register c.at-held.result c.at.result x.0 x.1 y.0 x.2 c.if-held-at.true roots y.1 in
    register_settled c.args.space.now c.raise_held.new.space c.empty_worklist.new.space m at st c.args.register x.0 y.0 roots y.1 (c.empty_worklist.ensures.settles m at _ _ even)

pub returns-else-held-at-clause-settles : goal.returns-else-held-at-clause-settles
returns-else-held-at-clause-settles c = λ m at st within roots.
    let x = register_at c.args.space.now m at st roots.settled.accounted.incrementing c.args.register c.at-held.result c.at.result c.at-held.ensures c.at.ensures in
    (st, refl, register_same c.args.space.now m at st c.args.register c.at-held.result c.at.result x.0 x.1 x.2 c.if-held-at.false roots)

pub returns-then-held-at-clause-leaves : goal.returns-then-held-at-clause-leaves
returns-then-held-at-clause-leaves c = leaves_both c.args.space.now c.raise_held.new.space c.empty_worklist.new.space c.raise_held.ensures.leaves c.empty_worklist.ensures.leaves
