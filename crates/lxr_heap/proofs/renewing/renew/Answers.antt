use Rattle.std.proofs.Common.{◌≡◌, ◌-◌, ap, sym, subst, arith, length}
use Rattle.lxr_image.specs.declared.space.Space.{Space}
use Rattle.lxr_large_model.specs.Renewing.{AreCounted}
use Rattle.lxr_large_bodies.specs.Bodies.{AreAmong, Held}
use Rattle.lxr_heap.specs.Holding.{abstract_after}
use Rattle.lxr_heap.specs.Renewing.{RenewsHeap}
use Rattle.lxr_heap.proofs.CallLemmas.{rests_whole}
use Rattle.lxr_heap.proofs.RenewingLemmas.{among, counted, counted_few, counted_many, f as fresh_then, may_renew, ns, renews_heap}
use Rattle.lxr_heap.proofs.renewing.renew.Goals as goal

pub renew-requires-clause-counts : goal.renew-requires-clause-counts
renew-requires-clause-counts c =
    let (h, is) = c.requires.holds in
    let tells = c.tell.ensures h is in
    let x = c.args.heap.now in
    let y = c.tell.new.heap in
    (ns x y h c.requires.fresh tells, subst (λ cs. AreCounted cs (ns x y h c.requires.fresh tells)) (sym c.as_slice.ensures) (counted x y h c.requires.fresh tells))

pub renew-requires-clause-among : goal.renew-requires-clause-among
renew-requires-clause-among c =
    let (h, is) = c.requires.holds in
    subst (λ cs. AreAmong cs c.tell.new.heap.bodies.bodies) (sym c.as_slice.ensures) (among c.args.heap.now c.tell.new.heap h c.requires.fresh (c.tell.ensures h is))

pub renew_names-requires : goal.renew_names-requires
renew_names-requires c =
    let (h, is) = c.requires.holds in
    let tells = c.tell.ensures h is in
    let x = c.args.heap.now in
    let y = c.tell.new.heap in
    (abstract_after h tells.holds.at, ns x y h c.requires.fresh tells, may_renew x y h c.requires.fresh tells tells.holds.at (rests_whole y h tells.holds (fresh_then x y h c.requires.fresh tells)))

pub overflow_cast-left : goal.overflow_cast-left
overflow_cast-left c =
    let (h, is) = c.requires.holds in
    let tells = c.tell.ensures h is in
    let x = c.args.heap.now in
    let y = c.tell.new.heap in
    let r = c.renew_names.ensures (abstract_after h tells.holds.at) (ns x y h c.requires.fresh tells) (may_renew x y h c.requires.fresh tells tells.holds.at (rests_whole y h tells.holds (fresh_then x y h c.requires.fresh tells))) in
    let long = c.len.ensures in
    let same = ap (λ (s : Space). length s.report.told.items) r.space in
    let few = counted_few x y h c.requires.fresh tells in
    omega (arith, long, same, few)

pub overflow_sub-left : goal.overflow_sub-left
overflow_sub-left c =
    let (h, is) = c.requires.holds in
    let tells = c.tell.ensures h is in
    let x = c.args.heap.now in
    let y = c.tell.new.heap in
    let r = c.renew_names.ensures (abstract_after h tells.holds.at) (ns x y h c.requires.fresh tells) (may_renew x y h c.requires.fresh tells tells.holds.at (rests_whole y h tells.holds (fresh_then x y h c.requires.fresh tells))) in
    let long = c.len.ensures in
    let same = ap (λ (s : Space). length s.report.told.items) r.space in
    let many = counted_many x y h c.requires.fresh tells in
    omega (arith, long, same, many)

pub returns : goal.returns
returns c = λ h is.
    let tells = c.tell.ensures h is in
    let x = c.args.heap.now in
    let y = c.tell.new.heap in
    let r = c.renew_names.ensures (abstract_after h tells.holds.at) (ns x y h c.requires.fresh tells) (may_renew x y h c.requires.fresh tells tells.holds.at (rests_whole y h tells.holds (fresh_then x y h c.requires.fresh tells))) in
    let left = c.len.result - 1 in
    let long = c.len.ensures in
    let same = ap (λ (s : Space). length s.report.told.items) r.space in
    let many = counted_many x y h c.requires.fresh tells in
    let all : c.len.result - 1 ≡ length (ns x y h c.requires.fresh tells) = omega (arith, long, same, many) in
    let bodies = c.renew.ensures (ns x y h c.requires.fresh tells)
    (subst (λ cs. AreCounted cs (ns x y h c.requires.fresh tells)) (sym c.as_slice.ensures) (counted x y h c.requires.fresh tells)) in
    subst (λ (b : Held). RenewsHeap x (record y { space = c.renew_names.new.space; bodies = b; made = left; made_before = left; left = left }) h) (sym bodies)
    (renews_heap x y h c.requires.fresh tells c.renew_names.new.space
    (λ at stands. c.renew_names.ensures (abstract_after h at) (ns x y h c.requires.fresh tells) (may_renew x y h c.requires.fresh tells at stands)) (c.len.result - 1) all)
