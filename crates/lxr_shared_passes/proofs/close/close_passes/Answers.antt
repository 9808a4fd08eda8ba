use Rattle.std.proofs.Common.{rules, [], ◌≡◌, map, ap, sym, subst, length}
use Rattle.lxr_shared_passes.specs.Passing.{Opened, dealt, IsEnd}
use Rattle.lxr_shared_passes.proofs.Keeps.{sits}
use Rattle.lxr_shared_passes.proofs.Ends.{counts-of, ends}
use Rattle.lxr_shared_passes.proofs.close.close_passes.Goals as goal

pub load_new_seat-main-requires : goal.load_new_seat-main-requires
load_new_seat-main-requires g c = (search rules, sits _ _ _)

pub gather-requires-clause-room : goal.gather-requires-clause-room
gather-requires-clause-room g c =
    let same = counts-of c.args.epoch.id c.args.epoch.opening c.args.passes.items c.args.epoch.opening.actors c.requires.order in
    let actors = ap (λ o. length o.opening.actors) c.epoch.view_is in
    let room = c.epoch.invariant.3 in
    let len = c.args.passes.ok in
    (c.epoch.invariant.2, search rules)

pub returns-clause-run : goal.returns-clause-run
returns-clause-run g c =
    let order = subst (λ (o : Opened g.row.A.Denot). map (λ p. p.number) c.args.passes.items ≡ map (λ p. p.number) (dealt o.id o.opening 0 o.opening.actors)) (sym c.epoch.view_is) c.requires.order in
    subst (λ (o : Opened g.row.A.Denot). IsEnd g.A.Actor.machine o.opening c.close-words.result c.gather.new.actors.items c.args.passes.items) c.epoch.view_is
    (ends g.A.Actor.machine _ _ _ _ c.args.passes.items c.close-words.result c.gather.new.actors.items [] c.gather.ensures.main order c.gather.ensures.actors c.close-words.ensures.values)
