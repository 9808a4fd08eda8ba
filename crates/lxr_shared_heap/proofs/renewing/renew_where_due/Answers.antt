use Rattle.std.proofs.Common.{◌≡◌, ◌∙◌, ◌-◌, Bool, true, sym, subst, arith, List, length}
use Rattle.std.specs.Prelude.{◌&&◌}
use Rattle.lxr_graph.specs.History.{Item}
use Rattle.lxr_model.specs.Belongs.{Script}
use Rattle.lxr_image.specs.declared.space.Space.{Space}
use Rattle.lxr_invariant.specs.AbstractState.{AbstractState}
use Rattle.lxr_core.specs.declared.actors.AnyActor.{AnyActor}
use Rattle.lxr_shared_heap.specs.declared.settings.Settings.{Settings}
use Rattle.lxr_shared_heap.specs.Renewing.{HasRenewed, RenewsWhere, StandsIdle, is_renewal_due}
use Rattle.lxr_shared_heap.proofs.RenewingLemmas.{counted_few, counted_many, each_can, has_renewed, lists_left, may_renew, ns}
use Rattle.lxr_shared_heap.proofs.renewing.renew_where_due.Goals as goal

-- where it is told to be idle, it is
stands_idle : (settings : Settings) (script : Script) (space : Space) (actors : List AnyActor) (h : List Item) (g : AbstractState) (idle : Bool) → idle ≡ true → StandsIdle settings script space actors h g idle
    → StandsIdle settings script space actors h g true
stands_idle settings script space actors h g idle is stands = subst (StandsIdle settings script space actors h g) is stands

pub tell_counts-requires : goal.tell_counts-requires
tell_counts-requires c =
    let (settings, script, h, g, stands) = c.requires in
    (g.moment, g.at, stands.between.come.safepoint.holds)

pub overflow_cast-left : goal.overflow_cast-left
overflow_cast-left c =
    let (settings, script, h, g, stands) = c.requires in
    let few = counted_few settings script c.args.space.now c.args.actors.now h g (stands_idle settings script c.args.space.now c.args.actors.now h g c.args.idle c.if-idle.true stands) (sym c.is_renewal_due.ensures ∙ c.if-is_renewal_due.true)
    c.tell_counts.new.space (c.tell_counts.ensures g.moment g.at stands.between.come.safepoint.holds) in
    let len = c.len.ensures in
    omega (arith, few, len)

pub overflow_sub-left : goal.overflow_sub-left
overflow_sub-left c =
    let (settings, script, h, g, stands) = c.requires in
    let many = counted_many settings script c.args.space.now c.args.actors.now h g (stands_idle settings script c.args.space.now c.args.actors.now h g c.args.idle c.if-idle.true stands) (sym c.is_renewal_due.ensures ∙ c.if-is_renewal_due.true)
    c.tell_counts.new.space (c.tell_counts.ensures g.moment g.at stands.between.come.safepoint.holds) in
    let len = c.len.ensures in
    omega (arith, many, len)

pub renew_names-requires : goal.renew_names-requires
renew_names-requires c =
    let (settings, script, h, g, stands) = c.requires in
    let idle = stands_idle settings script c.args.space.now c.args.actors.now h g c.args.idle c.if-idle.true stands in
    let due = sym c.is_renewal_due.ensures ∙ c.if-is_renewal_due.true in
    let tells = c.tell_counts.ensures g.moment g.at stands.between.come.safepoint.holds in
    (g, ns settings script c.args.space.now c.args.actors.now h g idle due, may_renew settings script c.args.space.now c.args.actors.now h g idle due c.tell_counts.new.space tells)

pub renew_actors-requires : goal.renew_actors-requires
renew_actors-requires c =
    let (settings, script, h, g, stands) = c.requires in
    let idle = stands_idle settings script c.args.space.now c.args.actors.now h g c.args.idle c.if-idle.true stands in
    let due = sym c.is_renewal_due.ensures ∙ c.if-is_renewal_due.true in
    let many = counted_many settings script c.args.space.now c.args.actors.now h g idle due c.tell_counts.new.space (c.tell_counts.ensures g.moment g.at stands.between.come.safepoint.holds) in
    let len = c.len.ensures in
    each_can settings script c.args.space.now c.args.actors.now h g idle due (c.len.result - 1) (omega (arith, many, len))

pub returns-then-is_renewal_due-clause-renews : goal.returns-then-is_renewal_due-clause-renews
returns-then-is_renewal_due-clause-renews c =
    let due = sym c.is_renewal_due.ensures ∙ c.if-is_renewal_due.true in
    let both : (c.args.idle && is_renewal_due c.args.space.now c.args.actors.now) ≡ true = λ i. c.if-idle.true i && due i in
    subst (λ b. RenewsWhere b c.args.space.now c.args.actors.now c.args.idle c.renew_names.new.space c.renew_actors.new.actors) (sym both)
    (λ settings script h g stands.
    let idle = stands_idle settings script c.args.space.now c.args.actors.now h g c.args.idle c.if-idle.true stands in
    let tells = c.tell_counts.ensures g.moment g.at stands.between.come.safepoint.holds in
    let many = counted_many settings script c.args.space.now c.args.actors.now h g idle due c.tell_counts.new.space tells in
    let len = c.len.ensures in
    let all : c.len.result - 1 ≡ length (ns settings script c.args.space.now c.args.actors.now h g idle due) = omega (arith, many, len) in
    subst (λ actors'. HasRenewed settings c.args.actors.now c.renew_names.new.space actors' h) (sym c.renew_actors.ensures)
    (has_renewed settings script c.args.space.now c.args.actors.now h g idle due (c.len.result - 1) all c.tell_counts.new.space c.renew_names.new.space tells
    (c.renew_names.ensures g (ns settings script c.args.space.now c.args.actors.now h g idle due) (may_renew settings script c.args.space.now c.args.actors.now h g idle due c.tell_counts.new.space tells))))

pub returns-then-is_renewal_due-clause-lists : goal.returns-then-is_renewal_due-clause-lists
returns-then-is_renewal_due-clause-lists c =
    let (settings, script, h, g, stands) = c.requires in
    let idle = stands_idle settings script c.args.space.now c.args.actors.now h g c.args.idle c.if-idle.true stands in
    let due = sym c.is_renewal_due.ensures ∙ c.if-is_renewal_due.true in
    let tells = c.tell_counts.ensures g.moment g.at stands.between.come.safepoint.holds in
    let names = ns settings script c.args.space.now c.args.actors.now h g idle due in
    lists_left c.args.space.now c.tell_counts.new.space c.renew_names.new.space g names tells
    (c.renew_names.ensures g names (may_renew settings script c.args.space.now c.args.actors.now h g idle due c.tell_counts.new.space tells))
