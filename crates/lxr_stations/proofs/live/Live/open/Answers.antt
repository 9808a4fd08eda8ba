use Rattle.std.proofs.Common.{◌∙◌, ap, length, subst, sym}
use Rattle.std.proofs.lemmas.List.{with_items_is}
use Rattle.lxr_actor.specs.Run.{AlwaysFits, core_of}
use Rattle.lxr_core.specs.Actors.{any_machine}
use Rattle.lxr_core.specs.Closing.{AreResting}
use Rattle.lxr_core.specs.Opening.{Begins, MayOpen, Opens}
use Rattle.lxr_core.proofs.AgainLemmas.{started_rest}
use Rattle.lxr_core.proofs.OpenedLemmas.{may_open}
use Rattle.lxr_shared.specs.Ends.{HaveEnds}
use Rattle.lxr_shared.proofs.Openings.{opened_have_ends}
use Rattle.lxr_stations.proofs.EpochLemmas.{began_with, fits_always, is_running, started_many}
use Rattle.lxr_stations.proofs.live.Live.open.Goals as goal

pub open_epoch-requires : goal.open_epoch-requires
open_epoch-requires c =
    let (b, begins) = c.requires in
    (b.abstract_state, subst (MayOpen b.abstract_state c.args.space) (sym c.deref_mut.ensures.value) (may_open b c.args.space c.args.actors.items begins))

pub share-requires-clause-resting : goal.share-requires-clause-resting
share-requires-clause-resting c =
    let opens = subst (λ actors. Opens c.args.space c.open_epoch.new.space actors c.open_epoch.new.actors) c.deref_mut.ensures.value c.open_epoch.ensures.opens in
    let many = started_many c.args.space c.open_epoch.new.space c.args.actors.items c.open_epoch.new.actors opens in
    let whole = with_items_is c.args.actors c.open_epoch.new.actors (many ∙ ap length (sym c.deref_mut.ensures.value) ∙ c.deref_mut.ensures.len) in
    subst AreResting (sym whole) (started_rest c.args.space.registers.items c.args.actors.items c.open_epoch.new.actors opens.actors)

pub share-requires-clause-ends : goal.share-requires-clause-ends
share-requires-clause-ends c =
    let opens = subst (λ actors. Opens c.args.space c.open_epoch.new.space actors c.open_epoch.new.actors) c.deref_mut.ensures.value c.open_epoch.ensures.opens in
    let many = started_many c.args.space c.open_epoch.new.space c.args.actors.items c.open_epoch.new.actors opens in
    let whole = with_items_is c.args.actors c.open_epoch.new.actors (many ∙ ap length (sym c.deref_mut.ensures.value) ∙ c.deref_mut.ensures.len) in
    subst HaveEnds (sym whole) (opened_have_ends c.args.space c.open_epoch.new.space c.args.actors.items c.open_epoch.new.actors opens)

pub share-requires-clause-fits : goal.share-requires-clause-fits
share-requires-clause-fits c =
    let (b, begins) = c.requires in
    let opens = subst (λ actors. Opens c.args.space c.open_epoch.new.space actors c.open_epoch.new.actors) c.deref_mut.ensures.value c.open_epoch.ensures.opens in
    let many = started_many c.args.space c.open_epoch.new.space c.args.actors.items c.open_epoch.new.actors opens in
    let whole = with_items_is c.args.actors c.open_epoch.new.actors (many ∙ ap length (sym c.deref_mut.ensures.value) ∙ c.deref_mut.ensures.len) in
    let holds = c.open_epoch.ensures.execution b (subst (Begins b c.args.space) (sym c.deref_mut.ensures.value) begins) in
    subst (λ actors. AlwaysFits any_machine (core_of c.open_epoch.new.space.words actors)) (sym whole) (fits_always b c.open_epoch.new.space c.open_epoch.new.actors holds)

pub returns-clause-runs : goal.returns-clause-runs
returns-clause-runs c = λ b begins.
    let opens = subst (λ actors. Opens c.args.space c.open_epoch.new.space actors c.open_epoch.new.actors) c.deref_mut.ensures.value c.open_epoch.ensures.opens in
    let many = started_many c.args.space c.open_epoch.new.space c.args.actors.items c.open_epoch.new.actors opens in
    let whole = with_items_is c.args.actors c.open_epoch.new.actors (many ∙ ap length (sym c.deref_mut.ensures.value) ∙ c.deref_mut.ensures.len) in
    let holds = c.open_epoch.ensures.execution b (subst (Begins b c.args.space) (sym c.deref_mut.ensures.value) begins) in
    is_running b c.args.space c.open_epoch.new.space c.args.actors.items c.open_epoch.new.actors c.in_ok-live.live.epoch begins opens holds
    (c.in_ok-live.ensures.0 ∙ ap (λ actors. core_of c.open_epoch.new.space.words actors) whole) c.in_ok-live.ensures.1

pub returns-clause-actors : goal.returns-clause-actors
returns-clause-actors c =
    let opens = subst (λ actors. Opens c.args.space c.open_epoch.new.space actors c.open_epoch.new.actors) c.deref_mut.ensures.value c.open_epoch.ensures.opens in
    let many = started_many c.args.space c.open_epoch.new.space c.args.actors.items c.open_epoch.new.actors opens in
    let whole = with_items_is c.args.actors c.open_epoch.new.actors (many ∙ ap length (sym c.deref_mut.ensures.value) ∙ c.deref_mut.ensures.len) in
    began_with c.args.space c.open_epoch.new.space c.args.actors.items c.open_epoch.new.actors c.in_ok-live.live.epoch opens
    (c.in_ok-live.ensures.0 ∙ ap (λ actors. core_of c.open_epoch.new.space.words actors) whole)
