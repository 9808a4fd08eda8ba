use Rattle.std.proofs.Common.{arith, ◌≡◌, ◌∙◌, All, ap, length, map, subst, sym}
use Rattle.std.proofs.lemmas.List.{with_items_is}
use Rattle.lxr_actor.specs.declared.Core.{Core}
use Rattle.lxr_core.specs.declared.actors.AnyActor.{AnyActor}
use Rattle.lxr_core.specs.Collecting.{actor_given_up}
use Rattle.lxr_core.specs.Actors.{any_machine, mutators_in}
use Rattle.lxr_core.specs.Closing.{Closes, IsPauseExplained, IsPauseWanted, MayClose}
use Rattle.lxr_core.specs.Executions.{tell_all}
use Rattle.lxr_shared.specs.Sharing.{KeepsLinesAlways, Sharing, sharing}
use Rattle.lxr_shared_passes.specs.Passing.{IsEnd, Passing, dealt}
use Rattle.lxr_stations.specs.Stations.{table_of}
use Rattle.lxr_stations.proofs.EpochLemmas.{closed_many, keeps_lines, may_close}
use Rattle.lxr_stations.specs.Wanting.{IsPauseWanted as WantedBy}
use Rattle.lxr_stations.proofs.WantingLemmas.{wanted_is}
use Rattle.lxr_stations.proofs.HomeLemmas.{all_of_epoch, all_rest, same_numbers}
use Rattle.lxr_stations.proofs.SeenLemmas.{goes_on_begins, seen_at}
use Rattle.lxr_stations.proofs.live.finish.Goals as goal

pub close_shared-space-requires-clause-epoch : goal.close_shared-space-requires-clause-epoch
close_shared-space-requires-clause-epoch c =
    let is : c.from_parts-epoch.result ≡ sharing (table_of c.args.last) c.args.aside = c.from_parts-epoch.ensures ∙ ap (λ t. sharing t c.args.aside) c.into_table.ensures in
    subst (λ (e : Sharing). All (λ (p : Passing AnyActor). p.epoch ≡ e.id) c.args.passes.items) (sym is) (all_of_epoch (table_of c.args.last) 0 c.args.passes.items c.requires.all.each)

pub close_shared-space-requires-clause-order : goal.close_shared-space-requires-clause-order
close_shared-space-requires-clause-order c =
    let is : c.from_parts-epoch.result ≡ sharing (table_of c.args.last) c.args.aside = c.from_parts-epoch.ensures ∙ ap (λ t. sharing t c.args.aside) c.into_table.ensures in
    subst (λ (e : Sharing). map (λ (p : Passing AnyActor). p.number) c.args.passes.items ≡ map (λ (p : Passing AnyActor). p.number) (dealt e.id e.opening 0 e.opening.actors)) (sym is)
    (same_numbers (table_of c.args.last) 0 c.args.passes.items c.args.last.opening.actors c.requires.all.many c.requires.all.each)

pub close_shared-space-requires-clause-lines : goal.close_shared-space-requires-clause-lines
close_shared-space-requires-clause-lines c =
    let (b, running) = c.requires.running in
    let whole : Sharing = sharing (table_of c.args.last) c.args.aside in
    let is : c.from_parts-epoch.result ≡ whole = c.from_parts-epoch.ensures ∙ ap (λ t. sharing t c.args.aside) c.into_table.ensures in
    subst (λ (e : Sharing). KeepsLinesAlways e.space.limits e.opening) (sym is) (keeps_lines b whole running)

pub close_epoch-requires : goal.close_epoch-requires
close_epoch-requires c =
    let (b, running) = c.requires.running in
    let whole : Sharing = sharing (table_of c.args.last) c.args.aside in
    let is : c.from_parts-epoch.result ≡ whole = c.from_parts-epoch.ensures ∙ ap (λ t. sharing t c.args.aside) c.into_table.ensures in
    let space = c.close_shared-space.result.0 in
    let actors = c.close_shared-space.result.1.items in
    let end = subst (λ (e : Sharing). IsEnd any_machine e.opening space.words actors c.args.passes.items) is c.close_shared-space.ensures.run in
    let rest = subst (λ (e : Sharing). space ≡ record e.space { words = space.words }) is c.close_shared-space.ensures.rest in (
      b,
      tell_all b running.opened end.0,
      subst (MayClose b (tell_all b running.opened end.0) space) (sym c.deref_mut.ensures.value) (may_close b whole space actors c.args.passes.items running end c.close_shared-space.ensures.actors rest (all_rest (table_of c.args.last) 0 c.args.passes.items c.requires.all.each)),
    )

pub returns-clause-closes : goal.returns-clause-closes
returns-clause-closes c = λ b running handed hold home.
    let whole : Sharing = sharing (table_of c.args.last) c.args.aside in
    let is : c.from_parts-epoch.result ≡ whole = c.from_parts-epoch.ensures ∙ ap (λ t. sharing t c.args.aside) c.into_table.ensures in
    let space = c.close_shared-space.result.0 in
    let actors = c.close_shared-space.result.1.items in
    let end = subst (λ (e : Sharing). IsEnd any_machine e.opening space.words actors c.args.passes.items) is c.close_shared-space.ensures.run in
    let rest = subst (λ (e : Sharing). space ≡ record e.space { words = space.words }) is c.close_shared-space.ensures.rest in
    let execution = tell_all b running.opened end.0 in
    let may = may_close b whole space actors c.args.passes.items running end c.close_shared-space.ensures.actors rest (all_rest (table_of c.args.last) 0 c.args.passes.items c.requires.all.each) in
    let closes = c.close_epoch.ensures.closes b execution (subst (MayClose b execution space) (sym c.deref_mut.ensures.value) may) in
    let many = closed_many b execution space c.close_epoch.new.space actors c.close_epoch.new.actors may closes in
    let same = with_items_is c.close_shared-space.result.1 c.close_epoch.new.actors (many ∙ ap length (sym c.deref_mut.ensures.value) ∙ c.deref_mut.ensures.len) in
    record {
      schedule = end.0;
      seen = λ number s at. seen_at (table_of c.args.last) c.args.passes.items c.requires.all.each end.0 end.3 number s.pass (hold number s (omega arith) at);
      begins = λ number s at. let (q, there, on) = home number s (omega arith) at in goes_on_begins end.0 number s.pass q on (seen_at (table_of c.args.last) c.args.passes.items c.requires.all.each end.0 end.3 number q there);
      middle = space;
      words = may.space_is;
      due = subst (λ actors. IsPauseExplained b execution actors) (sym same) (c.close_epoch.ensures.due b execution (subst (MayClose b execution space) (sym c.deref_mut.ensures.value) may)
          (subst (λ actors. IsPauseWanted space (mutators_in actors)) (sym c.deref_mut.ensures.value) (wanted_is b execution space actors may
          (subst (λ actors. WantedBy actors) (sym c.close_shared-space.ensures.actors) c.requires.all.wanted))));
      closes = subst (λ actors. Closes b execution space c.close_epoch.new.space actors) (sym same) closes;
    }

pub returns-clause-actors : goal.returns-clause-actors
returns-clause-actors c =
    let (b, running) = c.requires.running in
    let whole : Sharing = sharing (table_of c.args.last) c.args.aside in
    let is : c.from_parts-epoch.result ≡ whole = c.from_parts-epoch.ensures ∙ ap (λ t. sharing t c.args.aside) c.into_table.ensures in
    let space = c.close_shared-space.result.0 in
    let actors = c.close_shared-space.result.1.items in
    let end = subst (λ (e : Sharing). IsEnd any_machine e.opening space.words actors c.args.passes.items) is c.close_shared-space.ensures.run in
    let rest = subst (λ (e : Sharing). space ≡ record e.space { words = space.words }) is c.close_shared-space.ensures.rest in
    let execution = tell_all b running.opened end.0 in
    let may = may_close b whole space actors c.args.passes.items running end c.close_shared-space.ensures.actors rest (all_rest (table_of c.args.last) 0 c.args.passes.items c.requires.all.each) in
    let closes = c.close_epoch.ensures.closes b execution (subst (MayClose b execution space) (sym c.deref_mut.ensures.value) may) in
    let many = closed_many b execution space c.close_epoch.new.space actors c.close_epoch.new.actors may closes in
    let same = with_items_is c.close_shared-space.result.1 c.close_epoch.new.actors (many ∙ ap length (sym c.deref_mut.ensures.value) ∙ c.deref_mut.ensures.len) in
    same ∙ closes.gave ∙ ap (λ (k : Core AnyActor). map actor_given_up k.actors) may.core ∙ ap (map actor_given_up) c.close_shared-space.ensures.actors
