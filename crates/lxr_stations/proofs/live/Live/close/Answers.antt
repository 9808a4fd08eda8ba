use Rattle.std.proofs.Common.{◌≡◌, ◌∙◌, [], ap, length, subst, sym}
use Rattle.std.specs.Arc.{arc_value}
use Rattle.lxr_core_invariant.specs.EpochStates.{Beginning}
use Rattle.lxr_shared.specs.Sharing.{Sharing, sharing}
use Rattle.lxr_stations.specs.Gathering.{HaveEndedFrom, IsWantedByAll}
use Rattle.lxr_stations.specs.Running.{ClosesLive, IsRunning}
use Rattle.lxr_stations.specs.Arriving.{AreArrivalsOf}
use Rattle.lxr_stations.specs.Stations.{Lived, housed_in, table_of}
use Rattle.lxr_stations.proofs.HomeLemmas.{given_up_in, unended_from}
use Rattle.lxr_stations.proofs.live.Live.close.Goals as goal

pub returns-in-Ok-clause-closed : goal.returns-in-Ok-clause-closed
returns-in-Ok-clause-closed c =
    let last : c.unwrap.result ≡ arc_value c.self.inside.shared = (let told = c.unwrap.ensures in let is = c.in-Ok.ensures.all.0 in cc) in
    let whole : sharing (table_of c.unwrap.result) c.self.inside.aside ≡ c.args.self.epoch = ap (λ l. sharing (table_of l) c.self.inside.aside) last ∙ ap (λ (l : Lived). l.epoch) c.self.view_is in
    subst (λ (e : Sharing). (b : Beginning) (running : IsRunning b e) → ClosesLive b e running c.args.arrivals.now c.finish.result.0 c.finish.result.1.items) whole
    (λ b running. c.finish.ensures.closes b running c.args.arrivals.now c.in-Ok.ensures.all.1.handed_in c.in-Ok.ensures.all.1.come_home)

pub gather-requires-clause-handed : goal.gather-requires-clause-handed
gather-requires-clause-handed c = subst (λ l. AreArrivalsOf (housed_in l) c.args.arrivals.now) (sym c.self.view_is) c.requires.handed

pub returns-in-Ok-clause-handed : goal.returns-in-Ok-clause-handed
returns-in-Ok-clause-handed c = given_up_in c.args.arrivals.now c.gather.new.passes.items c.finish.result.1.items c.finish.ensures.actors c.in-Ok.ensures.all.1.handed_in

pub returns-in-Err-clause-unended : goal.returns-in-Err-clause-unended
returns-in-Err-clause-unended c = λ is. subst (λ (l : Lived). ¬ HaveEndedFrom (length l.epoch.opening.actors) 0 c.args.arrivals.now) c.self.view_is
    (unended_from (length (arc_value c.self.inside.shared).opening.actors) c.args.arrivals.now c.self.inside.passes.items c.self.invariant.0 (c.in-Err.ensures.unwanted is))

pub returns-in-Err-clause-wanted : goal.returns-in-Err-clause-wanted
returns-in-Err-clause-wanted c = λ is. subst (λ (l : Lived). IsWantedByAll (housed_in l) 0 c.args.arrivals.now []) c.self.view_is
    (subst (IsWantedByAll (arc_value c.self.inside.shared) 0 c.args.arrivals.now) c.self.invariant.0 (c.in-Err.ensures.wanted is))
