use Rattle.std.proofs.Common.{subst}
use Rattle.lxr_layout.specs.declared.limits.Limits.{Limits}
use Rattle.lxr_image.specs.Opened.{IsOpened}
use Rattle.lxr_invariant.specs.Quiescent.{IsQuiescent}
use Rattle.lxr_placing.specs.Opening.{opening_abstract_state}
use Rattle.lxr_placing.proofs.OpenedListLemmas.{opened_is_listed}
use Rattle.lxr_placing.proofs.OpeningLemmas.{opened_is_quiescent}
use Rattle.lxr_rounds.specs.Helpers.{HelpersStandBehind}
use Rattle.lxr_shared_heap.specs.Making.{AreNew}
use Rattle.lxr_shared_heap.specs.Settings.{limits_in}
use Rattle.lxr_shared_heap.proofs.MakingLemmas.{new_between, new_live, new_newest}
use Rattle.lxr_shared_heap.proofs.making.new_heap.Goals as goal

pub returns-clause-untold : goal.returns-clause-untold
returns-clause-untold c = c.in_ok-open.ensures.opened.report.told

pub returns-clause-between : goal.returns-clause-between
returns-clause-between c =
    let settings = c.args.settings in
    let is = c.limits-limits.ensures in
    let opened = c.in_ok-open.ensures in
    let new = subst (λ (l : Limits). AreNew l settings.every settings.names l.threads c.in_ok-actors.actors.items) is c.in_ok-actors.ensures.new in
    let stand = subst (λ l. HelpersStandBehind l settings.helpers c.in_ok-actors.actors.items c.add_helpers.new.actors.items) is c.in_ok-add_helpers.ensures in (
      (
        opening_abstract_state settings.mutators,
        new_between settings c.open.new.self c.in_ok-actors.actors.items c.add_helpers.new.actors.items c.requires new stand (subst (IsOpened c.open.new.self) is opened.opened)
            (subst (λ (l : Limits). IsQuiescent c.open.new.self (opening_abstract_state l.threads)) is (opened_is_quiescent c.open.new.self c.limits-limits.result opened.space opened.opened opened.image))
            (opened_is_listed c.open.new.self c.limits-limits.result opened.space opened.opened),
      ),
      new_live (limits_in settings) settings.every settings.names settings.mutators settings.helpers c.in_ok-actors.actors.items c.add_helpers.new.actors.items new stand,
      new_newest (limits_in settings) settings.every settings.names settings.mutators settings.helpers c.in_ok-actors.actors.items c.add_helpers.new.actors.items new stand,
    )
