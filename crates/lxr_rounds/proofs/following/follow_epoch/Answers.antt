use Rattle.std.proofs.Common.{◌+◌, ◌*◌, ◌≤◌, ◌∙◌, ap, length, subst, sym, List, ◌∷◌, ℕ}
use Rattle.std.proofs.lemmas.List.{with_items_is}
use Rattle.std.specs.Prelude.{Option}
use Rattle.lxr_graph.specs.declared.report.Report.{Report}
use Rattle.lxr_graph.specs.History.{Item, Pause, PauseReport, report_of}
use Rattle.lxr_image.specs.declared.space.Space.{Space}
use Rattle.lxr_invariant.specs.AbstractState.{AbstractState}
use Rattle.lxr_core.specs.declared.actors.AnyActor.{AnyActor}
use Rattle.lxr_core.specs.Actors.{mutators_in}
use Rattle.lxr_one_pause.specs.declared.Ask.{Ask}
use Rattle.lxr_one_pause.specs.Telling.{TellsWanted}
use Rattle.lxr_placing.specs.Listing.{Lists}
use Rattle.lxr_placing.proofs.TurnLemmas.{lists_turn}
use Rattle.lxr_serve.specs.Serving.{KeepsHelpers}
use Rattle.lxr_sights.specs.Sights.{Sight}
use Rattle.lxr_rounds_invariant.specs.LoopInvariant.{HasPaused, Task, done_of}
use Rattle.lxr_rounds.specs.Following.{IsNextDue}
use Rattle.lxr_rounds.specs.Observing.{Fails, Tells, nothing, pause}
use Rattle.lxr_rounds.specs.Serving.{AllAreAnswered, AllAreCutOff, CanServeAll}
use Rattle.lxr_rounds.proofs.FollowingLemmas.{all_done, answered_many, begun, found, goes_on, pause_due, pause_fits, pauses_few}
use Rattle.lxr_rounds.proofs.ObservingLemmas.{fails_on, tells_on}
use Rattle.lxr_rounds.proofs.ResultLemmas.{passed_on}
use Rattle.lxr_rounds.proofs.ServeLemmas.{cut_off}
use Rattle.lxr_rounds.proofs.following.follow_epoch.Goals as goal

-- a pause was told, by the report that its history has
told_pause : {O S : Type 0} (task : Task) (space : Space) (seen : Option (List Sight)) (h : List Item) (asked : Ask) (report : PauseReport) (m : AbstractState) → HasPaused task space seen h asked report m
    → (began : O → List AnyActor → O → Type 0) (served : O → ℕ → List AnyActor → O → Type 0) (told : O → S → PauseReport → O → S → Type 0) (o o1 : O) (w w1 : S) → told o w (report_of space.report) o1 w1
    → Tells began served told o w h o1 w1 (Pause report ∷ h)
told_pause task space seen h asked report m paused began served told o o1 w w1 here =
    pause o o1 w w1 h report nothing (subst (λ r. told o w r o1 w1) (paused.come.safepoint.numbers.report ∙ paused.come.stands.reported) here)

pub pause-requires-clause-due : goal.pause-requires-clause-due
pause-requires-clause-due g c =
    let (task, paced, earlier, h, m, ran) = c.requires.ran in
    let are = found c.args.actors.now.items _ _ c.have_ended-ended.result c.shall_collect-collects.result _ c.ask_of-ask.result c.deref.ensures.value c.deref-2.ensures.value c.have_ended-ended.ensures c.shall_collect-collects.ensures c.ask_of-ask.ensures in
    (task, h, m, pause_due task c.args.pace paced c.args.space.now (g.W.Watch.seen c.args.watch.now) earlier c.args.actors.now.items h m ran c.have_ended-ended.result c.shall_collect-collects.result c.args.begins c.ask_of-ask.result are)

pub pause-requires-clause-counts : goal.pause-requires-clause-counts
pause-requires-clause-counts g c =
    let (task, paced, earlier, h, m, ran) = c.requires.ran in
    let are = found c.args.actors.now.items _ _ c.have_ended-ended.result c.shall_collect-collects.result _ c.ask_of-ask.result c.deref.ensures.value c.deref-2.ensures.value c.have_ended-ended.ensures c.shall_collect-collects.ensures c.ask_of-ask.ensures in
    pause_fits task c.args.pace paced c.args.space.now (g.W.Watch.seen c.args.watch.now) earlier c.args.actors.now.items h m ran c.have_ended-ended.result c.shall_collect-collects.result c.args.begins c.ask_of-ask.result are

pub returns-in_err-pause-clause-err : goal.returns-in_err-pause-clause-err
returns-in_err-pause-clause-err g c = passed_on _ c.from_residual.result c.in_err-pause.field-0.0 c.from_residual.ensures.1 (λ task paced earlier h m ran.
    let are = found c.args.actors.now.items _ _ c.have_ended-ended.result c.shall_collect-collects.result _ c.ask_of-ask.result c.deref.ensures.value c.deref-2.ensures.value c.have_ended-ended.ensures c.shall_collect-collects.ensures c.ask_of-ask.ensures in
    cut_off (λ j l r. Fails g.O.Observer.began g.O.Observer.served g.O.Observer.told g.O.Observer.failed c.args.observer.now c.args.output.now j c.in_err-pause.field-0.0 c.pause.new.output l r) task c.pause.new.space (g.W.Watch.seen c.pause.new.watch) h h c.ask_of-ask.result
    (c.pause.ensures.paused task h m (pause_due task c.args.pace paced c.args.space.now (g.W.Watch.seen c.args.watch.now) earlier c.args.actors.now.items h m ran c.have_ended-ended.result c.shall_collect-collects.result c.args.begins c.ask_of-ask.result are))
    (record { observer = c.args.observer.now; output = c.args.output.now; tells = nothing; fails = c.in_err-pause.ensures.failed }))

pub returns-then-ended-clause-ok : goal.returns-then-ended-clause-ok
returns-then-ended-clause-ok g c = λ task paced earlier h m ran.
    let are = found c.args.actors.now.items _ _ c.have_ended-ended.result c.shall_collect-collects.result _ c.ask_of-ask.result c.deref.ensures.value c.deref-2.ensures.value c.have_ended-ended.ensures c.shall_collect-collects.ensures c.ask_of-ask.ensures in
    let (report, m', paused) = c.pause.ensures.paused task h m (pause_due task c.args.pace paced c.args.space.now (g.W.Watch.seen c.args.watch.now) earlier c.args.actors.now.items h m ran c.have_ended-ended.result c.shall_collect-collects.result c.args.begins c.ask_of-ask.result are) in
    let first = told_pause task c.pause.new.space (g.W.Watch.seen c.pause.new.watch) h c.ask_of-ask.result report m' paused g.O.Observer.began g.O.Observer.served g.O.Observer.told c.args.observer.now c.pause.new.observer c.args.output.now c.pause.new.output c.in_ok-pause.ensures.told in
    all_done task c.args.pace paced c.args.space.now (g.W.Watch.seen c.args.watch.now) earlier c.args.actors.now.items h m ran c.have_ended-ended.result c.shall_collect-collects.result c.args.begins c.ask_of-ask.result are c.pause.new.space (g.W.Watch.seen c.pause.new.watch) report m' paused c.pause.ensures.made (λ j k. Tells g.O.Observer.began g.O.Observer.served g.O.Observer.told c.args.observer.now c.args.output.now j c.pause.new.observer c.pause.new.output k) first c.if-ended.true

pub returns-then-ended-clause-room : goal.returns-then-ended-clause-room
returns-then-ended-clause-room g c = c.in_ok-pause.ensures.room

pub answer_waiting-requires-clause-serving : goal.answer_waiting-requires-clause-serving
answer_waiting-requires-clause-serving g c =
    let (task, paced, earlier, h, m, ran) = c.requires.ran in
    let are = found c.args.actors.now.items _ _ c.have_ended-ended.result c.shall_collect-collects.result _ c.ask_of-ask.result c.deref.ensures.value c.deref-2.ensures.value c.have_ended-ended.ensures c.shall_collect-collects.ensures c.ask_of-ask.ensures in
    let (report, m', paused) = c.pause.ensures.paused task h m (pause_due task c.args.pace paced c.args.space.now (g.W.Watch.seen c.args.watch.now) earlier c.args.actors.now.items h m ran c.have_ended-ended.result c.shall_collect-collects.result c.args.begins c.ask_of-ask.result are) in
    subst (CanServeAll c.args.pace c.pause.new.space (g.W.Watch.seen c.pause.new.watch) c.shall_collect-collects.result) (sym c.deref_mut.ensures.value)
    (task, paced, Pause report ∷ h, m', begun task c.args.pace paced c.args.space.now (g.W.Watch.seen c.args.watch.now) earlier c.args.actors.now.items h m ran c.have_ended-ended.result c.shall_collect-collects.result c.args.begins c.ask_of-ask.result are c.pause.new.space (g.W.Watch.seen c.pause.new.watch) report m' paused c.pause.ensures.made c.if-ended.false, ran.actors_rest.helpers)

pub answer_waiting-requires-clause-room : goal.answer_waiting-requires-clause-room
answer_waiting-requires-clause-room g c = c.in_ok-pause.ensures.room

pub answer_waiting-requires-clause-few : goal.answer_waiting-requires-clause-few
answer_waiting-requires-clause-few g c =
    let (task, paced, earlier, h, m, ran) = c.requires.ran in
    let are = found c.args.actors.now.items _ _ c.have_ended-ended.result c.shall_collect-collects.result _ c.ask_of-ask.result c.deref.ensures.value c.deref-2.ensures.value c.have_ended-ended.ensures c.shall_collect-collects.ensures c.ask_of-ask.ensures in
    subst (λ (actors : List AnyActor). c.pause.new.space.pauses ≤ 2 * done_of (mutators_in actors) + 1) (sym c.deref_mut.ensures.value) (pauses_few task c.args.pace paced c.args.space.now (g.W.Watch.seen c.args.watch.now) earlier c.args.actors.now.items h m ran c.have_ended-ended.result c.shall_collect-collects.result c.args.begins c.ask_of-ask.result are c.pause.new.space.pauses c.pause.ensures.pauses)

pub answer_waiting-requires-clause-listed : goal.answer_waiting-requires-clause-listed
answer_waiting-requires-clause-listed g c = subst (λ b. TellsWanted b c.pause.new.space.report) (sym (c.pause.ensures.wants c.pause.new.space.report.kind)) c.pause.ensures.listed

pub returns-in_err-answer_waiting-clause-listed : goal.returns-in_err-answer_waiting-clause-listed
returns-in_err-answer_waiting-clause-listed g c = subst (λ b. TellsWanted b c.answer_waiting.new.space.report) (c.pause.ensures.wants c.answer_waiting.new.space.report.kind) c.answer_waiting.ensures.listed

pub returns-in_err-answer_waiting-clause-err : goal.returns-in_err-answer_waiting-clause-err
returns-in_err-answer_waiting-clause-err g c = passed_on _ c.from_residual-in_err-answer_waiting.result c.in_err-answer_waiting.field-0.0 c.from_residual-in_err-answer_waiting.ensures.1 (λ task paced earlier h m ran.
    let are = found c.args.actors.now.items _ _ c.have_ended-ended.result c.shall_collect-collects.result _ c.ask_of-ask.result c.deref.ensures.value c.deref-2.ensures.value c.have_ended-ended.ensures c.shall_collect-collects.ensures c.ask_of-ask.ensures in
    let (report, m', paused) = c.pause.ensures.paused task h m (pause_due task c.args.pace paced c.args.space.now (g.W.Watch.seen c.args.watch.now) earlier c.args.actors.now.items h m ran c.have_ended-ended.result c.shall_collect-collects.result c.args.begins c.ask_of-ask.result are) in
    let begins = begun task c.args.pace paced c.args.space.now (g.W.Watch.seen c.args.watch.now) earlier c.args.actors.now.items h m ran c.have_ended-ended.result c.shall_collect-collects.result c.args.begins c.ask_of-ask.result are c.pause.new.space (g.W.Watch.seen c.pause.new.watch) report m' paused c.pause.ensures.made c.if-ended.false in
    let first = told_pause task c.pause.new.space (g.W.Watch.seen c.pause.new.watch) h c.ask_of-ask.result report m' paused g.O.Observer.began g.O.Observer.served g.O.Observer.told c.args.observer.now c.pause.new.observer c.args.output.now c.pause.new.output c.in_ok-pause.ensures.told in
    let cut = subst (λ (actors : List AnyActor). AllAreCutOff (λ j l r. Fails g.O.Observer.began g.O.Observer.served g.O.Observer.told g.O.Observer.failed c.pause.new.observer c.pause.new.output j c.in_err-answer_waiting.field-0.0 c.answer_waiting.new.output l r) c.args.pace c.pause.new.space (g.W.Watch.seen c.pause.new.watch) c.shall_collect-collects.result (mutators_in actors) c.answer_waiting.new.space (g.W.Watch.seen c.answer_waiting.new.watch)) c.deref_mut.ensures.value c.in_err-answer_waiting.ensures.err task paced (Pause report ∷ h) m' begins in
    record {
      history = cut.history;
      asked = cut.asked;
      report = cut.report;
      abstract_state = cut.abstract_state;
      paused = cut.paused;
      cut_off = fails_on g.O.Observer.began g.O.Observer.served g.O.Observer.told c.args.observer.now c.pause.new.observer c.args.output.now c.pause.new.output h (Pause report ∷ h) first g.O.Observer.failed c.answer_waiting.new.output c.in_err-answer_waiting.field-0.0 cut.history cut.report cut.cut_off;
    })

pub list_next-requires : goal.list_next-requires
list_next-requires g c =
    let (task, paced, earlier, h, m, ran) = c.requires.ran in
    let are = found c.args.actors.now.items _ _ c.have_ended-ended.result c.shall_collect-collects.result _ c.ask_of-ask.result c.deref.ensures.value c.deref-2.ensures.value c.have_ended-ended.ensures c.shall_collect-collects.ensures c.ask_of-ask.ensures in
    let (report, m', paused) = c.pause.ensures.paused task h m (pause_due task c.args.pace paced c.args.space.now (g.W.Watch.seen c.args.watch.now) earlier c.args.actors.now.items h m ran c.have_ended-ended.result c.shall_collect-collects.result c.args.begins c.ask_of-ask.result are) in
    let begins = begun task c.args.pace paced c.args.space.now (g.W.Watch.seen c.args.watch.now) earlier c.args.actors.now.items h m ran c.have_ended-ended.result c.shall_collect-collects.result c.args.begins c.ask_of-ask.result are c.pause.new.space (g.W.Watch.seen c.pause.new.watch) report m' paused c.pause.ensures.made c.if-ended.false in
    let (collected, served, k, m'', serving, answers, tells) = subst (λ (actors : List AnyActor). AllAreAnswered (λ j l. Tells g.O.Observer.began g.O.Observer.served g.O.Observer.told c.pause.new.observer c.pause.new.output j c.answer_waiting.new.observer c.answer_waiting.new.output l) c.args.pace c.pause.new.space (g.W.Watch.seen c.pause.new.watch) c.shall_collect-collects.result (mutators_in actors) c.answer_waiting.new.space (g.W.Watch.seen c.answer_waiting.new.watch) (mutators_in c.answer_waiting.new.actors)) c.deref_mut.ensures.value c.in_ok-answer_waiting.ensures.ok task paced (Pause report ∷ h) m' begins in
    (m'', serving.between)

pub returns-clause-ok : goal.returns-clause-ok
returns-clause-ok g c = λ task paced earlier h m ran.
    let are = found c.args.actors.now.items _ _ c.have_ended-ended.result c.shall_collect-collects.result _ c.ask_of-ask.result c.deref.ensures.value c.deref-2.ensures.value c.have_ended-ended.ensures c.shall_collect-collects.ensures c.ask_of-ask.ensures in
    let (report, m', paused) = c.pause.ensures.paused task h m (pause_due task c.args.pace paced c.args.space.now (g.W.Watch.seen c.args.watch.now) earlier c.args.actors.now.items h m ran c.have_ended-ended.result c.shall_collect-collects.result c.args.begins c.ask_of-ask.result are) in
    let begins = begun task c.args.pace paced c.args.space.now (g.W.Watch.seen c.args.watch.now) earlier c.args.actors.now.items h m ran c.have_ended-ended.result c.shall_collect-collects.result c.args.begins c.ask_of-ask.result are c.pause.new.space (g.W.Watch.seen c.pause.new.watch) report m' paused c.pause.ensures.made c.if-ended.false in
    let first = told_pause task c.pause.new.space (g.W.Watch.seen c.pause.new.watch) h c.ask_of-ask.result report m' paused g.O.Observer.began g.O.Observer.served g.O.Observer.told c.args.observer.now c.pause.new.observer c.args.output.now c.pause.new.output c.in_ok-pause.ensures.told in
    let (collected, served, k, m'', serving, answers, tells) = subst (λ (actors : List AnyActor). AllAreAnswered (λ j l. Tells g.O.Observer.began g.O.Observer.served g.O.Observer.told c.pause.new.observer c.pause.new.output j c.answer_waiting.new.observer c.answer_waiting.new.output l) c.args.pace c.pause.new.space (g.W.Watch.seen c.pause.new.watch) c.shall_collect-collects.result (mutators_in actors) c.answer_waiting.new.space (g.W.Watch.seen c.answer_waiting.new.watch) (mutators_in c.answer_waiting.new.actors)) c.deref_mut.ensures.value c.in_ok-answer_waiting.ensures.ok task paced (Pause report ∷ h) m' begins in
    let keeps = subst (λ actors. KeepsHelpers actors c.answer_waiting.new.actors) c.deref_mut.ensures.value c.in_ok-answer_waiting.ensures.helpers in
    let many = answered_many task c.args.pace paced c.args.space.now (g.W.Watch.seen c.args.watch.now) earlier c.args.actors.now.items h m ran c.have_ended-ended.result c.shall_collect-collects.result c.args.begins c.ask_of-ask.result are c.answer_waiting.new.space (g.W.Watch.seen c.answer_waiting.new.watch) c.answer_waiting.new.actors c.pause.new.space.pauses (length (mutators_in c.answer_waiting.new.actors)) collected served k m'' serving keeps in
    let whole = with_items_is c.args.actors.now c.answer_waiting.new.actors (many ∙ ap length (sym c.deref_mut.ensures.value) ∙ c.deref_mut.ensures.len) in
    subst (λ answered. IsNextDue c.args.begins (λ before after. Lists c.args.to_list.now before after c.list_next.result) (λ j k. Tells g.O.Observer.began g.O.Observer.served g.O.Observer.told c.args.observer.now c.args.output.now j c.answer_waiting.new.observer c.answer_waiting.new.output k) task c.args.space.now c.list_next.new.space (g.W.Watch.seen c.answer_waiting.new.watch) earlier c.args.actors.now.items answered h) (sym whole)
    (goes_on task c.args.pace paced c.args.space.now (g.W.Watch.seen c.args.watch.now) earlier c.args.actors.now.items h m ran c.have_ended-ended.result c.shall_collect-collects.result c.args.begins c.ask_of-ask.result are c.pause.new.space (g.W.Watch.seen c.pause.new.watch) report m' paused c.pause.ensures.made c.if-ended.false c.pause.ensures.pauses c.answer_waiting.new.space c.list_next.new.space (g.W.Watch.seen c.answer_waiting.new.watch) c.answer_waiting.new.actors collected served k m'' serving answers keeps
    (record {
      between = c.list_next.ensures.between m'' serving.between;
      listed = c.list_next.ensures.listed.listed;
      all_listed = c.list_next.ensures.listed.whole;
      limits = ap (λ (s : Space). s.limits) (lists_turn c.args.to_list.now c.list_next.result c.answer_waiting.new.space c.list_next.new.space c.list_next.ensures.lists).2.rest;
      tally = ap (λ (s : Space). s.tally) (lists_turn c.args.to_list.now c.list_next.result c.answer_waiting.new.space c.list_next.new.space c.list_next.ensures.lists).2.rest;
      pauses = ap (λ (s : Space). s.pauses) (lists_turn c.args.to_list.now c.list_next.result c.answer_waiting.new.space c.list_next.new.space c.list_next.ensures.lists).2.rest;
    })
    (λ before after. Lists c.args.to_list.now before after c.list_next.result) c.list_next.ensures.lists (λ j k. Tells g.O.Observer.began g.O.Observer.served g.O.Observer.told c.args.observer.now c.args.output.now j c.answer_waiting.new.observer c.answer_waiting.new.output k)
    (tells_on g.O.Observer.began g.O.Observer.served g.O.Observer.told c.args.observer.now c.pause.new.observer c.args.output.now c.pause.new.output h (Pause report ∷ h) first c.answer_waiting.new.observer c.answer_waiting.new.output k tells))

pub returns-clause-listed : goal.returns-clause-listed
returns-clause-listed g c =
    subst (λ (r : Report). TellsWanted (g.O.Observer.wants c.args.observer.now r.kind) r) (sym (ap (λ (s : Space). s.report) (lists_turn c.args.to_list.now c.list_next.result c.answer_waiting.new.space c.list_next.new.space c.list_next.ensures.lists).2.rest))
    (subst (λ b. TellsWanted b c.answer_waiting.new.space.report) (c.pause.ensures.wants c.answer_waiting.new.space.report.kind) c.answer_waiting.ensures.listed)

pub returns-clause-room : goal.returns-clause-room
returns-clause-room g c = subst (g.O.Observer.has_room c.answer_waiting.new.observer) (sym (ap (λ (s : Space). s.pauses) (lists_turn c.args.to_list.now c.list_next.result c.answer_waiting.new.space c.list_next.new.space c.list_next.ensures.lists).2.rest)) c.in_ok-answer_waiting.ensures.room
