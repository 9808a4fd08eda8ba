use Rattle.std.proofs.Common.{Bool, ℕ, refl, sym, subst, ◌∙◌, List, ◌∷◌, length}
use Rattle.lxr_graph.specs.declared.report.Report.{Report}
use Rattle.lxr_graph.specs.History.{Item, Pause, PauseReport, report_of}
use Rattle.lxr_image.specs.declared.space.Space.{Space}
use Rattle.lxr_invariant.specs.AbstractState.{AbstractState}
use Rattle.lxr_core.specs.declared.actors.AnyActor.{AnyActor}
use Rattle.lxr_core.specs.Actors.{mutators_in}
use Rattle.lxr_one_pause.specs.declared.Ask.TheVariants as ask
use Rattle.lxr_one_pause.specs.Telling.{TellsWanted}
use Rattle.lxr_serve.specs.declared.Served.{Served}
use Rattle.lxr_serve.specs.declared.Served.TheVariants as outcome
use Rattle.lxr_serve.specs.Answering.{Answers}
use Rattle.lxr_serve.specs.Serving.{CanServe, KeepsHelpers}
use Rattle.lxr_rounds_invariant.specs.LoopInvariant.{task_limits, threads_of}
use Rattle.lxr_rounds_invariant.proofs.AnsweringLemmas.{all_answered, can_serve, wants_collection}
use Rattle.lxr_rounds_invariant.proofs.PauseLemmas.{counts_fit}
use Rattle.lxr_rounds_invariant.proofs.TurnLemmas.{helpers_rest}
use Rattle.lxr_rounds.specs.Answering.{all}
use Rattle.lxr_rounds.specs.Observing.{Fails, Tells, answers, nothing, pause}
use Rattle.lxr_rounds.proofs.ResultLemmas.{passed_on}
use Rattle.lxr_rounds.proofs.ServeLemmas.{all_of_it, answers_behind, begins_again, comes_to_collect, cut_off, keeps_on, less_left, pauses_few, pauses_same, turns_pause}
use Rattle.lxr_rounds.proofs.serving.answer_waiting.Goals as goal

-- what was answered once is told behind what was told before
told_more : {O S : Type 0} (began : O → List AnyActor → O → Type 0) (served : O → ℕ → List AnyActor → O → Type 0) (told : O → S → PauseReport → O → S → Type 0) (o o1 o3 : O) (w w1 : S) (h k l : List Item)
    (result : Served) (collected : Bool) (actors actors' : List AnyActor) (space space' : Space) (g : AbstractState) → Tells began served told o w h o1 w1 k → CanServe space g actors collected
    → Answers result collected (mutators_in actors) (mutators_in actors') space space' k l → KeepsHelpers actors actors' → (o2 : O) × began o1 actors o2 × served o2 space.limits.threads actors' o3
    → Tells began served told o w h o3 w1 l
told_more began served told o o1 o3 w w1 h k l result collected actors actors' space space' g tells can were keeps (o2, begun, then) =
    answers o1 o2 o3 w1 k l actors actors' space space' tells begun (record { result = result; collected = collected; abstract_state = g; can = can; answers = were; helpers = keeps }) then

pub loop-space-init : goal.loop-space-init
loop-space-init g c =
    let (task0, paced0, h0, m0, begun0, helpers0) = c.requires.serving in
    record {
      serving = λ task paced h m begun. (h, m, begun.serving, λ mutators' space' h' answers. answers, nothing);
      room = c.requires.room;
      helpers = record { order = helpers0.order; same = refl; tracers = refl };
      wants = λ kind. refl;
      listed = c.requires.listed;
    }

pub serve_and_tell-requires : goal.serve_and_tell-requires
serve_and_tell-requires g c =
    let (task0, paced0, h0, m0, begun0, helpers0) = c.requires.serving in
    let (h0', m0', serving0, on0, tells0) = c.loop-space.invariant.serving task0 paced0 h0 m0 begun0 in
    let can = can_serve task0 c.loop-space.space (g.W.Watch.seen c.loop-space.watch) (mutators_in c.args.actors.now) c.args.space.now.pauses c.loop-space.collected c.loop-space.actors h0' m0' serving0
    (helpers_rest (task_limits task0) c.args.actors.now c.loop-space.actors c.loop-space.invariant.helpers helpers0) in
    record { serving = (m0', can) }

pub pause-requires-clause-due : goal.pause-requires-clause-due
pause-requires-clause-due g c =
    let (task, paced, h, m, begun, helpers) = c.requires.serving in
    let (h', m', serving, on, tells) = c.loop-space.invariant.serving task paced h m begun in
    let (k, wants) = c.in-Collect.ensures.answers h' in
    let full = wants_collection task (g.W.Watch.seen c.loop-space.watch) (mutators_in c.args.actors.now) c.args.space.now.pauses c.loop-space.collected (mutators_in c.loop-space.actors)
    (mutators_in c.serve_and_tell.new.actors) c.loop-space.space c.serve_and_tell.new.space h' k m' serving wants in
    (task, k, full.abstract_state, comes_to_collect task c.args.pace _ _ _ _ paced c.serve_and_tell.new.space (mutators_in c.serve_and_tell.new.actors) k full)

pub pause-requires-clause-counts : goal.pause-requires-clause-counts
pause-requires-clause-counts g c =
    let (task, paced, h, m, begun, helpers) = c.requires.serving in
    let (h', m', serving, on, tells) = c.loop-space.invariant.serving task paced h m begun in
    let (k, wants) = c.in-Collect.ensures.answers h' in
    let full = wants_collection task (g.W.Watch.seen c.loop-space.watch) (mutators_in c.args.actors.now) c.args.space.now.pauses c.loop-space.collected (mutators_in c.loop-space.actors)
    (mutators_in c.serve_and_tell.new.actors) c.loop-space.space c.serve_and_tell.new.space h' k m' serving wants in
    counts_fit task c.serve_and_tell.new.space (g.W.Watch.seen c.loop-space.watch) k full.abstract_state (mutators_in c.serve_and_tell.new.actors) full.serving.come full.serving.mutators_rest
    (pauses_few task c.args.pace _ _ _ _ paced c.serve_and_tell.new.space (mutators_in c.serve_and_tell.new.actors) k full c.requires.few)

pub pause-requires-clause-room : goal.pause-requires-clause-room
pause-requires-clause-room g c =
    let (task, paced, h, m, begun, helpers) = c.requires.serving in
    let (h', m', serving, on, tells) = c.loop-space.invariant.serving task paced h m begun in
    let (k, wants) = c.in-Collect.ensures.answers h' in
    let full = wants_collection task (g.W.Watch.seen c.loop-space.watch) (mutators_in c.args.actors.now) c.args.space.now.pauses c.loop-space.collected (mutators_in c.loop-space.actors)
    (mutators_in c.serve_and_tell.new.actors) c.loop-space.space c.serve_and_tell.new.space h' k m' serving wants in
    subst (g.O.Observer.has_room c.serve_and_tell.new.observer)
    (pauses_same task c.loop-space.space c.serve_and_tell.new.space (g.W.Watch.seen c.loop-space.watch) (g.W.Watch.seen c.loop-space.watch) h' k m' full.abstract_state serving.come full.serving.come
    (turns_pause (threads_of task) c.loop-space.collected (mutators_in c.loop-space.actors) c.loop-space.space h' wants.number (mutators_in c.serve_and_tell.new.actors) c.serve_and_tell.new.space wants.served k wants.turns))
    (c.serve_and_tell.ensures.room c.loop-space.space.pauses c.loop-space.invariant.room)

pub returns-in_err-pause-clause-err : goal.returns-in_err-pause-clause-err
returns-in_err-pause-clause-err g c = passed_on _ c.from_residual.result c.in_err-pause.field-0.0 c.from_residual.ensures.1 (λ task paced h m begun.
    let (task0, paced0, h0, m0, begun0, helpers0) = c.requires.serving in
    let (h0', m0', serving0, on0, tells0) = c.loop-space.invariant.serving task0 paced0 h0 m0 begun0 in
    let can = can_serve task0 c.loop-space.space (g.W.Watch.seen c.loop-space.watch) (mutators_in c.args.actors.now) c.args.space.now.pauses c.loop-space.collected c.loop-space.actors h0' m0' serving0
    (helpers_rest (task_limits task0) c.args.actors.now c.loop-space.actors c.loop-space.invariant.helpers helpers0) in
    let (h', m', serving, on, tells) = c.loop-space.invariant.serving task paced h m begun in
    let (k, wants) = c.in-Collect.ensures.answers h' in
    let full = wants_collection task (g.W.Watch.seen c.loop-space.watch) (mutators_in c.args.actors.now) c.args.space.now.pauses c.loop-space.collected (mutators_in c.loop-space.actors)
    (mutators_in c.serve_and_tell.new.actors) c.loop-space.space c.serve_and_tell.new.space h' k m' serving wants in
    let tells' = told_more g.O.Observer.began g.O.Observer.served g.O.Observer.told c.args.observer.now c.loop-space.observer c.serve_and_tell.new.observer c.args.output.now c.loop-space.output h h' k
    outcome.Collect c.loop-space.collected c.loop-space.actors c.serve_and_tell.new.actors c.loop-space.space c.serve_and_tell.new.space m0' tells can wants c.serve_and_tell.ensures.helpers c.serve_and_tell.ensures.told in
    cut_off (λ j l report. Fails g.O.Observer.began g.O.Observer.served g.O.Observer.told g.O.Observer.failed c.args.observer.now c.args.output.now j c.in_err-pause.field-0.0 c.pause.new.output l report) task c.pause.new.space (g.W.Watch.seen c.pause.new.watch) h k ask.Collect
    (c.pause.ensures.paused task k full.abstract_state (comes_to_collect task c.args.pace _ _ _ _ paced c.serve_and_tell.new.space (mutators_in c.serve_and_tell.new.actors) k full))
    (record { observer = c.serve_and_tell.new.observer; output = c.loop-space.output; tells = tells'; fails = c.in_err-pause.ensures.failed }))

pub returns-in_err-pause-clause-listed : goal.returns-in_err-pause-clause-listed
returns-in_err-pause-clause-listed g c =
    let kind = c.pause.new.space.report.kind in
    subst (λ b. TellsWanted b c.pause.new.space.report) (c.serve_and_tell.ensures.wants kind ∙ c.loop-space.invariant.wants kind) c.pause.ensures.listed

pub loop-space-smaller : goal.loop-space-smaller
loop-space-smaller g c =
    let (task, paced, h, m, begun, helpers) = c.requires.serving in
    let (h', m', serving, on, tells) = c.loop-space.invariant.serving task paced h m begun in
    let (k, wants) = c.in-Collect.ensures.answers h' in
    let full = wants_collection task (g.W.Watch.seen c.loop-space.watch) (mutators_in c.args.actors.now) c.args.space.now.pauses c.loop-space.collected (mutators_in c.loop-space.actors)
    (mutators_in c.serve_and_tell.new.actors) c.loop-space.space c.serve_and_tell.new.space h' k m' serving wants in
    less_left task h' k (mutators_in c.loop-space.actors) (mutators_in c.serve_and_tell.new.actors) c.loop-space.space c.serve_and_tell.new.space h' k c.loop-space.collected serving.mutators_rest full.serving.mutators_rest wants

pub loop-space-preserved : goal.loop-space-preserved
loop-space-preserved g c = record {
  serving = λ task paced h m begun.
      let (task0, paced0, h0, m0, begun0, helpers0) = c.requires.serving in
      let (h0', m0', serving0, on0, tells0) = c.loop-space.invariant.serving task0 paced0 h0 m0 begun0 in
      let can = can_serve task0 c.loop-space.space (g.W.Watch.seen c.loop-space.watch) (mutators_in c.args.actors.now) c.args.space.now.pauses c.loop-space.collected c.loop-space.actors h0' m0' serving0
      (helpers_rest (task_limits task0) c.args.actors.now c.loop-space.actors c.loop-space.invariant.helpers helpers0) in
      let (h', m', serving, on, tells) = c.loop-space.invariant.serving task paced h m begun in
      let (k, wants) = c.in-Collect.ensures.answers h' in
      let full = wants_collection task (g.W.Watch.seen c.loop-space.watch) (mutators_in c.args.actors.now) c.args.space.now.pauses c.loop-space.collected (mutators_in c.loop-space.actors)
      (mutators_in c.serve_and_tell.new.actors) c.loop-space.space c.serve_and_tell.new.space h' k m' serving wants in
      let tells' = told_more g.O.Observer.began g.O.Observer.served g.O.Observer.told c.args.observer.now c.loop-space.observer c.serve_and_tell.new.observer c.args.output.now c.loop-space.output h h' k
      outcome.Collect c.loop-space.collected c.loop-space.actors c.serve_and_tell.new.actors c.loop-space.space c.serve_and_tell.new.space m0' tells can wants c.serve_and_tell.ensures.helpers c.serve_and_tell.ensures.told in
      let (report, m'', paused) = c.pause.ensures.paused task k full.abstract_state
      (comes_to_collect task c.args.pace _ _ _ _ paced c.serve_and_tell.new.space (mutators_in c.serve_and_tell.new.actors) k full) in (
        Pause (report_of c.pause.new.space.report) ∷ k,
        m'',
        begins_again task c.args.pace _ _ _ _ paced c.serve_and_tell.new.space (mutators_in c.serve_and_tell.new.actors) k full c.pause.new.space (g.W.Watch.seen c.pause.new.watch) report m'' paused c.pause.ensures.pauses,
        answers_behind c.args.pace c.args.collected c.loop-space.collected (mutators_in c.args.actors.now) (mutators_in c.loop-space.actors) (mutators_in c.serve_and_tell.new.actors) c.args.space.now c.loop-space.space
            c.serve_and_tell.new.space c.pause.new.space h h' k on wants c.pause.ensures.made,
        pause c.serve_and_tell.new.observer c.pause.new.observer c.loop-space.output c.pause.new.output k (report_of c.pause.new.space.report) tells' c.in_ok-pause.ensures.told,
      );
  room = c.in_ok-pause.ensures.room;
  helpers = keeps_on c.args.actors.now c.loop-space.actors c.serve_and_tell.new.actors c.loop-space.invariant.helpers c.serve_and_tell.ensures.helpers;
  wants = λ kind. c.pause.ensures.wants kind ∙ c.serve_and_tell.ensures.wants kind ∙ c.loop-space.invariant.wants kind;
  listed =
      let kind = c.pause.new.space.report.kind in
      subst (λ b. TellsWanted b c.pause.new.space.report) (c.serve_and_tell.ensures.wants kind ∙ c.loop-space.invariant.wants kind) c.pause.ensures.listed;
}

pub returns-clause-ok : goal.returns-clause-ok
returns-clause-ok g c = λ task paced h m begun.
    let (task0, paced0, h0, m0, begun0, helpers0) = c.requires.serving in
    let (h0', m0', serving0, on0, tells0) = c.loop-space.invariant.serving task0 paced0 h0 m0 begun0 in
    let can = can_serve task0 c.loop-space.space (g.W.Watch.seen c.loop-space.watch) (mutators_in c.args.actors.now) c.args.space.now.pauses c.loop-space.collected c.loop-space.actors h0' m0' serving0
    (helpers_rest (task_limits task0) c.args.actors.now c.loop-space.actors c.loop-space.invariant.helpers helpers0) in
    let (h', m', serving, on, tells) = c.loop-space.invariant.serving task paced h m begun in
    let (k, were) = c.serve_and_tell.ensures.answers h' in
    let whole = all_of_it c.serve_and_tell.result c.loop-space.collected (mutators_in c.loop-space.actors) (mutators_in c.serve_and_tell.new.actors) c.loop-space.space c.serve_and_tell.new.space h' k c.in_default.not-Collect were in
    let (served, m'', serving') = all_answered task (g.W.Watch.seen c.loop-space.watch) (mutators_in c.args.actors.now) c.args.space.now.pauses c.loop-space.collected (mutators_in c.loop-space.actors)
    (mutators_in c.serve_and_tell.new.actors) c.loop-space.space c.serve_and_tell.new.space h' k m' serving whole in (
      c.loop-space.collected,
      served,
      k,
      m'',
      serving',
      on (mutators_in c.serve_and_tell.new.actors) c.serve_and_tell.new.space k
          (all c.loop-space.collected (mutators_in c.loop-space.actors) (mutators_in c.serve_and_tell.new.actors) c.loop-space.space c.serve_and_tell.new.space h' k whole),
      told_more g.O.Observer.began g.O.Observer.served g.O.Observer.told c.args.observer.now c.loop-space.observer c.serve_and_tell.new.observer c.args.output.now c.loop-space.output h h' k
          c.serve_and_tell.result c.loop-space.collected c.loop-space.actors c.serve_and_tell.new.actors c.loop-space.space c.serve_and_tell.new.space m0' tells can were c.serve_and_tell.ensures.helpers c.serve_and_tell.ensures.told,
    )

pub returns-clause-helpers : goal.returns-clause-helpers
returns-clause-helpers g c = keeps_on c.args.actors.now c.loop-space.actors c.serve_and_tell.new.actors c.loop-space.invariant.helpers c.serve_and_tell.ensures.helpers

pub returns-clause-listed : goal.returns-clause-listed
returns-clause-listed g c = subst (λ (r : Report). TellsWanted (g.O.Observer.wants c.args.observer.now r.kind) r) (sym c.serve_and_tell.ensures.report) c.loop-space.invariant.listed

pub returns-clause-room : goal.returns-clause-room
returns-clause-room g c =
    let (task0, paced0, h0, m0, begun0, helpers0) = c.requires.serving in
    let (h0', m0', serving0, on0, tells0) = c.loop-space.invariant.serving task0 paced0 h0 m0 begun0 in
    let can = can_serve task0 c.loop-space.space (g.W.Watch.seen c.loop-space.watch) (mutators_in c.args.actors.now) c.args.space.now.pauses c.loop-space.collected c.loop-space.actors h0' m0' serving0
    (helpers_rest (task_limits task0) c.args.actors.now c.loop-space.actors c.loop-space.invariant.helpers helpers0) in
    let (k, were) = c.serve_and_tell.ensures.answers h0' in
    let whole = all_of_it c.serve_and_tell.result c.loop-space.collected (mutators_in c.loop-space.actors) (mutators_in c.serve_and_tell.new.actors) c.loop-space.space c.serve_and_tell.new.space h0' k c.in_default.not-Collect were in
    let (served, m'', serving') = all_answered task0 (g.W.Watch.seen c.loop-space.watch) (mutators_in c.args.actors.now) c.args.space.now.pauses c.loop-space.collected (mutators_in c.loop-space.actors)
    (mutators_in c.serve_and_tell.new.actors) c.loop-space.space c.serve_and_tell.new.space h0' k m0' serving0 whole in
    subst (g.O.Observer.has_room c.serve_and_tell.new.observer)
    (pauses_same task0 c.loop-space.space c.serve_and_tell.new.space (g.W.Watch.seen c.loop-space.watch) (g.W.Watch.seen c.loop-space.watch) h0' k m0' m'' serving0.come serving'.come
    (turns_pause (threads_of task0) c.loop-space.collected (mutators_in c.loop-space.actors) c.loop-space.space h0' (length (mutators_in c.loop-space.actors)) (mutators_in c.serve_and_tell.new.actors) c.serve_and_tell.new.space whole.served k whole.turns))
    (c.serve_and_tell.ensures.room c.loop-space.space.pauses c.loop-space.invariant.room)
