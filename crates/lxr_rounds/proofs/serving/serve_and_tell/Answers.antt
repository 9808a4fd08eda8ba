use Rattle.std.proofs.Common.{◌∙◌, []}
use Rattle.lxr_core.specs.Actors.{mutators_in}
use Rattle.lxr_rounds.proofs.ServeLemmas.{answers_report}
use Rattle.lxr_rounds.proofs.serving.serve_and_tell.Goals as goal

pub returns-clause-told : goal.returns-clause-told
returns-clause-told g c = (c.before_serving.new.self, c.before_serving.ensures.began, c.after_serving.ensures.served)

pub returns-clause-room : goal.returns-clause-room
returns-clause-room g c = λ pauses room. c.after_serving.ensures.room pauses (c.before_serving.ensures.room pauses room)

pub returns-clause-wants : goal.returns-clause-wants
returns-clause-wants g c = λ kind. c.after_serving.ensures.wants kind ∙ c.before_serving.ensures.wants kind

pub returns-clause-report : goal.returns-clause-report
returns-clause-report g c =
    let (h, were) = c.serve_waiting-served.ensures.answers [] in
    answers_report c.serve_waiting-served.result c.args.collected (mutators_in c.args.actors.now) (mutators_in c.serve_waiting-served.new.actors) c.args.space.now c.serve_waiting-served.new.space [] h were
