-- What a pause leaves hangs on which names join, and not on their order.
use Rattle.std.proofs.Common.{◌≡◌}
use Rattle.std.proofs.lemmas.Result.{IfOk-weaker}
use Rattle.lxr_graph.specs.Names.{AreInOrder, union}
use Rattle.lxr_graph.specs.History.{report_of}
use Rattle.lxr_model.specs.Moments.{left_by}
use Rattle.lxr_judge_report.proofs.PauseLemmas.{left_joined}
use Rattle.lxr_judge_report.proofs.pausing.left_with.Goals as goal

pub returns : goal.returns
returns c =
    IfOk-weaker c.left_by.result
    (λ left. AreInOrder c.args.present.now → left ≡ left_by (report_of c.args.report.now) (union c.in_ok-joining.joining c.args.present.now))
    (λ left. AreInOrder c.args.present.now → left ≡ left_by (report_of c.args.report.now) (union c.args.joining.now c.args.present.now))
    (λ left was. left_joined (report_of c.args.report.now) c.in_ok-joining.joining c.args.joining.now c.args.present.now left c.in_ok-joining.ensures.members was)
    c.left_by.ensures
