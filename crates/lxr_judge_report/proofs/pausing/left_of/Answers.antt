-- The dead and the swept are read in any order.
use Rattle.std.proofs.Common.{◌≡◌, ◌∙◌}
use Rattle.std.proofs.lemmas.Result.{IfOk-weaker}
use Rattle.lxr_graph.specs.Names.{without}
use Rattle.lxr_graph.specs.History.{report_of}
use Rattle.lxr_graph.proofs.NameLemmas.{same_members}
use Rattle.lxr_model.specs.Moments.{left_by}
use Rattle.lxr_judge_report.proofs.PauseLemmas.{left_over}
use Rattle.lxr_judge_report.proofs.pausing.left_of.Goals as goal

pub returns : goal.returns
returns c =
    let report = report_of c.args.report.now in
    IfOk-weaker c.without_both.result
    (λ left. left ≡ without (without c.args.all.now c.in_ok-dead.dead) c.in_ok-swept.swept)
    (λ left. left ≡ left_by report c.args.all.now)
    (λ left was. left_over report c.in_ok-dead.dead c.in_ok-swept.swept c.args.all.now left
    (λ n. c.in_ok-dead.ensures.members n ∙ same_members report.dead c.found.result.now c.found.ensures n)
    (λ n. c.in_ok-swept.ensures.members n ∙ same_members report.swept c.found-2.result.now c.found-2.ensures n)
    was)
    c.without_both.ensures
