-- The counts are told from what the position keeps, the gains and the losses.
use Rattle.std.proofs.Common.{◌≡◌, ap, sym, ◌∙◌, true, cond, map, List, [], arith}
use Rattle.std.proofs.lemmas.Result.{IfOk-weaker}
use Rattle.lxr_layout.specs.declared.Name.{Name}
use Rattle.lxr_graph.specs.declared.report.Count.{Count}
use Rattle.lxr_model.specs.References.{references}
use Rattle.lxr_model.specs.Reports.{is_draining}
use Rattle.lxr_judge_sets.specs.ByName.{value_at}
use Rattle.lxr_judge_report.specs.Stages.{CountsAfter, counted}
use Rattle.lxr_judge_report.proofs.ReportLemmas.{counts_are}
use Rattle.lxr_judge_report.proofs.position.Position.counts.Goals as goal

pub returns : goal.returns
returns c =
    let now = c.args.self.now in
    let gains = c.args.gains.now in
    let losses = c.args.losses.now in
    let us = c.in_ok-unreclaimed.unreclaimed in
    let table = c.in_ok-references.references in
    let entries : List Name → List Count = λ ns. map (counted gains.stuck (value_at table)) ns in
    let drains : is_draining c.args.kind ≡ true = grind (arith, c.is_draining.ensures, c.if-not-is_draining.false) in
    IfOk-weaker c.count_names.result
    (λ counts. counts.items ≡ entries c.names-2.result.now)
    (λ counts. CountsAfter now gains.promoted gains.stuck losses.dead losses.swept c.args.kind counts.items)
    (λ counts was. λ m at promoted stuck lost.
    was
    ∙ ap entries c.names-2.ensures.names
    ∙ ap (λ b. cond b (entries us) []) (sym drains)
    ∙ counts_are now m at c.args.kind gains.promoted gains.stuck losses.dead losses.swept us (value_at table) promoted stuck lost
    c.in_ok-unreclaimed.ensures
    (λ o. c.in_ok-references.ensures o ∙ (λ i. references (c.self.view_is i).state (c.names.ensures.names i) o)))
    c.count_names.ensures
