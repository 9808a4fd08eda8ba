-- What is promoted and kept is told from what the position keeps.
use Rattle.std.proofs.Common.{sym, subst, ◌∙◌}
use Rattle.lxr_graph.specs.Names.{IsSetOf, without}
use Rattle.lxr_model.specs.Dead.{Promoted}
use Rattle.lxr_judge_report.specs.contracts.position.Position.{the_view}
use Rattle.lxr_judge_report.specs.Positions.{Present, IsAt}
use Rattle.lxr_judge_report.proofs.ReportLemmas.{kept_are}
use Rattle.lxr_judge_report.proofs.position.Position.kept.Goals as goal

pub returns : goal.returns
returns c = λ m at.
    let p : Present = the_view c.self.inside in
    let here : IsAt p m = subst (λ q. IsAt q m) (sym c.self.view_is) at in
    kept_are p m here c.in_ok-old.old c.in_ok-promoted.promoted c.in_ok-kept.kept
    (c.in_ok-old.ensures ∙ (λ i. without (c.unreclaimed.ensures i) (c.dead.ensures i)))
    (subst (λ ns. IsSetOf c.in_ok-promoted.promoted (Promoted p.state ns p.made)) c.names.ensures.names c.in_ok-promoted.ensures)
    c.in_ok-kept.ensures
