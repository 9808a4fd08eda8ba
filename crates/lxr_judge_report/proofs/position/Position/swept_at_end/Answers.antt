-- The names that a trace will sweep are a set already.
use Rattle.std.proofs.Common.{◌≡◌, ap, sym, subst, ◌∙◌}
use Rattle.std.proofs.lemmas.Result.{IfOk-weaker}
use Rattle.lxr_graph.specs.Distinct.{IsDistinct}
use Rattle.lxr_judge_report.specs.Positions.{Present}
use Rattle.lxr_judge_report.specs.Stages.{swept_of}
use Rattle.lxr_judge_report.proofs.position.Position.swept_at_end.Goals as goal

pub returns-in-Some : goal.returns-in-Some
returns-in-Some c =
    IfOk-weaker c.of.result
    (λ set. IsDistinct c.names.result.now → set ≡ c.names.result.now)
    (λ set. set ≡ swept_of c.args.self.now.last.trace)
    (λ set was.
    was (subst IsDistinct (sym c.names.ensures.names) c.names.ensures.once)
    ∙ c.names.ensures.names
    ∙ c.swept.ensures
    ∙ ap swept_of c.in-Some.ensures
    ∙ ap (λ (p : Present). swept_of p.last.trace) c.self.view_is)
    c.of.ensures.once
