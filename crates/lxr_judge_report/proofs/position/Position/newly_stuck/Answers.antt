-- What is raised is counted by a table.
use Rattle.std.proofs.Common.{◌≡◌, ap, sym, subst, ◌∙◌}
use Rattle.std.specs.Prelude.{filter}
use Rattle.std.proofs.lemmas.Result.{IfOk-weaker}
use Rattle.lxr_graph.specs.Distinct.{IsDistinct}
use Rattle.lxr_judge_sets.specs.ByName.{value_at}
use Rattle.lxr_judge_report.specs.Stages.{becomes_stuck, becomes_stuck_by, raised_now}
use Rattle.lxr_judge_report.proofs.LoopLemmas.{stuck_same}
use Rattle.lxr_judge_report.proofs.position.Position.newly_stuck.Goals as goal

pub returns : goal.returns
returns c =
    IfOk-weaker c.of.result
    (λ set. IsDistinct c.as_slice.result.now → set ≡ c.as_slice.result.now)
    (λ set. set ≡ filter (becomes_stuck c.args.self.now c.args.promoted.now) c.args.kept.now)
    (λ set was. stuck_same c.args.self.now c.args.promoted.now c.args.kept.now c.in_ok-stuck.stuck.items set (value_at c.in_ok-raised.raised)
    (λ o. c.in_ok-raised.ensures o ∙ ap (λ ns. raised_now c.args.self.now ns o) c.names.ensures.names)
    c.names-2.ensures.once
    (c.in_ok-stuck.ensures ∙ ap (λ ns. filter (becomes_stuck_by c.args.self.now c.args.promoted.now (value_at c.in_ok-raised.raised)) ns) c.names-2.ensures.names)
    (λ once. was (subst IsDistinct (sym c.as_slice.ensures) once) ∙ c.as_slice.ensures))
    c.of.ensures.once
