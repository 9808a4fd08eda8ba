-- The parts of a report are those of the moment's.
use Rattle.std.proofs.Common.{◌+◌, ap, ◌∙◌, ℕ}
use Rattle.lxr_judge_report.specs.Positions.{Present}
use Rattle.lxr_judge_report.proofs.position.Position.report.Goals as goal

pub returns-clause-report : goal.returns-clause-report
returns-clause-report c = λ m at.
    let gains = c.in_ok-gains.ensures m at in
    let losses = c.in_ok-losses.ensures m at gains.kept_are gains.stuck_are in
    let counts = c.of.ensures ∙ c.in_ok-counts.ensures m at gains.promoted_are gains.stuck_are losses in
    let number = ap (λ (n : ℕ). n + 1) (c.number.ensures ∙ ap (λ (p : Present). p.last.number) c.self.view_is ∙ at.last.number) in
    let promoted = c.into_names.ensures.names ∙ gains.promoted_are in
    let dead = c.into_names-2.ensures.names ∙ losses.dead_are in
    let stuck = c.into_names-3.ensures.names ∙ gains.newly_stuck_are in
    let swept = c.into_names-4.ensures.names ∙ losses.swept_are in
    λ i. record { number = number i; kind = c.args.kind; promoted = promoted i; dead = dead i; stuck = stuck i; swept = swept i; counts = counts i }

pub returns-clause-names : goal.returns-clause-names
returns-clause-names c = record {
  promoted = c.into_names.ensures.listed;
  dead = c.into_names-2.ensures.listed;
  stuck = c.into_names-3.ensures.listed;
  swept = c.into_names-4.ensures.listed;
}
