use Rattle.std.proofs.Common.{ℕ, subst, sym}
use Rattle.lxr_model.specs.Moments.{opening_moment}
use Rattle.lxr_judge_report.specs.Positions.{IsAt}
use Rattle.lxr_judge.proofs.judging.Judging.open.Goals as goal

pub returns : goal.returns
returns c = λ e same. record {
  position = subst (λ (n : ℕ). IsAt c.in_ok-open.field-0 (opening_moment n)) (sym same) c.in_ok-open.ensures;
  progress = c.new.ensures e.terms;
  page = c.new-2.ensures;
}
