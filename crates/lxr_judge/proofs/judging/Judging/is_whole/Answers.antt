use Rattle.std.proofs.Common.{sym, ◌∙◌}
use Rattle.lxr_model_decide.proofs.BelongingLemmas.{end_iff}
use Rattle.lxr_judge.proofs.judging.Judging.is_whole.Goals as goal

pub returns-then-took_all : goal.returns-then-took_all
returns-then-took_all c = λ h keeps pass. (
  λ whole. ((c.took_all.ensures h keeps.progress pass).0 c.if-took_all.true, (end_iff c.args.sources.now.terms h).0 (sym keeps.progress.whole ∙ whole)),
  λ both. keeps.progress.whole ∙ (end_iff c.args.sources.now.terms h).1 both.1,
)
