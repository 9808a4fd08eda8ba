use Rattle.std.proofs.Common.{ap, ◌∙◌, Some}
use Rattle.lxr_graph.specs.declared.Item.{Item}
use Rattle.lxr_judge.proofs.judging.Judging.take.Goals as goal

pub returns-in_ok-paused-in-Pause : goal.returns-in_ok-paused-in-Pause
returns-in_ok-paused-in-Pause c = λ h keeps place. c.in_ok-paused-in-Pause.ensures h keeps (place ∙ ap (λ (x : Item). Some x) c.in-Pause.is)

pub returns-in_ok-called-in-Call : goal.returns-in_ok-called-in-Call
returns-in_ok-called-in-Call c = λ h keeps place. c.in_ok-called-in-Call.ensures h keeps (place ∙ ap (λ (x : Item). Some x) c.in-Call.is)
