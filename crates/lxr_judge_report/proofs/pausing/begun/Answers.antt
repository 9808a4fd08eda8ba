-- The reachable are a set in order, so there is one list of them.
use Rattle.std.proofs.Common.{ap, ◌∙◌, List}
use Rattle.lxr_layout.specs.declared.Name.{Name}
use Rattle.lxr_graph.specs.Names.{without}
use Rattle.lxr_graph.proofs.NameSets.{one_set}
use Rattle.lxr_model_decide.proofs.SetLemmas.{reachable_right}
use Rattle.lxr_judge_report.specs.LastPauses.{Running}
use Rattle.lxr_judge_report.proofs.pausing.begun.Goals as goal

pub returns : goal.returns
returns c =
    let run : List Name → Running = λ ns. record { began = c.args.number; swept = ns } in
    c.new.ensures
    ∙ ap run (c.in_ok-swept.ensures ∙ ap (λ ns. without c.args.unreclaimed.now ns) (one_set c.in_ok-reachable.ensures (reachable_right c.args.graph.now)))
