-- The dead are a set in order, so there is one list of them.
use Rattle.lxr_graph.proofs.NameSets.{one_set}
use Rattle.lxr_model_decide.proofs.SetLemmas.{dead_right}
use Rattle.lxr_judge_report.proofs.last_pause.told_of.Goals as goal

pub returns-clause-dead : goal.returns-clause-dead
returns-clause-dead c = one_set c.in_ok-deaths.ensures.names (dead_right c.args.graph.now c.args.unreclaimed.now c.args.stuck.now)
