use Rattle.std.proofs.Common.{◌∙◌, [], ap}
use Rattle.lxr_graph.specs.Names.{has}
use Rattle.lxr_judge_sets.specs.NameSets.{all_joined}
use Rattle.lxr_judge_sets.proofs.NameSetLemmas.{all_joined-none, has-all_joined}
use Rattle.lxr_judge_sets.proofs.name_set.NameSet.of.Goals as goal

pub returns-clause-members : goal.returns-clause-members
returns-clause-members c = λ n.
    ap (λ ns. has ns n) (c.in_ok-insert_all.ensures ∙ ap (λ ns. all_joined ns c.args.names.now) c.in_ok-set.ensures)
    ∙ has-all_joined [] c.args.names.now n

pub returns-clause-once : goal.returns-clause-once
returns-clause-once c = λ once.
    c.in_ok-insert_all.ensures ∙ ap (λ ns. all_joined ns c.args.names.now) c.in_ok-set.ensures ∙ all_joined-none c.args.names.now once
