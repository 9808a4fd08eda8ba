use Rattle.lxr_graph.proofs.NameLemmas.{same_members}
use Rattle.lxr_graph.proofs.names.sort_names.Goals as goal

pub returns-clause-members : goal.returns-clause-members
returns-clause-members c = same_members c.args.names.now.items c.sort_by_name.new.list.items c.sort_by_name.ensures.permutation
