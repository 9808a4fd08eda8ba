use Rattle.std.proofs.Common.{length}
use Rattle.lxr_judge.proofs.GroupLemmas.{begin_is}
use Rattle.lxr_judge.proofs.sources.begin_of.Goals as goal

pub returns : goal.returns
returns c = begin_is c.args.groups.now.starts.items c.args.group (length c.args.groups.now.lines.items) c.get.result c.len.result c.unwrap_or.result c.get.ensures c.len.ensures c.unwrap_or.ensures
