use Rattle.std.proofs.Common.{refl}
use Rattle.lxr_c_heap.proofs.TrimmingLemmas.{trimmed_serves}
use Rattle.lxr_c_heap.proofs.host.HostHeap.trim_next.Goals as goal

pub returns-clause-serving : goal.returns-clause-serving
returns-clause-serving c = trimmed_serves c.args.from c.args.self.now c.trim_next.new.self c.trim_next.result c.requires.serving c.trim_next.ensures
