use Rattle.lxr_heap.proofs.TellingLemmas.{in_order, tells_names}
use Rattle.lxr_heap.proofs.telling.list_names.Goals as goal

pub tell_names-requires : goal.tell_names-requires
tell_names-requires c = let (h, is) = c.requires.holds in in_order c.args.heap.now h is

pub returns : goal.returns
returns c = λ h is. tells_names c.args.heap.now h is c.tell_names.new.report c.tell_names.ensures
