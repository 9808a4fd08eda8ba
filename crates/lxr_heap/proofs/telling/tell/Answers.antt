use Rattle.lxr_one_pause.specs.Settling.{survived}
use Rattle.lxr_large_model.specs.History.{large_moment}
use Rattle.lxr_heap.proofs.TellingLemmas.{tells_heap}
use Rattle.lxr_heap.proofs.telling.tell.Goals as goal

pub tell_counts-requires : goal.tell_counts-requires
tell_counts-requires c = let (h, is) = c.requires.holds in (survived (large_moment h) c.args.heap.now.gone.items, is.at, is.stands.0.safepoint.holds)

pub returns : goal.returns
returns c = λ h is. tells_heap c.args.heap.now h is c.tell_counts.new.space c.tell_counts.ensures
