use Rattle.lxr_shared_heap.proofs.TellingLemmas.{stations_tell_histories as told}
use Rattle.lxr_shared_heap.proofs.heap.stations_tell_histories.Goals as goal

pub returns : goal.returns
returns c = told
