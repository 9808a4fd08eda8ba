use Rattle.lxr_shared_heap.proofs.TellingLemmas.{done_is_told, open_is_told}
use Rattle.lxr_shared_heap.proofs.heap.answers_are_told.Goals as goal

pub returns-clause-done : goal.returns-clause-done
returns-clause-done c = done_is_told

pub returns-clause-open : goal.returns-clause-open
returns-clause-open c = open_is_told
