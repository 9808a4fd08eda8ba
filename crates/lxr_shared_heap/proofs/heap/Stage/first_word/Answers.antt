use Rattle.std.proofs.Common.{subst}
use Rattle.lxr_shared_heap.specs.Heaps.{IsHeapOf}
use Rattle.lxr_shared_heap.proofs.TrimmingLemmas.{is_space}
use Rattle.lxr_shared_heap.proofs.heap.Stage.first_word.Goals as goal

pub first_word-space-requires : goal.first_word-space-requires
first_word-space-requires c =
    let (settings, to_list, script, h, of) = c.requires in
    is_space settings to_list c.in-Between.space c.in-Between.actors script h (subst (λ s. IsHeapOf script h (record { settings = settings; stage = s; to_list = to_list })) c.in-Between.is of)
