use Rattle.lxr_image.proofs.words.HeapWords.empty.Goals as goal

pub invariant_of-result : goal.invariant_of-result
invariant_of-result c = c.empty-2.ensures _
