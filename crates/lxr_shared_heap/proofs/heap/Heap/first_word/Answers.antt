use Rattle.std.proofs.Common.{◌∙◌, subst, sym}
use Rattle.lxr_shared_heap.specs.Heaps.{IsHeapOf}
use Rattle.lxr_shared_heap.proofs.heap.Heap.first_word.Goals as goal

pub invariant_of-self : goal.invariant_of-self
invariant_of-self c =
    let (script, h, of) = c.self.invariant in (
      script,
      h,
      subst (λ s. IsHeapOf script h (record { settings = c.self.inside.settings; stage = s; to_list = c.self.inside.to_list })) (sym (c.first_word-stage.ensures.kept ∙ c.replace-stage.ensures.value)) of,
    )
