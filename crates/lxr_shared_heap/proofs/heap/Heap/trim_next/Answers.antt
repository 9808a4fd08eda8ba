use Rattle.std.proofs.Common.{subst, sym}
use Rattle.lxr_shared_heap.specs.Heaps.{IsHeapOf}
use Rattle.lxr_shared_heap.proofs.TrimmingLemmas.{trimmed_same}
use Rattle.lxr_shared_heap.proofs.heap.Heap.trim_next.Goals as goal

pub invariant_of-self : goal.invariant_of-self
invariant_of-self c =
    let (script, h, of) = c.self.invariant in (
      script,
      h,
      trimmed_same c.args.from c.trimmed-stage.result.1 _ _ (c.trimmed-stage.ensures c.self.inside.settings c.self.inside.to_list) script h
          (subst (λ s. IsHeapOf script h (record { settings = c.self.inside.settings; stage = s; to_list = c.self.inside.to_list })) (sym c.replace-stage.ensures.value) of),
    )
