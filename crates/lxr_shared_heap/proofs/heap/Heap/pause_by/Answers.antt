use Rattle.std.proofs.Common.{◌∙◌, ap, subst, sym}
use Rattle.lxr_shared_heap.specs.Heaps.{Heaped, IsHeapOf, IsPassOf}
use Rattle.lxr_shared_heap.proofs.HeapLemmas.{paused_some, pauses_alone}
use Rattle.lxr_shared_heap.proofs.heap.Heap.pause_by.Goals as goal

pub invariant_of-self : goal.invariant_of-self
invariant_of-self w c =
    let (script, h, of) = c.self.invariant in
    paused_some c.args.begins c.paused-stage.result.1 _ _ (pauses_alone c.args.begins _ c.paused-stage.result.1 _ _ c.paused-stage.ensures) script h
    (subst (λ s. IsHeapOf script h (record { settings = c.self.inside.settings; stage = s; to_list = c.self.inside.to_list })) (sym c.replace-stage.ensures.value) of)

pub paused-stage-requires-clause-handed : goal.paused-stage-requires-clause-handed
paused-stage-requires-clause-handed w c = λ number s at. subst (λ x. IsPassOf x number s) (sym (c.replace-stage.ensures.value ∙ ap (λ (x : Heaped). x.stage) c.self.view_is)) (c.requires number s at)
