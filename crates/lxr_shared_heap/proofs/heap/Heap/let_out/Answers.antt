use Rattle.std.proofs.Common.{◌∙◌, ap, subst, sym}
use Rattle.std.specs.Prelude.{IfErr}
use Rattle.lxr_shared_heap.specs.Heaps.{IsHeapOf, IsKept}
use Rattle.lxr_shared_heap.proofs.HeapLemmas.{kept_for}
use Rattle.lxr_shared_heap.proofs.heap.Heap.let_out.Goals as goal

pub returns-in-Within-clause-none : goal.returns-in-Within-clause-none
returns-in-Within-clause-none c =
    let (script, h, of) = c.self.invariant in
    let settings = c.self.inside.settings in
    let to_list = c.self.inside.to_list in
    let of' = subst (λ s. IsHeapOf script h (record { settings = settings; stage = s; to_list = to_list })) c.in-Within.is of in
    subst (λ x. IfErr c.let_out.result (λ why. IsKept x c.args.number why)) (ap (λ s. record { settings = settings; stage = s; to_list = to_list }) (sym c.in-Within.is) ∙ c.self.view_is)
    (kept_for settings to_list script h c.in-Within.live c.args.number c.let_out.result of' c.let_out.ensures.none)
