use Rattle.std.proofs.Common.{subst, sym}
use Rattle.lxr_shared_heap.specs.declared.heap.Stage.TheVariants as stage
use Rattle.lxr_shared_heap.specs.Heaps.{IsHeapOf}
use Rattle.lxr_shared_heap.specs.Trimming.{Trims}
use Rattle.lxr_shared_heap.proofs.TrimmingLemmas.{is_space, trims_between}
use Rattle.lxr_shared_heap.proofs.heap.Stage.trimmed.Goals as goal

pub zero_next_free-space-requires : goal.zero_next_free-space-requires
zero_next_free-space-requires c =
    let (settings, to_list, script, h, of) = c.requires in
    is_space settings to_list c.in-Between.space c.in-Between.actors script h (subst (λ s. IsHeapOf script h (record { settings = settings; stage = s; to_list = to_list })) c.in-Between.is of)

pub returns-in-Between : goal.returns-in-Between
returns-in-Between c = λ settings to_list.
    let space = c.zero_next_free-space.result.0 in
    let now = stage.Between space c.in-Between.actors in
    subst (λ s. Trims c.args.from c.trimmed_of.result (record { settings = settings; stage = s; to_list = to_list }) (record { settings = settings; stage = now; to_list = to_list })) (sym c.in-Between.is)
    (subst (λ t. Trims c.args.from t (record { settings = settings; stage = stage.Between c.in-Between.space c.in-Between.actors; to_list = to_list }) (record { settings = settings; stage = now; to_list = to_list })) (sym c.trimmed_of.ensures)
    (trims_between c.args.from settings to_list c.in-Between.space space c.in-Between.actors c.zero_next_free-space.result.1 c.zero_next_free-space.ensures.zeroes c.zero_next_free-space.ensures.stands))
