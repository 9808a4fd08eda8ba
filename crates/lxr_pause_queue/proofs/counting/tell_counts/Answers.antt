use Rattle.std.proofs.Common.{ap, map, subst, sym}
use Rattle.std.specs.List.Sorted.{IsPermutation}
use Rattle.lxr_base.specs.Roomy.{Roomy}
use Rattle.lxr_graph.specs.declared.report.Count.{Count}
use Rattle.lxr_graph.specs.Distinct.{IsDistinct}
use Rattle.lxr_image.specs.declared.space.Space.{Space}
use Rattle.lxr_invariant.proofs.UnusedLemmas.{starts_used}
use Rattle.lxr_pause_queue.proofs.ToldLemmas.{tells_counts, name_of, sorted_space, told_once}
use Rattle.lxr_pause_queue.proofs.counting.tell_counts.Goals as goal

pub add_counts-requires-clause-free : goal.add_counts-requires-clause-free
add_counts-requires-clause-free c = starts_used c.args.space.now c.requires.0 c.requires.1 c.requires.2

pub sort_by_name-requires : goal.sort_by_name-requires
sort_by_name-requires c =
    subst (λ (z : Space). IsDistinct (map name_of z.report.told.items)) (sym c.add_counts.ensures) (told_once c.args.space.now c.requires.0 c.requires.1 c.requires.2)

pub returns : goal.returns
returns c = λ m at holds.
    tells_counts c.args.space.now m at holds c.sort_by_name.new.list.items _
    (subst (λ (z : Space). IsPermutation z.report.told.items c.sort_by_name.new.list.items) c.add_counts.ensures c.sort_by_name.ensures.permutation)
    c.sort_by_name.ensures.order
    (sorted_space c.args.space.now c.add_counts.new.space c.clear.new.self _ c.sort_by_name.new.list (ap (λ (z : Roomy Count). z.room) c.clear.ensures) c.add_counts.ensures c.sort_by_name.ensures.room)
