use Rattle.std.proofs.Common.{◌∙◌, ap, sym}
use Rattle.lxr_image.specs.declared.space.Space.{Space}
use Rattle.lxr_image.specs.Settled.{free_below}
use Rattle.lxr_image.specs.Spaces.{tables_of}
use Rattle.lxr_shared_heap.proofs.TrimmingLemmas.{as_many_free}
use Rattle.lxr_shared_heap.proofs.packed.Packed.zero_next_free.Goals as goal

pub counted-requires : goal.counted-requires
counted-requires c = c.self.invariant.1 ∙ ap (λ (s : Space). free_below (tables_of s) s.limits.blocks) (c.self.view_is ∙ sym c.into_space-space.ensures) ∙ sym (as_many_free c.args.from c.into_space-space.result c.zero_next_free-block.new.space c.zero_next_free-block.result c.zero_next_free-block.ensures.zeroes)
