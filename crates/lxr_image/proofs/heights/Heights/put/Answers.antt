use Rattle.std.proofs.Common.{◌≡◌, ℕ, ◌+◌, ◌-◌, ◌/◌, ◌<◌, ◌≤◌, ◌∙◌, ap, subst, arith, length}
use Rattle.std.specs.Prelude.{slice_index, slice_set}
use Rattle.std.proofs.lemmas.List.{get_or_default, length-set}
use Rattle.lxr_image.proofs.HeightsLemmas.{found_again, full_after, full_before, in_group, of_group, of_whole, one_if_full, risen}
use Rattle.lxr_image.proofs.heights.Heights.put.Goals as goal

pub invariant_of-self : goal.invariant_of-self
invariant_of-self c =
    let view = ap length c.self.view_is in
    let within = c.requires in
    let many = c.self.invariant.0.many in
    let there = c.index-2.ensures ∙ get_or_default c.self.inside.of_group.items (c.args.block / 64) c.index-2.result.now 0 (omega (arith, view, within, many)) in
    let low = c.if-index-height.true in (
      risen c.self.inside.of_block.items c.self.inside.of_group.items c.args.block c.args.height c.self.invariant.0 (omega (arith, view, within)) (omega (arith, there, low)),
      ap (λ k. c.self.inside.full - c.one_for_full.result + k) c.one_for_full-2.ensures
          ∙ full_after c.self.inside.of_block.items c.args.block c.args.height c.self.inside.full c.one_for_full.result (omega (arith, view, within)) c.self.invariant.1
          (c.one_for_full.ensures ∙ ap one_if_full (c.index.ensures ∙ get_or_default c.self.inside.of_block.items c.args.block c.index.result.now 0 (omega (arith, view, within)))),
    )

pub invariant_of-self-else-index-height : goal.invariant_of-self-else-index-height
invariant_of-self-else-index-height c =
    let hs : _ = c.self.inside.of_block.items in
    let set : _ = slice_set hs c.args.block c.args.height in
    let g : ℕ = c.args.block / 64 in
    let end : ℕ = c.min-end.result in
    let view = ap length c.self.view_is in
    let within = c.requires in
    let l = length-set hs c.args.block c.args.height in
    let len = c.len.ensures in
    let at = c.min-end.ensures in
    let items = c.deref.ensures.value in
    let bound = subst (λ xs. (i : ℕ) → slice_index (of_group xs g end) i ≤ c.highest.result) items c.highest.ensures.bound in
    let some = subst (λ xs. (i : ℕ) × (i < length (of_group xs g end)) × (slice_index (of_group xs g end) i ≡ c.highest.result)) items c.highest.ensures.reached in (
      found_again hs c.self.inside.of_group.items c.args.block c.args.height c.highest.result c.self.invariant.0 (omega (arith, view, within))
          (in_group set g end (omega (arith, l, len, at)) (λ d in_g below. omega (arith, l, len, at, in_g, below)) c.highest.result bound)
          (of_whole set g end (omega (arith, l, len, at)) (omega (arith, at)) c.highest.result some.0 some.1 some.2),
      ap (λ k. c.self.inside.full - c.one_for_full.result + k) c.one_for_full-2.ensures
          ∙ full_after c.self.inside.of_block.items c.args.block c.args.height c.self.inside.full c.one_for_full.result (omega (arith, view, within)) c.self.invariant.1
          (c.one_for_full.ensures ∙ ap one_if_full (c.index.ensures ∙ get_or_default c.self.inside.of_block.items c.args.block c.index.result.now 0 (omega (arith, view, within)))),
    )

pub overflow_sub-self : goal.overflow_sub-self
overflow_sub-self c =
    let view = ap length c.self.view_is in
    let within = c.requires in
    full_before c.self.inside.of_block.items c.args.block c.self.inside.full c.one_for_full.result (omega (arith, view, within)) c.self.invariant.1
    (c.one_for_full.ensures ∙ ap one_if_full (c.index.ensures ∙ get_or_default c.self.inside.of_block.items c.args.block c.index.result.now 0 (omega (arith, view, within))))
