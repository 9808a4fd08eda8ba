use Rattle.std.proofs.Common.{◌*◌, ◌∙◌, ap, sym, subst, arith}
use Rattle.std.specs.Prelude.{replicate}
use Rattle.lxr_image.specs.Heights.{AreHighest, full_among}
use Rattle.lxr_image.proofs.HeightsLemmas.{all_same, full_of_same}
use Rattle.lxr_image.proofs.heights.Heights.new.Goals as goal

pub invariant_of-result : goal.invariant_of-result
invariant_of-result c =
    let groups = c.div_ceil.ensures in (
      subst (λ hs. AreHighest hs c.in_ok-vec-2.field-0.items) (sym (c.in_ok-vec.ensures.items_if_clones_equal (λ y e. e)))
          (subst (λ gs. AreHighest (replicate c.args.blocks c.args.height) gs) (sym (c.in_ok-vec-2.ensures.items_if_clones_equal (λ y e. e)))
          (all_same c.args.blocks c.div_ceil.result c.args.height (omega (arith, groups)) (λ g within. omega (arith, groups)))),
      ap (λ k. c.args.blocks * k) c.one_for_full.ensures ∙ sym (ap full_among (c.in_ok-vec.ensures.items_if_clones_equal (λ y e. e)) ∙ full_of_same c.args.blocks c.args.height),
    )
