use Rattle.std.proofs.Common.{ℕ, ◌*◌, ◌<◌, ◌∙◌, ap, sym, subst, arith}
use Rattle.std.specs.Prelude.{replicate}
use Rattle.std.specs.Vec.{vec_len}
use Rattle.lxr_image.specs.Heights.{AreHighest, full_among}
use Rattle.lxr_image.proofs.HeightsLemmas.{all_same, full_of_same, one_if_full}
use Rattle.lxr_image.proofs.heights.Heights.fill.Goals as goal

pub invariant_of-self : goal.invariant_of-self
invariant_of-self c =
    let blocks = c.self.inside.of_block in
    let groups = c.self.inside.of_group in
    let many = c.self.invariant.0.many in
    let bl = blocks.ok in
    let gl = groups.ok in
    let few : (g : ℕ) → g < vec_len groups → 64 * g < vec_len blocks = λ g within. let some = c.self.invariant.0.reached g (omega (arith, gl, within)) in let below = some.1 in let at = some.2 in omega (arith, bl, below, at) in (
      subst (λ hs. AreHighest hs c.fill-2.new.self.items) (sym (c.fill.ensures.items (λ y e. e)))
          (subst (λ gs. AreHighest (replicate (vec_len blocks) c.args.height) gs) (sym (c.fill-2.ensures.items (λ y e. e)))
          (all_same (vec_len blocks) (vec_len groups) c.args.height (omega (arith, many, bl, gl)) few)),
      ap (λ k. k * c.one_for_full.result) c.len.ensures ∙ ap (λ k. vec_len c.fill.new.self * k) c.one_for_full.ensures ∙ ap (λ k. k * one_if_full c.args.height) c.fill.ensures.len
          ∙ sym (ap full_among (c.fill.ensures.items (λ y e. e)) ∙ full_of_same (vec_len blocks) c.args.height),
    )
