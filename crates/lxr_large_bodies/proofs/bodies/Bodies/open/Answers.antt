use Rattle.std.proofs.Common.{◌≡◌, ◌≤◌, ◌∙◌, ap, length, arith, false, replicate}
use Rattle.std.proofs.lemmas.List.{length-replicate}
use Rattle.lxr_large_bodies.proofs.Views.{taken_first}
use Rattle.lxr_large_bodies.proofs.bodies.Bodies.open.Goals as goal

pub invariant_of-result : goal.invariant_of-result
invariant_of-result c =
    let none : c.in_ok-vec.field-0.items ≡ replicate c.args.blocks false = c.in_ok-vec.ensures.items_if_clones_equal (λ y same. same) in
    let many : length c.in_ok-vec.field-0.items ≡ c.args.blocks = ap length none ∙ length-replicate c.args.blocks false in
    let bound : c.args.blocks ≤ 65536 = c.requires.1 in
    let room = c.in_ok-with_capacity.ensures.capacity in
    let words_room = c.in_ok-with_capacity-2.ensures.capacity in
    rw (c.in_ok-with_capacity.ensures.items, c.in_ok-with_capacity-2.ensures.items) (record {
      few = omega (arith, many, bound);
      sorted = tt;
      within = tt;
      taken = taken_first c.in_ok-vec.field-0.items c.args.blocks none;
      written = tt;
      roomy = omega (arith, many, room);
      roomy_words = omega (arith, many, words_room);
      fits = omega arith;
    })
