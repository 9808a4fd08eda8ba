use Rattle.std.proofs.Common.{◌≡◌, ◌+◌, ◌-◌, ◌∙◌, [], ◌∷◌, ◌++◌, ap, arith, refl, subst, sym}
use Rattle.lxr_image.specs.Spaces.{Turns, tables_of}
use Rattle.lxr_image.proofs.SpaceLemmas.{still_space}
use Rattle.lxr_blocks.specs.Listing.{numbers_from, with_frees}
use Rattle.lxr_blocks.proofs.ListingLemmas.{free_more, length_numbers, numbers_more, numbers_none}
use Rattle.lxr_blocks.proofs.listing.list_between.Goals as goal

pub loop-block-init : goal.loop-block-init
loop-block-init c =
    let none : 0 ≡ c.args.from - c.args.from = omega arith in
    record {
      space = c.requires.space;
      reached = omega arith;
      turns = subst (λ k. Turns c.args.space.now c.args.space.now (with_frees (tables_of c.args.space.now) c.args.first (numbers_from c.args.from k))) none (numbers_none c.args.space.now c.args.first c.args.from);
      count = omega arith;
    }

pub loop-block-preserved : goal.loop-block-preserved
loop-block-preserved c =
    let before = c.loop-block.invariant in
    let many = c.loop-block.block - c.args.from in
    let reached = before.reached in
    let next : c.args.from + many ≡ c.loop-block.block = omega (arith, reached) in
    let number : c.from.result ≡ c.args.from + many = c.from.ensures ∙ sym next in
    let more : many + 1 ≡ c.loop-block.block + 1 - c.args.from = omega (arith, reached) in
    let len = length_numbers c.args.from many in
    let count = before.count in
    record {
      space = still_space c.loop-block.space c.put_free.new.self _ before.space c.put_free.ensures refl;
      reached = omega (arith, reached);
      turns = free_more c.args.space.now c.loop-block.space c.put_free.new.self c.args.first c.loop-block.at c.from.result (numbers_from c.args.from many) (numbers_from c.args.from (c.loop-block.block + 1 - c.args.from)) before.turns (omega arith)
          (ap (λ x. numbers_from c.args.from many ++ (x ∷ [])) number ∙ numbers_more c.args.from many ∙ ap (numbers_from c.args.from) more) c.put_free.ensures;
      count = omega arith;
    }
