use Rattle.std.proofs.Common.{ℕ, Bool, ◌&&◌, nat_lt, refl, arith}
use Rattle.lxr_image.specs.Spaces.{tables_of}
use Rattle.lxr_image.proofs.SpaceLemmas.{still_space}
use Rattle.lxr_evac_blocks.specs.Choosing.{may_choose, with_block_chosen}
use Rattle.lxr_evac_blocks.proofs.ChoiceLemmas.{chosen_while_left, fewer_left, more_chosen, none_chosen_yet}
use Rattle.lxr_evac_blocks.proofs.choosing.choose_first.Goals as goal

pub loop-block-init : goal.loop-block-init
loop-block-init c = record {
  space = c.requires.space;
  turns = record { tables = none_chosen_yet c.args.space.now.limits (tables_of c.args.space.now); rest = refl };
  left = omega arith;
}

pub loop-block-preserved : goal.loop-block-preserved
loop-block-preserved c =
    let before = c.loop-block.invariant in
    let more = c.choose_block-left.ensures in
    let l = c.args.space.now.limits in
    let t = tables_of c.args.space.now in
    let u = tables_of c.loop-block.space in
    let b : ℕ = c.loop-block.block in
    let left : ℕ = c.loop-block.left in
    let chosen : Bool = nat_lt 0 left && may_choose u b in
    record {
      space = still_space c.loop-block.space c.choose_block-left.new.space (with_block_chosen u b chosen) before.space more.tables refl;
      turns = more_chosen c.args.space.now c.loop-block.space c.choose_block-left.new.space b chosen (chosen_while_left l t u b left before.left before.turns.tables (omega arith) (omega arith)) before.turns more.tables;
      left = fewer_left l t u b left before.left before.turns.tables c.choose_block-left.result more.left;
    }
