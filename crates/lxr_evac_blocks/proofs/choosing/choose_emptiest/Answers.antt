use Rattle.std.proofs.Common.{ℕ, Bool, ◌+◌, ◌∙◌, ◌&&◌, ◌<◌, nat_lt, refl, ap, subst, sym, arith}
use Rattle.std.specs.Prelude.{slice_index}
use Rattle.lxr_image.specs.Spaces.{tables_of}
use Rattle.lxr_image.proofs.SpaceLemmas.{same_limits, still_space}
use Rattle.lxr_evac_blocks.specs.Choosing.{may_choose, taken_count, with_block_chosen, with_choices}
use Rattle.lxr_evac_blocks.specs.Ranks.{AreNumbers, fewer_taken}
use Rattle.lxr_evac_blocks.proofs.ChoiceLemmas.{more_chosen, none_chosen_yet}
use Rattle.lxr_evac_blocks.proofs.RankLemmas.{chosen_by_rank, numbers_next, numbers_still, ranks_few}
use Rattle.lxr_evac_blocks.proofs.choosing.choose_emptiest.Goals as goal

pub loop-block-init : goal.loop-block-init
loop-block-init c = record {
  space = c.requires.space;
  turns = record { tables = none_chosen_yet c.args.space.now.limits (tables_of c.args.space.now); rest = refl };
  next = c.first_ranks-next.ensures;
}

pub choose_by_rank-requires : goal.choose_by_rank-requires
choose_by_rank-requires c =
    let before = c.loop-block.invariant in
    record {
      space = before.space;
      block = (let same = same_limits c.args.space.now c.loop-block.space (with_choices c.args.space.now.limits (tables_of c.args.space.now) c.loop-block.block) before.turns in subst (λ l. c.loop-block.block < l.blocks) (sym same) (omega arith));
      few = λ lines small.
          let few = ranks_few (tables_of c.args.space.now) c.args.space.now.limits.blocks c.loop-block.block c.loop-block.next (omega arith) before.next lines small in
          omega (arith, few);
    }

pub loop-block-preserved : goal.loop-block-preserved
loop-block-preserved c =
    let before = c.loop-block.invariant in
    let more = c.choose_by_rank.ensures in
    let l = c.args.space.now.limits in
    let t = tables_of c.args.space.now in
    let u = tables_of c.loop-block.space in
    let b : ℕ = c.loop-block.block in
    let next = c.loop-block.next in
    let chosen : Bool = may_choose u b && nat_lt (slice_index next (taken_count u b)) c.loop-block.space.limits.evacuate in
    let same = ap (λ z. may_choose u b && nat_lt (slice_index next (taken_count u b)) z.evacuate) (same_limits c.args.space.now c.loop-block.space (with_choices l t b) before.turns) in
    record {
      space = still_space c.loop-block.space c.choose_by_rank.new.space (with_block_chosen u b chosen) before.space more.tables refl;
      turns = more_chosen c.args.space.now c.loop-block.space c.choose_by_rank.new.space b chosen (same ∙ chosen_by_rank l t u b next c.requires.large (omega arith) before.turns.tables before.next) before.turns more.tables;
      next = subst (AreNumbers t (λ lines. fewer_taken t lines l.blocks) (b + 1)) (sym (more.next ∙ numbers_still l t u b next before.turns.tables)) (numbers_next t b next (λ lines. fewer_taken t lines l.blocks) before.next);
    }
