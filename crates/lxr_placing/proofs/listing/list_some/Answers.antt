use Rattle.std.proofs.Common.{◌∙◌, ap, subst}
use Rattle.lxr_blocks.specs.InTurn.{ListsInTurn, round_from}
use Rattle.lxr_placing.proofs.QuiescentLemmas.{quiescent_later}
use Rattle.lxr_placing.proofs.TurnLemmas.{first_within, turn_listed_now}
use Rattle.lxr_placing.proofs.WholeLemmas.{all_listed_now}
use Rattle.lxr_placing.proofs.listing.list_some.Goals as goal

pub list_in_turn-requires-clause-from : goal.list_in_turn-requires-clause-from
list_in_turn-requires-clause-from c =
    let (g, between) = c.requires in
    first_within c.args.space.now.limits.blocks c.args.from c.block_or_first-first.result between.safepoint.holds.space.limits.blocks.0 c.block_or_first-first.ensures

pub returns-clause-between : goal.returns-clause-between
returns-clause-between c g is =
    let (many, turn, next) = c.list_in_turn.ensures.lists in
    quiescent_later c.args.space.now c.list_in_turn.new.space _ _ turn.lists g is

pub returns-clause-listed : goal.returns-clause-listed
returns-clause-listed c =
    let (g, between) = c.requires in
    let (many, turn, next) = c.list_in_turn.ensures.lists in
    let first = first_within c.args.space.now.limits.blocks c.args.from c.block_or_first-first.result between.safepoint.holds.space.limits.blocks.0 c.block_or_first-first.ensures in
    record {
      listed = turn_listed_now c.args.space.now c.list_in_turn.new.space c.block_or_first-first.result c.args.most many first between.safepoint.holds.space between.states turn;
      whole = all_listed_now c.args.space.now c.list_in_turn.new.space _ turn.lists;
    }

pub returns-clause-lists : goal.returns-clause-lists
returns-clause-lists c =
    let (many, turn, next) = c.list_in_turn.ensures.lists in
    let is = c.block_or_first-first.ensures in (
      many,
      subst (λ from. ListsInTurn from c.args.most many c.args.space.now c.list_in_turn.new.space) is turn,
      next ∙ ap (λ from. round_from c.args.space.now.limits.blocks from many) is,
    )
