use Rattle.std.proofs.Common.{ap, subst, sym, ◌∙◌}
use Rattle.std.specs.Prelude.{◌&&◌}
use Rattle.lxr_graph.specs.Distinct.{IsDistinct}
use Rattle.lxr_graph.specs.Listing.{NameList, in_order}
use Rattle.lxr_heap.proofs.GoneLemmas.{fit_together, once_together, second_room, together}
use Rattle.lxr_heap.proofs.pausing.report_gone.Goals as goal

pub append-requires : goal.append-requires
append-requires c = fit_together c.args.dead.now c.args.gone.now c.longer_first.new.first c.longer_first.new.second c.longer_first.ensures c.requires.rooms c.requires.room

pub order-requires : goal.order-requires
order-requires c =
    subst (λ (l : NameList). IsDistinct l.items) (sym c.append.ensures.added)
    (once_together c.args.dead.now c.args.gone.now c.longer_first.new.first c.longer_first.new.second c.longer_first.ensures c.requires.once)

pub returns-clause-dead : goal.returns-clause-dead
returns-clause-dead c =
    c.order.ensures ∙ ap in_order c.append.ensures.added
    ∙ together c.args.dead.now c.args.gone.now c.longer_first.new.first c.longer_first.new.second c.longer_first.ensures c.requires.rooms (c.longer_first.new.first.listed && c.longer_first.new.second.listed)

pub returns-clause-gone : goal.returns-clause-gone
returns-clause-gone c = (
  ap (λ (l : NameList). l.items) c.append.ensures.taken,
  ap (λ (l : NameList). l.room) c.append.ensures.taken ∙ second_room c.args.dead.now c.args.gone.now c.longer_first.new.first c.longer_first.new.second c.longer_first.ensures c.requires.rooms,
)
