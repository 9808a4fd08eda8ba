use Rattle.std.proofs.Common.{sym, ap, subst}
use Rattle.std.specs.Prelude.{false}
use Rattle.lxr_graph.specs.Listing.{NameList}
use Rattle.lxr_large_bodies.specs.Bodies.{Held}
use Rattle.lxr_heap.specs.Holding.{IsOpenedHeap}
use Rattle.lxr_heap.proofs.OpeningLemmas.{opened_heap}
use Rattle.lxr_heap.proofs.opening.open.Goals as goal

pub returns : goal.returns
returns c =
    subst (λ (b : Held). IsOpenedHeap (record { space = c.open.new.self; bodies = b; gone = c.in_ok-with_room.field-0; made = 0; made_before = 0; left = 0; fresh = false }) c.args.sizes) (sym c.in_ok-open-2.ensures)
    (opened_heap c.open.new.self c.args.sizes c.in_ok-with_room.field-0 (ap (λ (l : NameList). l.items) c.in_ok-with_room.ensures) (ap (λ (l : NameList). l.room) c.in_ok-with_room.ensures) c.requires.blocks.0 c.requires.log.0 c.in_ok-open.ensures.opened c.in_ok-open.ensures.space c.in_ok-open.ensures.image)
