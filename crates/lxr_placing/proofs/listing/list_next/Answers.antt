use Rattle.std.proofs.Common.{refl, subst, sym}
use Rattle.lxr_placing.specs.declared.listing.ToList.{ToList}
use Rattle.lxr_placing.specs.declared.listing.ToList.TheVariants.{All, InTurn}
use Rattle.lxr_placing.specs.Listing.{Lists}
use Rattle.lxr_placing.proofs.listing.list_next.Goals as goal

pub returns-in-All-clause-lists : goal.returns-in-All-clause-lists
returns-in-All-clause-lists c =
    subst (λ (l : ToList). Lists l c.args.space.now c.list_for_epoch.new.space All) (sym c.in-All.is) (c.list_for_epoch.ensures.lists, refl)

pub returns-in-InTurn-clause-lists : goal.returns-in-InTurn-clause-lists
returns-in-InTurn-clause-lists c =
    subst (λ (l : ToList). Lists l c.args.space.now c.list_some.new.space (InTurn c.in-InTurn.most c.list_some.result)) (sym c.in-InTurn.is) (c.list_some.result, c.list_some.ensures.lists, refl)
