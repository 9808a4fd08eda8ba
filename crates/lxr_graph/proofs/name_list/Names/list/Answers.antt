use Rattle.std.proofs.Common.{sym, subst}
use Rattle.lxr_graph.specs.Names.{AreInOrder}
use Rattle.lxr_graph.specs.Listing.{NameList}
use Rattle.lxr_graph.proofs.ListingLemmas.{found_distinct, names_listed}
use Rattle.lxr_graph.proofs.name_list.Names.list.Goals as goal

pub sort_names-requires : goal.sort_names-requires
sort_names-requires c = found_distinct _ _ _ (subst (λ (l : NameList). AreInOrder l.items) (sym c.self.view_is) c.requires) c.self.invariant

pub invariant_of-self : goal.invariant_of-self
invariant_of-self c =
    names_listed _ c.self.inside.found.items _ _ (subst (λ (l : NameList). AreInOrder l.items) (sym c.self.view_is) c.requires) c.self.invariant c.sort_names.ensures.sorted c.sort_names.ensures.members
