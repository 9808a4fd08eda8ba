use Rattle.std.proofs.Common.{false, sym, subst}
use Rattle.lxr_graph.specs.Distinct.{IsDistinct}
use Rattle.lxr_graph.specs.Listing.{KeepsNames, NameList}
use Rattle.lxr_graph.proofs.ListingLemmas.{names_ordered}
use Rattle.lxr_graph.proofs.name_list.Names.order.Goals as goal

pub invariant_of-self : goal.invariant_of-self
invariant_of-self c =
    let f = c.self.inside in
    let once = subst (λ (l : NameList). IsDistinct l.items) (sym c.self.view_is) c.requires in
    subst (λ ns. KeepsNames ns f.found.items false) (sym c.ordered-self-inside.ensures) (names_ordered f.items.items f.found.items f.listed once c.self.invariant)
