use Rattle.std.proofs.Common.{◌≡◌, ap, sym, ◌∙◌}
use Rattle.lxr_graph.specs.Listing.{NameList}
use Rattle.lxr_graph.proofs.ListingLemmas.{none_found}
use Rattle.lxr_graph.proofs.name_list.Names.is_empty.Goals as goal

pub returns : goal.returns
returns c =
    let none = none_found _ _ _ c.self.invariant in
    let same : c.self.inside.items.items ≡ c.args.self.now.items = ap (λ (l : NameList). l.items) c.self.view_is in
    (λ h. sym same ∙ none.0 (c.is_empty.ensures.0 h), λ h. c.is_empty.ensures.1 (none.1 (same ∙ h)))
