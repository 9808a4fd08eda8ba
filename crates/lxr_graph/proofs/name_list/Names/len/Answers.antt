use Rattle.std.proofs.Common.{ap, ◌∙◌, length}
use Rattle.lxr_graph.specs.Listing.{NameList}
use Rattle.lxr_graph.proofs.ListingLemmas.{as_many}
use Rattle.lxr_graph.proofs.name_list.Names.len.Goals as goal

pub returns : goal.returns
returns c = c.len.ensures ∙ as_many _ _ _ c.self.invariant ∙ ap (λ (l : NameList). length l.items) c.self.view_is
