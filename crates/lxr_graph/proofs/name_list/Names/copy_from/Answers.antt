use Rattle.std.proofs.Common.{ap, ◌∙◌, arith, length}
use Rattle.lxr_graph.specs.Listing.{NameList}
use Rattle.lxr_graph.proofs.ListingLemmas.{as_many}
use Rattle.lxr_graph.proofs.name_list.Names.copy_from.Goals as goal

pub copy_from-requires : goal.copy_from-requires
copy_from-requires c =
    let many = ap length c.as_slice.ensures ∙ as_many _ _ _ c.from.invariant ∙ ap (λ (l : NameList). length l.items) c.from.view_is in
    let room = ap (λ (l : NameList). l.room) c.self.view_is in
    let within = c.requires in omega (arith, many, room, within)
