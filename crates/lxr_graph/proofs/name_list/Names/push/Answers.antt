use Rattle.std.proofs.Common.{◌++◌, ◌∷◌, [], ap, sym, subst, arith, length}
use Rattle.lxr_base.specs.Roomy.{Roomy}
use Rattle.lxr_graph.specs.Listing.{KeepsNames, NameList}
use Rattle.lxr_graph.proofs.ListingLemmas.{as_many, name_kept}
use Rattle.lxr_graph.proofs.name_list.Names.push.Goals as goal

pub push-requires : goal.push-requires
push-requires c =
    let many = as_many _ _ _ c.self.invariant in
    let items = ap (λ (l : NameList). length l.items) c.self.view_is in
    let room = ap (λ (l : NameList). l.room) c.self.view_is in
    let within = c.requires in omega (arith, many, items, room, within)

pub invariant_of-self : goal.invariant_of-self
invariant_of-self c =
    let f = c.self.inside in
    subst (λ ns. KeepsNames ns c.push.new.self.items f.listed) (sym c.and-self-inside.ensures)
    (subst (λ (l : Roomy _). KeepsNames (f.items.items ++ c.args.name ∷ []) l.items f.listed) (sym c.push.ensures) (name_kept f.items.items f.found.items c.args.name f.listed c.self.invariant))
