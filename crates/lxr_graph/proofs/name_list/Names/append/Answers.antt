use Rattle.std.proofs.Common.{◌≡◌, ◌++◌, ap, sym, ◌∙◌, subst, arith, length}
use Rattle.std.specs.Prelude.{◌&&◌}
use Rattle.lxr_base.specs.Roomy.{Roomy}
use Rattle.lxr_graph.specs.Listing.{KeepsNames, NameList}
use Rattle.lxr_graph.proofs.ListingLemmas.{as_many, names_kept}
use Rattle.lxr_graph.proofs.name_list.Names.append.Goals as goal
use Rattle.lxr_graph.proofs.name_list.Names.append.Goals.{then-self, else-self}

pub extend_from-requires : goal.extend_from-requires
extend_from-requires c =
    let many = as_many _ _ _ c.self.invariant ∙ ap (λ (l : NameList). length l.items) c.self.view_is in
    let more = ap length c.as_slice.ensures ∙ as_many _ _ _ c.other.invariant ∙ ap (λ (l : NameList). length l.items) c.other.view_is in
    let room = ap (λ (l : NameList). l.room) c.self.view_is in
    let within = c.requires in omega (arith, many, more, room, within)

pub invariant_of-self : goal.invariant_of-self
invariant_of-self c =
    let f = c.self.inside in
    let g = c.other.inside in
    let found = c.extend_from.ensures ∙ ap (λ ns. record f.found { items = f.found.items ++ ns }) c.as_slice.ensures in
    let both : c.if-self.self ≡ (f.listed && g.listed) = elim c.if-self.branch [
      | then-self w ↦ w.self-is ∙ ap (λ b. b && g.listed) (sym w.if-self.true)
      | else-self w ↦ w.self-is ∙ w.if-self.false ∙ ap (λ b. b && g.listed) (sym w.if-self.false)
    ] in
    subst (λ b. KeepsNames c.and_all-self-inside.result.items c.extend_from.new.self.items b) (sym both)
    (subst (λ ns. KeepsNames ns c.extend_from.new.self.items (f.listed && g.listed)) (sym c.and_all-self-inside.ensures)
    (subst (λ (l : Roomy _). KeepsNames (f.items.items ++ g.items.items) l.items (f.listed && g.listed)) (sym found)
    (names_kept f.items.items f.found.items g.items.items g.found.items f.listed g.listed c.self.invariant c.other.invariant)))
