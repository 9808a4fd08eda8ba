use Rattle.std.proofs.Common.{rules, ◌≡◌, [], ◌∷◌, ◌++◌, All, sym, ap, ◌∙◌, subst, append_assoc}
use Rattle.std.specs.Vec.Iter.{into_iter_items}
use Rattle.lxr_shared_passes.specs.Passing.{Passing}
use Rattle.lxr_shared_passes.specs.Rule.{held_of}
use Rattle.lxr_shared_passes.proofs.Keeps.{joins}
use Rattle.lxr_shared_passes.proofs.Ends.{all-middle, gathered, actors-more}
use Rattle.lxr_shared_passes.proofs.close.gather.Goals as goal

pub join_seat-requires : goal.join_seat-requires
join_seat-requires g c =
    let taken = c.loop-pass.invariant.taken in (
      search rules,
      ap (λ p. p.epoch) c.pass.view_is ∙ all-middle (λ (p : Passing g.row.A.Denot). p.epoch ≡ c.args.table.now.shared.table_id) taken.0 c.in-Some.pass (into_iter_items c.next.new.self)
          (subst (λ ps. All (λ (p : Passing g.row.A.Denot). p.epoch ≡ c.args.table.now.shared.table_id) ps) (taken.1 ∙ ap (λ ps. taken.0 ++ ps) c.in-Some.ensures.items) c.requires.passes),
      ap (λ z. z.1) c.pass.invariant.holds,
      search rules,
      joins _ _ _ _ _ _ (ap (λ z. z.0.core) taken.2),
    )

pub loop-pass-preserved : goal.loop-pass-preserved
loop-pass-preserved g c =
    let before = c.loop-pass.invariant in
    let taken = before.taken in record {
      table = search rules;
      room = search rules;
      taken = (
        taken.0 ++ c.in-Some.pass ∷ [],
        (taken.1 ∙ ap (λ ps. taken.0 ++ ps) c.in-Some.ensures.items) ∙ sym (append_assoc taken.0 (c.in-Some.pass ∷ []) (into_iter_items c.next.new.self)),
        gathered taken.0 c.in-Some.pass _ c.loop-pass.main.me c.pass.inside.seated.seat.me c.join_seat.new.seat.me c.join_seat.ensures.2 taken.2 (ap (λ z. z.0.held) c.pass.invariant.holds ∙ ap (λ p. held_of p ∷ []) c.pass.view_is),
        actors-more taken.0 c.in-Some.pass c.pass.inside.actor c.loop-pass.actors.items c.push_reserved.new.self.items c.push_reserved.ensures.items taken.3 (ap (λ p. p.actor) c.pass.view_is),
      );
    }
