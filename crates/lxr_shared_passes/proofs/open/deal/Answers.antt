use Rattle.std.proofs.Common.{rules, [], ◌∷◌, ◌++◌, length-append, ap, sym, ◌∙◌, arith, append_assoc}
use Rattle.std.specs.Vec.Iter.{into_iter_items}
use Rattle.lxr_shared_passes.proofs.Ends.{dealt-more}
use Rattle.lxr_shared_passes.proofs.open.deal.Goals as goal

pub loop-actor-preserved : goal.loop-actor-preserved
loop-actor-preserved g c =
    let before = c.loop-actor.invariant in
    let taken = before.taken.0 in
    let len = before.taken.1 in
    let grown = length-append taken (c.in-Some.actor ∷ []) in
    let id = c.args.main.now.table_id in
    let core = c.args.main.now.me.0.core in record {
      main = search rules;
      table = search rules;
      count = search rules;
      room = search rules;
      taken = (
        taken ++ c.in-Some.actor ∷ [],
        omega arith,
        (before.taken.2 ∙ ap (λ xs. taken ++ xs) c.in-Some.ensures.items) ∙ sym (append_assoc taken (c.in-Some.actor ∷ []) (into_iter_items c.next.new.self)),
        dealt-more id core c.loop-actor.passes.items c.push_reserved.new.self.items c.pass_for.result taken c.in-Some.actor _ _ c.loop-actor.number c.push_reserved.ensures.items before.taken.3 c.pass_for.ensures.pass before.table (ap (λ z. z.0.core) before.main) len,
      );
    }
