use Rattle.std.proofs.Common.{rules, ◌≡◌, List, map, All, ap, sym, ◌∙◌, subst}
use Rattle.lxr_actor.specs.declared.Core.{Core}
use Rattle.lxr_shared_passes.specs.Passing.{Passing, dealt, IsEnd}
use Rattle.test_threads.proofs.Served.{dealt-epoch, put_back}
use Rattle.test_threads.proofs.run.run_passes.Goals as goal

pub all_turns-requires-clause-epoch : goal.all_turns-requires-clause-epoch
all_turns-requires-clause-epoch g c κs lives =
    let are = c.as_mut_slice.ensures.value ∙ c.in_ok-epoch.ensures.passes in
    subst (λ (ps : List (Passing g.row.A.Denot)). All (λ (p : Passing g.row.A.Denot). p.epoch ≡ c.in_ok-epoch.epoch.id) ps) (sym are) (dealt-epoch c.in_ok-epoch.epoch.id _ 0 c.args.actors.items)

pub close_passes-requires-clause-order : goal.close_passes-requires-clause-order
close_passes-requires-clause-order g c =
    ap (λ ps. map (λ p. p.number) ps) (put_back _ c.all_turns.new.passes _ (search rules))
    ∙ (c.all_turns.ensures.numbers
    ∙ (ap (λ ps. map (λ p. p.number) ps) (c.as_mut_slice.ensures.value ∙ c.in_ok-epoch.ensures.passes)
    ∙ ap (λ (o : Core g.row.A.Denot). map (λ (p : Passing g.row.A.Denot). p.number) (dealt c.in_ok-epoch.epoch.id o 0 o.actors)) (sym c.in_ok-epoch.ensures.epoch)))

pub returns : goal.returns
returns g c =
    let back = put_back _ c.all_turns.new.passes _ (search rules) in record {
      passes = c.all_turns.new.passes;
      end = subst (λ (o : Core g.row.A.Denot). IsEnd g.A.Actor.machine o c.close_passes.result.0 c.close_passes.result.1.items c.all_turns.new.passes) c.in_ok-epoch.ensures.epoch
          (subst (λ (ps : List (Passing g.row.A.Denot)). IsEnd g.A.Actor.machine c.in_ok-epoch.epoch.opening c.close_passes.result.0 c.close_passes.result.1.items ps) back c.close_passes.ensures.run);
      whose = c.close_passes.ensures.actors ∙ ap (λ ps. map (λ p. p.actor) ps) back;
      served = c.all_turns.ensures.served;
    }
