use Rattle.std.proofs.Common.{◌∙◌, ap, sym}
use Rattle.lxr_actor.specs.Steps.{goes_on}
use Rattle.lxr_mutator.specs.Mutating.{rests_in}
use Rattle.lxr_mutator.proofs.StraightLemmas.{still_asked}
use Rattle.lxr_mutator.proofs.mutator.Mutator.store_on.Goals as goal

pub loop-self-preserved : goal.loop-self-preserved
loop-self-preserved g c =
    let busy = ap (λ m. rests_in m.phase) (sym c.self.view_is) ∙ ap rests_in c.in-Storing.is in record {
      op = still_asked g.S.Steps.did _ _ _ _ c.args.op (c.loop-self.invariant.op busy) c.go_on_storing.ensures.step;
      holds = c.go_on_storing.ensures.holds;
      rest = λ m u f. c.loop-self.invariant.rest m u (goes_on busy c.go_on_storing.ensures.step f);
    }

pub go_on_storing-requires-clause-op : goal.go_on_storing-requires-clause-op
go_on_storing-requires-clause-op g c = c.loop-self.invariant.op (ap (λ m. rests_in m.phase) (sym c.self.view_is) ∙ ap rests_in c.in-Storing.is)
