use Rattle.std.proofs.Common.{◌∙◌, ap, sym}
use Rattle.lxr_actor.specs.Steps.{goes_on}
use Rattle.lxr_mutator.specs.Mutating.{rests_in}
use Rattle.lxr_mutator.proofs.StraightLemmas.{still_asked}
use Rattle.lxr_mutator.proofs.mutator.Mutator.make_object.Goals as goal

pub loop-self-preserved : goal.loop-self-preserved
loop-self-preserved g c =
    let busy = ap (λ m. rests_in m.phase) (sym c.self.view_is) ∙ ap rests_in c.in-Wiping.is in record {
      op = still_asked g.S.Steps.did _ _ _ _ c.args.op (c.loop-self.invariant.op busy) c.wipe_next.ensures.step;
      holds = c.wipe_next.ensures.holds;
      rest = λ m u f. c.loop-self.invariant.rest m u (goes_on busy c.wipe_next.ensures.step f);
    }
