use Rattle.std.proofs.Common.{◌∙◌, ap, sym}
use Rattle.lxr_actor.specs.Steps.{goes_on}
use Rattle.lxr_mutator.specs.Mutating.{rests_in}
use Rattle.lxr_mutator.proofs.StraightLemmas.{still_asked}
use Rattle.lxr_mutator.proofs.mutator.Mutator.store_after_look.Goals as goal

pub store_behind_barrier-requires-clause-op : goal.store_behind_barrier-requires-clause-op
store_behind_barrier-requires-clause-op g c = c.requires.op (ap (λ m. rests_in m.phase) (sym c.self.view_is) ∙ ap rests_in c.in-Storing.is)

pub tell_name-requires-clause-op : goal.tell_name-requires-clause-op
tell_name-requires-clause-op g c =
    still_asked g.S.Steps.did _ _ _ _ c.args.op (c.requires.op (ap (λ m. rests_in m.phase) (sym c.self.view_is) ∙ ap rests_in c.in-Storing.is)) c.store_behind_barrier.ensures.step

pub returns-then-store_behind_barrier-clause-rest : goal.returns-then-store_behind_barrier-clause-rest
returns-then-store_behind_barrier-clause-rest g c =
    goes_on (ap (λ m. rests_in m.phase) (sym c.self.view_is) ∙ ap rests_in c.in-Storing.is) c.store_behind_barrier.ensures.step c.tell_name.ensures.rest

pub returns-else-store_behind_barrier-clause-rest : goal.returns-else-store_behind_barrier-clause-rest
returns-else-store_behind_barrier-clause-rest g c =
    goes_on (ap (λ m. rests_in m.phase) (sym c.self.view_is) ∙ ap rests_in c.in-Storing.is) c.store_behind_barrier.ensures.step c.finish.ensures.rest
