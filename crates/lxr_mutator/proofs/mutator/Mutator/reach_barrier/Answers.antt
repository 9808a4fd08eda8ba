use Rattle.std.proofs.Common.{◌∙◌, ap, sym}
use Rattle.lxr_actor.specs.Steps.{goes_on}
use Rattle.lxr_mutator.specs.Mutating.{rests_in}
use Rattle.lxr_mutator.proofs.StraightLemmas.{still_asked}
use Rattle.lxr_mutator.proofs.mutator.Mutator.reach_barrier.Goals as goal

pub load_base-requires-clause-op : goal.load_base-requires-clause-op
load_base-requires-clause-op g c = c.requires.op (ap (λ m. rests_in m.phase) (sym c.self.view_is) ∙ ap rests_in c.in-Base.is)

pub store-requires-clause-op : goal.store-requires-clause-op
store-requires-clause-op g c =
    still_asked g.S.Steps.did _ _ _ _ c.args.op (c.requires.op (ap (λ m. rests_in m.phase) (sym c.self.view_is) ∙ ap rests_in c.in-Base.is)) c.load_base.ensures.step

pub returns-then-load_base-clause-rest : goal.returns-then-load_base-clause-rest
returns-then-load_base-clause-rest g c = goes_on (ap (λ m. rests_in m.phase) (sym c.self.view_is) ∙ ap rests_in c.in-Base.is) c.load_base.ensures.step c.store.ensures.rest

pub returns-else-load_base-clause-rest : goal.returns-else-load_base-clause-rest
returns-else-load_base-clause-rest g c = goes_on (ap (λ m. rests_in m.phase) (sym c.self.view_is) ∙ ap rests_in c.in-Base.is) c.load_base.ensures.step c.finish.ensures.rest
