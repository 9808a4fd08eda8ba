use Rattle.std.proofs.Common.{◌∙◌, ap, sym}
use Rattle.lxr_actor.specs.Steps.{goes_on}
use Rattle.lxr_mutator.specs.Mutating.{rests_in}
use Rattle.lxr_mutator.proofs.StraightLemmas.{still_asked}
use Rattle.lxr_mutator.proofs.mutator.Mutator.store.Goals as goal

pub store_after_look-requires-clause-op : goal.store_after_look-requires-clause-op
store_after_look-requires-clause-op g c =
    still_asked g.S.Steps.did _ _ _ _ c.args.op (c.requires.op (ap (λ m. rests_in m.phase) (sym c.self.view_is) ∙ ap rests_in c.in-Storing.is)) c.load_bit.ensures.step

pub returns-then-load_bit-clause-rest : goal.returns-then-load_bit-clause-rest
returns-then-load_bit-clause-rest g c = goes_on (ap (λ m. rests_in m.phase) (sym c.self.view_is) ∙ ap rests_in c.in-Storing.is) c.load_bit.ensures.step c.store_after_look.ensures.rest

pub returns-else-load_bit-clause-rest : goal.returns-else-load_bit-clause-rest
returns-else-load_bit-clause-rest g c = goes_on (ap (λ m. rests_in m.phase) (sym c.self.view_is) ∙ ap rests_in c.in-Storing.is) c.load_bit.ensures.step c.store_on.ensures.rest
