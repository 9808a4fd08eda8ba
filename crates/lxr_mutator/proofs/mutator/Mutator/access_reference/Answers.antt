use Rattle.std.proofs.Common.{◌∙◌, ap, sym}
use Rattle.lxr_actor.specs.Steps.{goes_on}
use Rattle.lxr_mutator.specs.Mutating.{rests_in}
use Rattle.lxr_mutator.proofs.StraightLemmas.{still_asked}
use Rattle.lxr_mutator.proofs.mutator.Mutator.access_reference.Goals as goal

pub returns-then-load_reference-clause-rest : goal.returns-then-load_reference-clause-rest
returns-then-load_reference-clause-rest g c = goes_on (ap (λ m. rests_in m.phase) (sym c.self.view_is) ∙ ap rests_in c.in-Reference.is) c.load_reference.ensures.step c.tell_name.ensures.rest

pub returns-else-load_reference-clause-rest : goal.returns-else-load_reference-clause-rest
returns-else-load_reference-clause-rest g c = goes_on (ap (λ m. rests_in m.phase) (sym c.self.view_is) ∙ ap rests_in c.in-Reference.is) c.load_reference.ensures.step c.finish.ensures.rest

pub load_reference-requires-clause-op : goal.load_reference-requires-clause-op
load_reference-requires-clause-op g c = c.requires.op (ap (λ m. rests_in m.phase) (sym c.self.view_is) ∙ ap rests_in c.in-Reference.is)

pub tell_name-requires-clause-op : goal.tell_name-requires-clause-op
tell_name-requires-clause-op g c =
    still_asked g.S.Steps.did _ _ _ _ c.args.op (c.requires.op (ap (λ m. rests_in m.phase) (sym c.self.view_is) ∙ ap rests_in c.in-Reference.is)) c.load_reference.ensures.step
