use Rattle.std.proofs.Common.{◌∙◌, ap, sym}
use Rattle.lxr_actor.specs.Steps.{goes_on}
use Rattle.lxr_mutator.specs.Mutating.{rests_in}
use Rattle.lxr_mutator.proofs.mutator.Mutator.tell_name.Goals as goal

pub returns-in-Referent-clause-rest : goal.returns-in-Referent-clause-rest
returns-in-Referent-clause-rest g c = goes_on (ap (λ m. rests_in m.phase) (sym c.self.view_is) ∙ ap rests_in c.in-Referent.is) c.load_name.ensures.step c.finish.ensures.rest

pub load_name-requires-clause-op : goal.load_name-requires-clause-op
load_name-requires-clause-op g c = c.requires.op (ap (λ m. rests_in m.phase) (sym c.self.view_is) ∙ ap rests_in c.in-Referent.is)
