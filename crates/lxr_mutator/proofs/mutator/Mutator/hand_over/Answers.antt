use Rattle.std.proofs.Common.{◌∙◌, ap, sym}
use Rattle.lxr_actor.specs.Steps.{goes_on}
use Rattle.lxr_mutator.specs.Mutating.{rests_in}
use Rattle.lxr_mutator.proofs.mutator.Mutator.hand_over.Goals as goal

pub returns-in-Heading-clause-rest : goal.returns-in-Heading-clause-rest
returns-in-Heading-clause-rest g c = goes_on (ap (λ m. rests_in m.phase) (sym c.self.view_is) ∙ ap rests_in c.in-Heading.is) c.store_header.ensures.step c.finish.ensures.rest

pub store_header-requires-clause-op : goal.store_header-requires-clause-op
store_header-requires-clause-op g c = c.requires.op (ap (λ m. rests_in m.phase) (sym c.self.view_is) ∙ ap rests_in c.in-Heading.is)
