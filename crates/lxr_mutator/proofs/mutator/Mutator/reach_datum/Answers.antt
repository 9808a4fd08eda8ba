use Rattle.std.proofs.Common.{◌∙◌, ap, sym}
use Rattle.lxr_actor.specs.Steps.{goes_on}
use Rattle.lxr_mutator.specs.Mutating.{rests_in}
use Rattle.lxr_mutator.proofs.mutator.Mutator.reach_datum.Goals as goal

pub load_header-requires-clause-op : goal.load_header-requires-clause-op
load_header-requires-clause-op g c = c.requires.op (ap (λ m. rests_in m.phase) (sym c.self.view_is) ∙ ap rests_in c.in-Base.is)

pub returns-then-load_header-clause-rest : goal.returns-then-load_header-clause-rest
returns-then-load_header-clause-rest g c = goes_on (ap (λ m. rests_in m.phase) (sym c.self.view_is) ∙ ap rests_in c.in-Base.is) c.load_header.ensures.step c.access_datum.ensures.rest

pub returns-else-load_header-clause-rest : goal.returns-else-load_header-clause-rest
returns-else-load_header-clause-rest g c = goes_on (ap (λ m. rests_in m.phase) (sym c.self.view_is) ∙ ap rests_in c.in-Base.is) c.load_header.ensures.step c.finish.ensures.rest
