use Rattle.std.proofs.Common.{◌∙◌, ap, sym}
use Rattle.lxr_actor.specs.Steps.{goes_on}
use Rattle.lxr_mutator.specs.Mutating.{rests_in}
use Rattle.lxr_mutator.proofs.mutator.Mutator.access_datum.Goals as goal

pub returns-in-Datum-clause-rest : goal.returns-in-Datum-clause-rest
returns-in-Datum-clause-rest g c = goes_on (ap (λ m. rests_in m.phase) (sym c.self.view_is) ∙ ap rests_in c.in-Datum.is) c.load_datum.ensures.step c.finish.ensures.rest

pub returns-in-Adding-clause-rest : goal.returns-in-Adding-clause-rest
returns-in-Adding-clause-rest g c = goes_on (ap (λ m. rests_in m.phase) (sym c.self.view_is) ∙ ap rests_in c.in-Adding.is) c.add_datum.ensures.step c.finish-in-Adding.ensures.rest

pub returns-in-Putting-clause-rest : goal.returns-in-Putting-clause-rest
returns-in-Putting-clause-rest g c = goes_on (ap (λ m. rests_in m.phase) (sym c.self.view_is) ∙ ap rests_in c.in-Putting.is) c.store_datum.ensures.step c.finish-in-Putting.ensures.rest
