use Rattle.std.proofs.Common.{◌≡◌, ◌∙◌, ℕ, ◌<◌, ap, subst, sym}
use Rattle.lxr_actor.specs.Machine.{to_go}
use Rattle.lxr_mutator.specs.declared.phases.MutatorPhase.{MutatorPhase}
use Rattle.lxr_mutator.specs.declared.phases.MutatorPhase.TheVariants as phase
use Rattle.lxr_mutator.specs.Mutating.{Mutating}
use Rattle.lxr_mutator.specs.Steps.{left_in, mutator_machine, next_in}
use Rattle.lxr_mutator.specs.Mutators.{IsMutator}
use Rattle.lxr_mutator.proofs.NowLemmas.{few_words, store_goes_on}
use Rattle.lxr_mutator.proofs.NearerLemmas.{ready_nearer, storing_nearer}
use Rattle.lxr_mutator.proofs.mutator.units.MutatorActor.take.Goals as goal

-- what a step by this phase leads to is nearer, where that is the mutator's phase
nearer : (m m' : Mutating) (p : MutatorPhase) (n : ℕ) → m.phase ≡ p → m' ≡ next_in m p n → to_go mutator_machine (next_in m p n) < left_in m p → to_go mutator_machine m' < left_in m m.phase
nearer m m' p n is e h =
    subst (λ q. to_go mutator_machine m' < left_in m q) (sym is)
    (subst (λ x. to_go mutator_machine x < left_in m p) (sym e) h)

pub returns-in-Ready-clause-nearer : goal.returns-in-Ready-clause-nearer
returns-in-Ready-clause-nearer c =
    let m = c.args.self.now in
    let sound = subst IsMutator c.self.view_is c.self.invariant.sound in
    let is : m.phase ≡ phase.Ready = ap (λ (x : Mutating). x.phase) (sym c.self.view_is) ∙ c.in-Ready.is in
    nearer m c.look_at_pause_word.new.self phase.Ready c.args.old is c.look_at_pause_word.ensures (ready_nearer m c.args.old (few_words m sound))

pub returns-in-Storing-clause-nearer : goal.returns-in-Storing-clause-nearer
returns-in-Storing-clause-nearer c =
    let m = c.args.self.now in
    let s = c.in-Storing.field-0 in
    let sound = subst IsMutator c.self.view_is c.self.invariant.sound in
    let is : m.phase ≡ phase.Storing s = ap (λ (x : Mutating). x.phase) (sym c.self.view_is) ∙ c.in-Storing.is in
    nearer m c.step_store.new.self (phase.Storing s) c.args.old is (c.step_store.ensures s is) (storing_nearer m s c.args.old (store_goes_on m s sound is))
