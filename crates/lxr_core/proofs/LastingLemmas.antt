-- What no step, order, beginning or end of an epoch changes of a mutator holds of each of them throughout: so it is of whether they tell names.
use Rattle.std.proofs.Common.{◌≡◌, ℕ, zero, suc, refl, sym, ap, subst, ◌∙◌, inl, inr, arith, Bool, true, false, List, [], ◌∷◌, map}
use Rattle.std.specs.Prelude.{⊤, Option, Some, None, slice_get, slice_index, slice_set, option_map}
use Rattle.std.proofs.lemmas.List.{length-map}
use Rattle.std.proofs.lemmas.Bool.{cases_eq}
use Rattle.std.proofs.lemmas.Option.{slice_get-map, slice_get_within}
use Rattle.lxr_layout.specs.declared.Place.{Place}
use Rattle.lxr_graph.specs.declared.Op.{Op}
use Rattle.lxr_graph.proofs.RowLemmas.{slice_get-there}
use Rattle.lxr_image.specs.declared.space.Space.{Space}
use Rattle.lxr_actor.specs.declared.Action.{Action}
use Rattle.lxr_actor.specs.declared.Core.{Core}
use Rattle.lxr_actor.specs.declared.Event.{Event}
use Rattle.lxr_actor.specs.declared.Event.TheVariants.{Step, Give, Out, Order}
use Rattle.lxr_actor.specs.Run.{acted, change, event, happened, of_event, run}
use Rattle.lxr_mutator.specs.Mutating.{Mutating}
use Rattle.lxr_mutator.specs.Steps.{after}
use Rattle.lxr_mutator.specs.Mutators.{again}
use Rattle.lxr_mutator.specs.Orders.{ordered, ordered_if, takes_order}
use Rattle.lxr_mutator.proofs.StepLemmas.{step_by_rule}
use Rattle.lxr_core_invariant.proofs.ShowingLemmas.{set_elsewhere, set_here}
use Rattle.lxr_core.specs.declared.actors.AnyActor.{AnyActor}
use Rattle.lxr_core.specs.declared.actors.AnyActor.TheVariants as any
use Rattle.lxr_core.specs.Actors.{any_machine, mutators_in}
use Rattle.lxr_core.specs.Collecting.{actor_given_up, given_up}
use Rattle.lxr_core.specs.Filling.{unfilled}
use Rattle.lxr_core.specs.Opening.{Opens}
use Rattle.lxr_core.specs.Ordering.{TellNames}
use Rattle.lxr_image.specs.Registers.{row_in}
use Rattle.lxr_core.specs.Starting.{started_again}
use Rattle.lxr_core.proofs.NamelessLemmas.{names_by}

-- it lasts through steps and orders, and from one epoch to the next
pub record Lasts (P : Mutating → Type 0) : Type 0 where
  pub steps : (m : Mutating) (old : ℕ) → P m → P (after m old)
  pub orders : (m : Mutating) (o : Op) → P m → P (ordered m o).0
  pub begins : (m : Mutating) (registers : List Place) → P m → P (again m registers)
  pub ends : (m : Mutating) → P m → P (given_up m)

-- it holds of each
abbrev Each : (Mutating → Type 0) → List Mutating → Type 0
Each P mutators = (i : ℕ) (m : Mutating) → slice_get mutators i ≡ Some m → P m

module _ (P : Mutating → Type 0) (lasts : Lasts P) where
  -- ---- actors

  -- it holds of an actor: of a helper always
  abbrev Holds : AnyActor → Type 0
  Holds (any.Mutator m) = P m
  Holds (any.Decrementer d) = ⊤
  Holds (any.Tracer d) = ⊤

  abbrev Hold : List AnyActor → Type 0
  Hold actors = (i : ℕ) (a : AnyActor) → slice_get actors i ≡ Some a → Holds a

  each_holds : (actors : List AnyActor) → Each P (mutators_in actors) → Hold actors
  each_holds [] each i a at = absurd (cc)
  each_holds (any.Mutator m ∷ actors) each zero a at = let same : any.Mutator m ≡ a = cc in subst Holds same (each 0 m refl)
  each_holds (any.Mutator m ∷ actors) each (suc i) a at = each_holds actors (λ j x there. each (suc j) x there) i a at
  each_holds (any.Decrementer d ∷ actors) each zero a at = let same : any.Decrementer d ≡ a = cc in subst Holds same tt
  each_holds (any.Decrementer d ∷ actors) each (suc i) a at = each_holds actors each i a at
  each_holds (any.Tracer d ∷ actors) each zero a at = let same : any.Tracer d ≡ a = cc in subst Holds same tt
  each_holds (any.Tracer d ∷ actors) each (suc i) a at = each_holds actors each i a at

  mutators_hold : (actors : List AnyActor) → Hold actors → Each P (mutators_in actors)
  mutators_hold [] hold i m at = absurd (cc)
  mutators_hold (any.Mutator x ∷ actors) hold zero m at = let same : x ≡ m = cc in subst P same (hold 0 (any.Mutator x) refl)
  mutators_hold (any.Mutator x ∷ actors) hold (suc i) m at = mutators_hold actors (λ j a there. hold (suc j) a there) i m at
  mutators_hold (any.Decrementer d ∷ actors) hold i m at = mutators_hold actors (λ j a there. hold (suc j) a there) i m at
  mutators_hold (any.Tracer d ∷ actors) hold i m at = mutators_hold actors (λ j a there. hold (suc j) a there) i m at

  -- ---- events

  acted_holds : (words : List ℕ) (a : AnyActor) (o : Option Action) → Holds a → Holds (acted any_machine words a o).1
  acted_holds words (any.Mutator m) None holds = holds
  acted_holds words (any.Mutator m) (Some act) holds = lasts.steps m (slice_index words act.word) holds
  acted_holds words (any.Decrementer d) None holds = tt
  acted_holds words (any.Decrementer d) (Some act) holds = tt
  acted_holds words (any.Tracer d) None holds = tt
  acted_holds words (any.Tracer d) (Some act) holds = tt

  change_holds : (e : Event) (words : List ℕ) (a : AnyActor) → Holds a → Holds (change any_machine e words a).1
  change_holds (Step number) words a holds = acted_holds words a (any_machine.action a) holds
  change_holds (Give number place) words (any.Mutator m) holds = holds
  change_holds (Give number place) words (any.Decrementer d) holds = tt
  change_holds (Give number place) words (any.Tracer d) holds = tt
  change_holds (Out number) words (any.Mutator m) holds = holds
  change_holds (Out number) words (any.Decrementer d) holds = tt
  change_holds (Out number) words (any.Tracer d) holds = tt
  change_holds (Order number o) words (any.Mutator m) holds = lasts.orders m o holds
  change_holds (Order number o) words (any.Decrementer d) holds = tt
  change_holds (Order number o) words (any.Tracer d) holds = tt

  happened_holds : (core : Core AnyActor) (e : Event) (o : Option AnyActor) → slice_get core.actors (of_event e) ≡ o → Hold core.actors → Hold (happened any_machine core e o).actors
  happened_holds core e None there hold = hold
  happened_holds core e (Some a) there hold = λ i b at.
      elim (cases_eq i (of_event e)) [
        | inl same ↦
            let here : Some (change any_machine e core.words a).1 ≡ Some b = sym (set_here core.actors (of_event e) (change any_machine e core.words a).1 a there) ∙ sym (ap (slice_get (slice_set core.actors (of_event e) (change any_machine e core.words a).1)) same) ∙ at in
            let is : (change any_machine e core.words a).1 ≡ b = cc in
            subst Holds is (change_holds e core.words a (hold (of_event e) a there))
        | inr other ↦ hold i b (sym (set_elsewhere core.actors (of_event e) i (change any_machine e core.words a).1 other) ∙ at)
      ]

  all_hold : (core : Core AnyActor) (schedule : List Event) → Hold core.actors → Hold (run any_machine core schedule).actors
  all_hold core [] hold = hold
  all_hold core (e ∷ es) hold = all_hold (event any_machine core e) es (happened_holds core e (slice_get core.actors (of_event e)) refl hold)

  -- over each schedule
  pub lasts_run : (core : Core AnyActor) (schedule : List Event) → Each P (mutators_in core.actors) → Each P (mutators_in (run any_machine core schedule).actors)
  lasts_run core schedule each = mutators_hold (run any_machine core schedule).actors (all_hold core schedule (each_holds core.actors each))

  -- ---- what comes before and after an epoch

  started_holds : (a : AnyActor) (registers : List Place) → Holds a → Holds (started_again a registers)
  started_holds (any.Mutator m) registers holds = lasts.begins m registers holds
  started_holds (any.Decrementer d) registers holds = tt
  started_holds (any.Tracer d) registers holds = tt

  filled_holds : (a : AnyActor) → Holds (unfilled a) → Holds a
  filled_holds (any.Mutator m) holds = holds
  filled_holds (any.Decrementer d) holds = tt
  filled_holds (any.Tracer d) holds = tt

  -- as an epoch opens
  pub lasts_opened : (before after : Space) (resting started : List AnyActor) → Opens before after resting started → Each P (mutators_in resting) → Each P (mutators_in started)
  lasts_opened before after resting started opens each = mutators_hold started (λ i b at.
      let have = opens.actors in
      let inside = slice_get_within started i b at in
      let many = length-map started unfilled in
      let as_many = have.as_many in
      let (a, there) = slice_get-there resting i (omega (arith, inside, many, as_many)) in
      let begun = have.started i a there (slice_get_within resting i a there) in
      let shown : slice_get (map unfilled started) i ≡ Some (unfilled b) = slice_get-map unfilled started i ∙ ap (option_map unfilled) at in
      let same : started_again a (row_in before.registers.items i) ≡ unfilled b = cc in
      filled_holds b (subst Holds same (started_holds a (row_in before.registers.items i) (each_holds resting each i a there))))

  -- as they give up what they had
  pub lasts_given : (actors : List AnyActor) → Each P (mutators_in actors) → Each P (mutators_in (map actor_given_up actors))
  lasts_given [] each i m at = absurd (cc)
  lasts_given (any.Mutator x ∷ actors) each zero m at = let same : given_up x ≡ m = cc in subst P same (lasts.ends x (each 0 x refl))
  lasts_given (any.Mutator x ∷ actors) each (suc i) m at = lasts_given actors (λ j y there. each (suc j) y there) i m at
  lasts_given (any.Decrementer d ∷ actors) each i m at = lasts_given actors each i m at
  lasts_given (any.Tracer d ∷ actors) each i m at = lasts_given actors each i m at

-- ---- names

-- an order that is taken or not leaves whether it tells names, as each step does
order_names : (m : Mutating) (o : Op) (takes : Bool) → (ordered_if m o takes).0.names ≡ m.names
order_names m o true = refl
order_names m o false = refl

names_last : (names : Bool) → Lasts (λ m. m.names ≡ names)
names_last names = record {
  steps = λ m old is. names_by m old (after m old) (step_by_rule m old) ∙ is;
  orders = λ m o is. order_names m o (takes_order m o) ∙ is;
  begins = λ m registers is. is;
  ends = λ m is. is;
}

-- whether mutators tell names lasts over each schedule, as an epoch opens, and as they give up what they had
pub names_run : (names : Bool) (core : Core AnyActor) (schedule : List Event) → TellNames names (mutators_in core.actors) → TellNames names (mutators_in (run any_machine core schedule).actors)
names_run names = lasts_run (λ m. m.names ≡ names) (names_last names)

pub names_opened : (names : Bool) (before after : Space) (resting started : List AnyActor) → Opens before after resting started → TellNames names (mutators_in resting) → TellNames names (mutators_in started)
names_opened names = lasts_opened (λ m. m.names ≡ names) (names_last names)

pub names_given : (names : Bool) (actors : List AnyActor) → TellNames names (mutators_in actors) → TellNames names (mutators_in (map actor_given_up actors))
names_given names = lasts_given (λ m. m.names ≡ names) (names_last names)
