-- The steps of an epoch leave how many tracers there are.
use Rattle.std.proofs.Common.{◌≡◌, ℕ, zero, suc, refl, ap, subst, ◌∙◌, List, [], ◌∷◌, length}
use Rattle.std.specs.Prelude.{Option, Some, None, slice_get, slice_set}
use Rattle.lxr_actor.specs.declared.Action.{Action}
use Rattle.lxr_actor.specs.declared.Core.{Core}
use Rattle.lxr_actor.specs.declared.Event.{Event}
use Rattle.lxr_actor.specs.declared.Event.TheVariants.{Step, Give, Out, Order}
use Rattle.lxr_actor.specs.Run.{acted, change, event, happened, of_event, run}
use Rattle.lxr_core.specs.declared.actors.AnyActor.{AnyActor}
use Rattle.lxr_core.specs.declared.actors.AnyActor.TheVariants as any
use Rattle.lxr_core.specs.Actors.{any_machine, tracers_in}
use Rattle.lxr_core.proofs.OrderLemmas.{SameKind, two_helpers, two_mutators, two_tracers}

-- ---- actors of the same kinds

-- one more of the same kind
one_more : (a x : AnyActor) (before after : List AnyActor) → SameKind a x → length (tracers_in after) ≡ length (tracers_in before) → length (tracers_in (x ∷ after)) ≡ length (tracers_in (a ∷ before))
one_more a x before after (two_mutators m y) rest = rest
one_more a x before after (two_helpers d y) rest = rest
one_more a x before after (two_tracers d y) rest = ap suc rest

-- so there are where one is put in the place of one of its kind
put_tracers : (actors : List AnyActor) (n : ℕ) (a x : AnyActor) → slice_get actors n ≡ Some a → SameKind a x → length (tracers_in (slice_set actors n x)) ≡ length (tracers_in actors)
put_tracers [] n a x there kind = absurd (cc)
put_tracers (y ∷ actors) zero a x there kind = let same : a ≡ y = cc in one_more y x actors actors (subst (λ z. SameKind z x) same kind) refl
put_tracers (any.Mutator m ∷ actors) (suc n) a x there kind = put_tracers actors n a x there kind
put_tracers (any.Decrementer d ∷ actors) (suc n) a x there kind = put_tracers actors n a x there kind
put_tracers (any.Tracer d ∷ actors) (suc n) a x there kind = ap suc (put_tracers actors n a x there kind)

-- ---- the steps

-- each event leaves an actor of its kind
acted_kind : (words : List ℕ) (a : AnyActor) (o : Option Action) → SameKind a (acted any_machine words a o).1
acted_kind words (any.Mutator m) None = two_mutators m m
acted_kind words (any.Mutator m) (Some act) = two_mutators m _
acted_kind words (any.Decrementer d) None = two_helpers d d
acted_kind words (any.Decrementer d) (Some act) = two_helpers d _
acted_kind words (any.Tracer d) None = two_tracers d d
acted_kind words (any.Tracer d) (Some act) = two_tracers d _

change_kind : (e : Event) (words : List ℕ) (a : AnyActor) → SameKind a (change any_machine e words a).1
change_kind (Step number) words a = acted_kind words a (any_machine.action a)
change_kind (Give number place) words (any.Mutator m) = two_mutators m m
change_kind (Give number place) words (any.Decrementer d) = two_helpers d _
change_kind (Give number place) words (any.Tracer d) = two_tracers d _
change_kind (Out number) words (any.Mutator m) = two_mutators m m
change_kind (Out number) words (any.Decrementer d) = two_helpers d _
change_kind (Out number) words (any.Tracer d) = two_tracers d _
change_kind (Order number op) words (any.Mutator m) = two_mutators m _
change_kind (Order number op) words (any.Decrementer d) = two_helpers d d
change_kind (Order number op) words (any.Tracer d) = two_tracers d d

happened_tracers : (core : Core AnyActor) (e : Event) (o : Option AnyActor) → slice_get core.actors (of_event e) ≡ o → length (tracers_in (happened any_machine core e o).actors) ≡ length (tracers_in core.actors)
happened_tracers core e None at = refl
happened_tracers core e (Some a) at = put_tracers core.actors (of_event e) a (change any_machine e core.words a).1 at (change_kind e core.words a)

-- after each schedule there are as many tracers
pub tracers_run : (core : Core AnyActor) (schedule : List Event) → length (tracers_in (run any_machine core schedule).actors) ≡ length (tracers_in core.actors)
tracers_run core [] = refl
tracers_run core (e ∷ es) = tracers_run (event any_machine core e) es ∙ happened_tracers core e (slice_get core.actors (of_event e)) refl
