-- Once all actors have begun again there are as many helpers of each kind.
use Rattle.std.proofs.Common.{◌≡◌, suc, refl, sym, ap, subst, ◌∙◌, arith, List, [], ◌∷◌, length, map}
use Rattle.std.proofs.lemmas.Option.{slice_get_within}
use Rattle.lxr_layout.specs.declared.Place.{Place}
use Rattle.lxr_core.specs.declared.actors.AnyActor.{AnyActor}
use Rattle.lxr_core.specs.declared.actors.AnyActor.TheVariants as any
use Rattle.lxr_core.specs.Actors.{decrementers_in, tracers_in}
use Rattle.lxr_core.specs.Filling.{unfilled}
use Rattle.lxr_image.specs.Registers.{row_in}
use Rattle.lxr_core.specs.Starting.{HaveStarted, started_again}
use Rattle.lxr_core.proofs.OrderLemmas.{AreAlike, SameKind, two_helpers, two_mutators, two_tracers}

pub record AreAsMany (before after : List AnyActor) : Type 0 where
  pub decrementers : length (decrementers_in after) ≡ length (decrementers_in before)
  pub tracers : length (tracers_in after) ≡ length (tracers_in before)

-- one more of the same kind
one_more : (a x : AnyActor) (before after : List AnyActor) → SameKind a x → AreAsMany before after → AreAsMany (a ∷ before) (x ∷ after)
one_more a x before after (two_mutators m y) rest = record { decrementers = rest.decrementers; tracers = rest.tracers }
one_more a x before after (two_helpers d y) rest = record { decrementers = ap suc rest.decrementers; tracers = rest.tracers }
one_more a x before after (two_tracers d y) rest = record { decrementers = rest.decrementers; tracers = ap suc rest.tracers }

-- where each has another of its kind in its place
alike_many : (before after : List AnyActor) → AreAlike before after → AreAsMany before after
alike_many [] [] are = record { decrementers = refl; tracers = refl }
alike_many [] (x ∷ after) are = let many = are.as_many in absurd (omega (arith, many))
alike_many (a ∷ before) [] are = let many = are.as_many in absurd (omega (arith, many))
alike_many (a ∷ before) (x ∷ after) are =
    let (y, there, kind) = are.each 0 a refl in
    let same : y ≡ x = cc in
    one_more a x before after (subst (SameKind a) same kind)
    (alike_many before after (record { as_many = let many = are.as_many in omega (arith, many); each = λ i b at. are.each (suc i) b at }))

-- what pockets were filled with leaves how many there are
unfilled_many : (actors : List AnyActor) → AreAsMany actors (map unfilled actors)
unfilled_many [] = record { decrementers = refl; tracers = refl }
unfilled_many (any.Mutator m ∷ actors) = let rest = unfilled_many actors in record { decrementers = rest.decrementers; tracers = rest.tracers }
unfilled_many (any.Decrementer d ∷ actors) = let rest = unfilled_many actors in record { decrementers = ap suc rest.decrementers; tracers = rest.tracers }
unfilled_many (any.Tracer d ∷ actors) = let rest = unfilled_many actors in record { decrementers = rest.decrementers; tracers = ap suc rest.tracers }

-- one that begins again is of its kind
again_kind : (a : AnyActor) (registers : List Place) → SameKind a (started_again a registers)
again_kind (any.Mutator m) registers = two_mutators m _
again_kind (any.Decrementer d) registers = two_helpers d _
again_kind (any.Tracer d) registers = two_tracers d _

-- once all have begun again, and pockets are filled
pub started_helpers : (places : List Place) (before after : List AnyActor) → HaveStarted places before (map unfilled after) (length before) → AreAsMany before after
started_helpers places before after have =
    let again = alike_many before (map unfilled after)
    (record {
      as_many = have.as_many;
      each = λ i a at. (started_again a (row_in places i), have.started i a at (slice_get_within before i a at), again_kind a (row_in places i));
    }) in
    let filled = unfilled_many after in
    record { decrementers = sym filled.decrementers ∙ again.decrementers; tracers = sym filled.tracers ∙ again.tracers }
