-- How many decrementers stand among the actors.
use Rattle.std.proofs.Common.{◌≡◌, sym, ap, ◌∙◌, List, length, arith}
use Rattle.std.proofs.lemmas.List.{length-map}
use Rattle.lxr_mutator.specs.Mutating.{Mutating}
use Rattle.lxr_core.specs.declared.actors.AnyActor.{AnyActor}
use Rattle.lxr_core.specs.Actors.{decrementers_in, mutators_in, script_of, tracers_in}
use Rattle.lxr_core.proofs.OrderLemmas.{lengths_add}
use Rattle.lxr_model.specs.Belongs.{Script}

-- where there are as many actors, as many tracers, and mutators for the same script, there are as many decrementers
pub as_many_helpers : (before after : List AnyActor) (script : Script) → length after ≡ length before → length (tracers_in after) ≡ length (tracers_in before) → script_of (mutators_in before) ≡ script → script_of (mutators_in after) ≡ script
    → length (decrementers_in after) ≡ length (decrementers_in before)
as_many_helpers before after script many tracers was is =
    let all = lengths_add before in
    let all' = lengths_add after in
    let threads : length (mutators_in before) ≡ length script = sym (length-map (mutators_in before) (λ (m : Mutating). m.operations)) ∙ ap length was in
    let threads' : length (mutators_in after) ≡ length script = sym (length-map (mutators_in after) (λ (m : Mutating). m.operations)) ∙ ap length is in
    omega arith
