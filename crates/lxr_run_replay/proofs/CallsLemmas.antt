-- What a mutator says is placed are the calls that its thread has in the history.
use Rattle.std.proofs.Common.{◌≡◌, ℕ, ◌+◌, ◌∷◌, [], Some, length, refl, ap, ◌∙◌, arith, length-take}
use Rattle.std.specs.Option.{option_map}
use Rattle.std.proofs.lemmas.List.{length_push}
use Rattle.std.proofs.lemmas.Option.{slice_get-map}
use Rattle.lxr_graph.specs.declared.Op.TheVariants as op
use Rattle.lxr_mutator.specs.declared.phases.MutatorPhase.{MutatorPhase}
use Rattle.lxr_mutator.specs.declared.phases.MutatorPhase.TheVariants as phase
use Rattle.lxr_mutator.specs.Mutating.{Mutating, placed_in}
use Rattle.lxr_core_invariant.specs.Called.{waiting_in}
use Rattle.lxr_core_invariant.specs.ThreadStates.{all_of}
use Rattle.lxr_core_sim_mutator.specs.Showing.{stage_in, told_in}
use Rattle.lxr_core.specs.Actors.{mutators_in}
use Rattle.lxr_core.proofs.ToldLemmas.{shown_in, shown_told, told_length, told_state}
use Rattle.lxr_run_replay.specs.Recording.{PlacedAreCalls}
use Rattle.lxr_run_replay.proofs.RecordLemmas.{placed_few}

-- a mutator that is yet to tell a name shows it
shown : (m : Mutating) (p : MutatorPhase) → placed_in m p ≡ length m.replies.items + waiting_in (stage_in m p)
shown m (phase.Referent place) = omega arith
shown m p = omega arith

pub placed_called : PlacedAreCalls
placed_called b execution i m (cleared, is) at =
    let h = execution.history in
    let told = is.told i m at in
    let there = slice_get-map (shown_in h) (mutators_in execution.core.actors) i ∙ ap (option_map (shown_in h)) at ∙ ap Some (shown_told h m told) in
    let called = is.epoch.called.each i (told_state h m) there in
    let count = ap length called.calls ∙ length-take (length (told_in h m).replies.items + waiting_in (stage_in m m.phase)) (all_of m.operations) in
    let as_many = told_length h m told in
    let all = length_push m.operations op.End in
    let placed = shown m m.phase in
    let few = placed_few m m.phase refl (is.mutators i m at).sound in
    omega (arith, count, as_many, all, placed, few)
