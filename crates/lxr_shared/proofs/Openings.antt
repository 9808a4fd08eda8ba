-- Actors that rest are between two units where each that is finished knows its end, and an epoch opens with such actors.
use Rattle.std.proofs.Common.{◌≡◌, ℕ, suc, ◌<◌, List, [], ◌∷◌, All, length, map, refl, sym, subst, ap, arith, Option, Some, None}
use Rattle.std.specs.Prelude.{IsSome, option_map, slice_get, slice_index_or}
use Rattle.std.proofs.lemmas.List.Elements.{All-cons, All-nil}
use Rattle.std.proofs.lemmas.Option.{slice_get-get_or, slice_get_within}
use Rattle.atomic_table.specs.Seated.{TableId}
use Rattle.lxr_layout.specs.declared.Place.{Place}
use Rattle.lxr_image.specs.declared.space.Space.{Space}
use Rattle.lxr_actor.specs.declared.Core.{Core}
use Rattle.lxr_mutator.specs.declared.phases.MutEnd.{MutEnd}
use Rattle.lxr_mutator.specs.Mutating.{Mutating}
use Rattle.lxr_mutator.specs.Mutators.{again, phase_again}
use Rattle.lxr_mutator.specs.Steps.{action_in}
use Rattle.lxr_shared_passes.specs.Passing.{Passing, dealt}
use Rattle.lxr_core.specs.declared.actors.AnyActor.{AnyActor}
use Rattle.lxr_core.specs.declared.actors.AnyActor.TheVariants as any
use Rattle.lxr_core.specs.Closing.{AreResting}
use Rattle.lxr_core.specs.Filling.{unfilled}
use Rattle.lxr_core.specs.Opening.{Opens}
use Rattle.lxr_image.specs.Registers.{row_in}
use Rattle.lxr_core.specs.Starting.{started_again}
use Rattle.lxr_core.proofs.MappedLemmas.{mapped}
use Rattle.lxr_shared.specs.declared.turns.Turn.TheVariants as turn
use Rattle.lxr_shared.specs.Ends.{HaveEnds, IsBetweenUnits, KnowsEnd}
use Rattle.lxr_shared.proofs.UnitEnds.{dec_knows, trace_knows}

-- so are the actors of the passes that are dealt to them
pub dealt_between : (id : TableId) (core : Core AnyActor) (from : ℕ) (actors : List AnyActor) → AreResting actors → HaveEnds actors → All (λ (p : Passing AnyActor). IsBetweenUnits p.actor) (dealt id core from actors)
dealt_between id core from [] rest ends = All-nil (λ (p : Passing AnyActor). IsBetweenUnits p.actor)
dealt_between id core from (a ∷ actors) rest ends =
    All-cons (λ (p : Passing AnyActor). IsBetweenUnits p.actor) _ _ (record { rests = rest 0 a refl; ended = ends 0 a refl }) (dealt_between id core (suc from) actors (λ i. rest (suc i)) (λ i. ends (suc i)))

-- there are as many passes as actors
pub dealt_length : (id : TableId) (core : Core AnyActor) (from : ℕ) (actors : List AnyActor) → length (dealt id core from actors) ≡ length actors
dealt_length id core from [] = refl
dealt_length id core from (a ∷ actors) = ap suc (dealt_length id core (suc from) actors)

-- ---- the opening of an epoch

-- a mutator begins the epoch as finished only where it had ended
again_by : (m : Mutating) (e : Option MutEnd) → action_in m (phase_again e) ≡ None → IsSome (option_map turn.Mutator e)
again_by m None none = absurd (cc)
again_by m (Some how) none = refl

again_knows : (x a : AnyActor) (registers : List Place) → unfilled x ≡ started_again a registers → KnowsEnd x
again_knows (any.Decrementer d) a registers e = dec_knows d
again_knows (any.Tracer t) a registers e = trace_knows t
again_knows (any.Mutator m) (any.Mutator n) registers e =
    let same : m ≡ again n registers = cc in
    subst (λ (k : Mutating). KnowsEnd (any.Mutator k)) (sym same) (again_by (again n registers) n.end)
again_knows (any.Mutator m) (any.Decrementer d) registers e = absurd (cc)
again_knows (any.Mutator m) (any.Tracer t) registers e = absurd (cc)

-- each actor that is finished as an epoch opens knows its end
pub opened_have_ends : (before after : Space) (resting started : List AnyActor) → Opens before after resting started → HaveEnds started
opened_have_ends before after resting started opens i x there =
    let now : slice_get (map unfilled started) i ≡ Some (unfilled x) = mapped unfilled started i x there in
    let inside = slice_get_within (map unfilled started) i (unfilled x) now in
    let many = opens.actors.as_many in
    let within : i < length resting = omega (arith, inside, many) in
    let a = slice_index_or resting i x in
    let was : slice_get resting i ≡ Some a = slice_get-get_or resting i x within in
    let again : slice_get (map unfilled started) i ≡ Some (started_again a (row_in before.registers.items i)) = opens.actors.started i a was within in
    again_knows x a (row_in before.registers.items i) (cc)
