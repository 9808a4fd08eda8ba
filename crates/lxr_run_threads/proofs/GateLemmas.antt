-- Turns of passes call the gate before each operation, so mutators have replies to operations alone that it let pass.
use Rattle.std.proofs.Common.{◌≡◌, ℕ, zero, suc, ◌+◌, ◌++◌, map, true, false, Bool, List, [], ◌∷◌, arith, refl, sym, subst, ap, ◌∙◌, All}
use Rattle.std.specs.Prelude.{None, Some, if◌then◌else◌, is_none, length, slice_get}
use Rattle.lxr_actor.specs.declared.Action.{Action}
use Rattle.lxr_actor.specs.declared.Core.{Core}
use Rattle.lxr_actor.specs.declared.Event.{Event}
use Rattle.lxr_actor.specs.Run.{core_of, run, stepped}
use Rattle.lxr_barrier.proofs.ViewLemmas.{all_at}
use Rattle.lxr_mutator.specs.Mutating.{Mutating}
use Rattle.lxr_core.specs.declared.actors.AnyActor.{AnyActor}
use Rattle.lxr_core.specs.declared.actors.AnyActor.TheVariants as any
use Rattle.lxr_core.specs.Actors.{AreInOrder, any_machine, mutators_in}
use Rattle.lxr_core.specs.Closing.{AreResting}
use Rattle.lxr_core.proofs.OrderLemmas.{mutator_from}
use Rattle.lxr_sights.specs.Gates.{HavePassed, IsLetPass, IsLetPassSince}
use Rattle.lxr_sights.proofs.GateLemmas.{passed_none}
use Rattle.lxr_shared_passes.specs.Passing.{DoesStep, GoesOn, Passing, Turned, dealt}
use Rattle.lxr_shared.specs.Sharing.{Sharing}
use Rattle.lxr_run_replay.specs.Replaying.{CanBeReplayed}
use Rattle.lxr_run_replay.proofs.GateLemmas.{acted_is, acted_passed, mutator_acted}
use Rattle.lxr_run_threads.specs.Dealing.{numbers_from, numbers_of}
use Rattle.lxr_run_threads.specs.Standing.{IsLetTurn, next_operation}
use Rattle.lxr_run_threads.specs.Working.{HasPassed, is_finished}
use Rattle.lxr_run_threads.proofs.EpochLemmas.{actor_at}

-- ---- a turn

-- the mutator of a pass is this one, and has replies to such operations alone
abbrev IsPassedBy : (ℕ → ℕ → Type 0) → Mutating → Passing AnyActor → Type 0
IsPassedBy passed m p = (n : Mutating) × (p.actor ≡ any.Mutator n) × IsLetPassSince passed m n

-- a step, where the operation was let pass
does_passed : (passed : ℕ → ℕ → Type 0) (m : Mutating) (old : ℕ) (p q : Passing AnyActor) → ((n : Mutating) → p.actor ≡ any.Mutator n → IsLetPass passed n) → DoesStep any_machine p old q → IsPassedBy passed m p → IsPassedBy passed m q
does_passed passed m old p q lets (act, others, does, old_is, came) (n, is, since) =
    let words = (run any_machine p.opening (p.seen ++ others)).words in (
      mutator_acted words n (any_machine.action (any.Mutator n)),
      ap (λ (r : Passing AnyActor). r.actor) came.2 ∙ (ap (λ (a : AnyActor). (stepped any_machine words a).1) is ∙ acted_is words n (any_machine.action (any.Mutator n))),
      acted_passed passed m n words (any_machine.action (any.Mutator n)) since (lets n is),
    )

-- the further steps of a unit
goes_passed : (passed : ℕ → ℕ → Type 0) (m : Mutating) (olds : List ℕ) (p q : Passing AnyActor) → GoesOn any_machine p olds q → IsPassedBy passed m p → IsPassedBy passed m q
goes_passed passed m [] p q same passes = subst (IsPassedBy passed m) (sym same) passes
goes_passed passed m (old ∷ olds) p q (busy, (r, does, rest)) passes =
    goes_passed passed m olds r q rest (does_passed passed m old p r (λ n is rests. let both : true ≡ false = sym rests ∙ (ap any_machine.rests (sym is) ∙ busy) in absurd (cc)) does passes)

unit_passed : (passed : ℕ → ℕ → Type 0) (m : Mutating) (olds : List ℕ) (p q : Passing AnyActor) → ((n : Mutating) → p.actor ≡ any.Mutator n → IsLetPass passed n) → Turned any_machine p olds q → IsPassedBy passed m p → IsPassedBy passed m q
unit_passed passed m [] p q lets (none, same) passes = subst (IsPassedBy passed m) (sym same) passes
unit_passed passed m (old ∷ olds) p q lets (r, does, rest, rests) passes = goes_passed passed m olds r q rest (does_passed passed m old p r lets does passes)

-- the pass stays the same pass
does_same : (old : ℕ) (p q : Passing AnyActor) → DoesStep any_machine p old q → (q.opening ≡ p.opening) × (q.number ≡ p.number)
does_same old p q (act, others, does, old_is, came) = (ap (λ (r : Passing AnyActor). r.opening) came.2, ap (λ (r : Passing AnyActor). r.number) came.2)

goes_same : (olds : List ℕ) (p q : Passing AnyActor) → GoesOn any_machine p olds q → (q.opening ≡ p.opening) × (q.number ≡ p.number)
goes_same [] p q same = (ap (λ (r : Passing AnyActor). r.opening) same, ap (λ (r : Passing AnyActor). r.number) same)
goes_same (old ∷ olds) p q (busy, (r, does, rest)) =
    let first = does_same old p r does in
    let later = goes_same olds r q rest in (later.0 ∙ first.0, later.1 ∙ first.1)

turned_same : (olds : List ℕ) (p q : Passing AnyActor) → Turned any_machine p olds q → (q.opening ≡ p.opening) × (q.number ≡ p.number)
turned_same [] p q (none, same) = (ap (λ (r : Passing AnyActor). r.opening) same, ap (λ (r : Passing AnyActor). r.number) same)
turned_same (old ∷ olds) p q (r, does, rest, rests) =
    let first = does_same old p r does in
    let later = goes_same olds r q rest in (later.0 ∙ first.0, later.1 ∙ first.1)

-- whoever stands at its number at opening
same_opening : (p q : Passing AnyActor) → q.opening ≡ p.opening → q.number ≡ p.number → (a : AnyActor) → slice_get q.opening.actors q.number ≡ Some a → slice_get p.opening.actors p.number ≡ Some a
same_opening p q opening number a at = ap (λ (o : Core AnyActor). slice_get o.actors p.number) (sym opening) ∙ (ap (slice_get q.opening.actors) (sym number) ∙ at)

pub turn_passed : (passed : ℕ → ℕ → Type 0) (olds : List ℕ) (p q : Passing AnyActor) → ((n : Mutating) → p.actor ≡ any.Mutator n → IsLetPass passed n) → Turned any_machine p olds q → HasPassed passed p → HasPassed passed q
turn_passed passed olds p q lets turned passes m at =
    let same = turned_same olds p q turned in
    unit_passed passed m olds p q lets turned (passes m (same_opening p q same.0 same.1 (any.Mutator m) at))

-- a unit that makes a step is one of an actor that isn't finished
acting_goes : (a : AnyActor) (act : Action) → any_machine.action a ≡ Some act → is_finished a ≡ false
acting_goes (any.Mutator m) act does = ap is_none does
acting_goes (any.Decrementer d) act does = refl
acting_goes (any.Tracer t) act does = refl

-- the operation of a mutator that isn't finished
next_is : (m : Mutating) → is_finished (any.Mutator m) ≡ false → next_operation (any.Mutator m) ≡ Some (m.thread, length m.replies.items)
next_is m going = ap (λ (b : Bool). if b then None else Some (m.thread, length m.replies.items)) going

-- so it is where the operation that the pass's actor begins was let pass
pub let_turn_passed : (passed : ℕ → ℕ → Type 0) (olds : List ℕ) (p q : Passing AnyActor) → IsLetTurn passed p.actor → Turned any_machine p olds q → HasPassed passed p → HasPassed passed q
let_turn_passed passed [] p q lets (none, same) passes = subst (HasPassed passed) (sym same) passes
let_turn_passed passed (old ∷ olds) p q lets turned passes =
    let going = acting_goes p.actor turned.1.0 turned.1.2 in
    turn_passed passed (old ∷ olds) p q
    (λ n is rests. lets n.thread (length n.replies.items) (ap next_operation is ∙ next_is n (sym (ap is_finished is) ∙ going)))
    turned passes

-- ---- all passes

-- at opening no reply is gained yet
same_mutator : (a b : AnyActor) → Some a ≡ Some b → a ≡ b
same_mutator a b e = cc

dealt_passed : (passed : ℕ → ℕ → Type 0) (epoch : Sharing) (opening : Core AnyActor) (first : ℕ) (actors : List AnyActor) → AreResting opening.actors
    → ((i : ℕ) (a : AnyActor) → slice_get actors i ≡ Some a → slice_get opening.actors (first + i) ≡ Some a) → All (HasPassed passed) (dealt epoch.id opening first actors)
dealt_passed passed epoch opening first [] resting stand k d within = absurd (omega arith)
dealt_passed passed epoch opening first (a ∷ actors) resting stand zero d within = λ m at.
    let here : slice_get opening.actors first ≡ Some a = let e : first + 0 ≡ first = omega arith in subst (λ n. slice_get opening.actors n ≡ Some a) e (stand 0 a refl) in
    let is : a ≡ any.Mutator m = same_mutator a (any.Mutator m) (sym here ∙ at) in
    (m, is, passed_none passed m (resting first (any.Mutator m) at))
dealt_passed passed epoch opening first (a ∷ actors) resting stand (suc k) d within =
    dealt_passed passed epoch opening (suc first) actors resting
    (λ i b at. let e : first + suc i ≡ suc first + i = omega arith in subst (λ n. slice_get opening.actors n ≡ Some b) e (stand (suc i) b at)) k d (omega arith)

pub opened_passed : (passed : ℕ → ℕ → Type 0) (epoch : Sharing) (opening : Core AnyActor) → AreResting opening.actors → All (HasPassed passed) (dealt epoch.id opening 0 opening.actors)
opened_passed passed epoch opening resting =
    dealt_passed passed epoch opening 0 opening.actors resting (λ i a at. let e : i ≡ 0 + i = omega arith in subst (λ n. slice_get opening.actors n ≡ Some a) e at)

-- passes in order have their places for numbers
number_at : (passes : List (Passing AnyActor)) (first count : ℕ) → numbers_of passes ≡ numbers_from first count → (i : ℕ) (p : Passing AnyActor) → slice_get passes i ≡ Some p → p.number ≡ first + i
number_at [] first count order i p at = absurd (cc)
number_at (x ∷ passes) first zero order i p at = absurd (cc)
number_at (x ∷ passes) first (suc count) order zero p at =
    let same : x ≡ p = cc in
    let is : x.number ≡ first = cc in
    let e : first ≡ first + 0 = omega arith in
    ap (λ (y : Passing AnyActor). y.number) (sym same) ∙ (is ∙ e)
number_at (x ∷ passes) first (suc count) order (suc i) p at =
    let rest : numbers_of passes ≡ numbers_from (first + 1) count = cc in
    let n = number_at passes (first + 1) count rest i p at in
    omega arith

-- so what their mutators have gained by the end was let pass
pub closed_passed : (passed : ℕ → ℕ → Type 0) (opening : Core AnyActor) (actors' : List AnyActor) (passes : List (Passing AnyActor)) (count : ℕ) (schedule : List Event) (words : List ℕ) → CanBeReplayed opening
    → core_of words actors' ≡ run any_machine opening schedule → actors' ≡ map (λ (p : Passing AnyActor). p.actor) passes → numbers_of passes ≡ numbers_from 0 count
    → All (λ (p : Passing AnyActor). p.opening ≡ opening) passes → All (HasPassed passed) passes → HavePassed passed (mutators_in opening.actors) (mutators_in actors')
closed_passed passed opening actors' passes count schedule words can ran whose order of_opening have i m n was there rests =
    let at = mutator_from opening.actors i m (can.order []) was in
    let at' = mutator_from actors' i n (subst (λ (c : Core AnyActor). AreInOrder c.actors) (sym ran) (can.order schedule)) there in
    let (p, stands, is) = actor_at passes i (any.Mutator n) (ap (λ (all : List AnyActor). slice_get all i) (sym whose) ∙ at') in
    let number : p.number ≡ i = let n = number_at passes 0 count order i p stands in omega arith in
    let first : slice_get p.opening.actors p.number ≡ Some (any.Mutator m) =
    ap (λ (o : Core AnyActor). slice_get o.actors p.number) (all_at (λ (p : Passing AnyActor). p.opening ≡ opening) passes i p stands of_opening) ∙ (ap (slice_get opening.actors) number ∙ at) in
    let (k, mutator, since) = all_at (HasPassed passed) passes i p stands have m first in
    let same : k ≡ n = same_of k n (sym mutator ∙ is) in
    (subst (IsLetPassSince passed m) same since).gained
  where
    same_of : (k n : Mutating) → any.Mutator k ≡ any.Mutator n → k ≡ n
    same_of k n e = cc
