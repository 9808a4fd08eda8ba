-- The step of the actor that a draw picks: the core after it, and the numbers of the actors that may be drawn then.
use Rattle.std.proofs.Common.{◌≡◌, ℕ, ◌%◌, ◌<◌, true, false, List, length, set, arith, sym, ap, ◌∙◌}
use Rattle.std.specs.Prelude.{Bool, Some, slice_get}
use Rattle.std.specs.List.{remove}
use Rattle.std.proofs.lemmas.Option.{slice_get_within}
use Rattle.lxr_base.specs.Draws.{draw}
use Rattle.lxr_actor.specs.declared.Event.TheVariants.{Step}
use Rattle.lxr_actor.specs.Run.{core_of, event, stepped}
use Rattle.lxr_actor.proofs.Runs.{event-is}
use Rattle.lxr_core.specs.declared.actors.AnyActor.{AnyActor}
use Rattle.lxr_core.specs.Actors.{any_machine}
use Rattle.lxr_run_replay.specs.Replaying.{IsPicked, may_be_drawn, unfinished}
use Rattle.lxr_run_replay.proofs.NumberLemmas.{stands}
use Rattle.lxr_run_replay.proofs.PickLemmas.{picked_actor}

-- what stands at the place of the draw is picked
pub picked_there : (tracing : Bool) (x : ℕ) (actors : List AnyActor) (numbers : List ℕ) (drawn few at number : ℕ)
    → numbers ≡ unfinished tracing actors → drawn ≡ draw x → few ≡ length numbers → slice_get numbers (drawn % few) ≡ Some at → number ≡ at → IsPicked tracing x actors number
picked_there tracing x actors numbers drawn few at number are is many got n =
    ap (λ (ns : List ℕ). slice_get ns (draw x % length ns)) (sym are)
    ∙ (ap (λ (k : ℕ). slice_get numbers (k % length numbers)) (sym is)
    ∙ (ap (λ (k : ℕ). slice_get numbers (drawn % k)) (sym many)
    ∙ (got ∙ ap (λ (k : ℕ). Some k) (sym n))))

-- there is an actor of the number that is picked
pub picked_within : (tracing : Bool) (x : ℕ) (actors : List AnyActor) (number : ℕ) → IsPicked tracing x actors number → number < length actors
picked_within tracing x actors number picked = let p = picked_actor tracing x actors number picked in slice_get_within actors number p.actor p.at

-- the core after its step
pub after_turn : (words : List ℕ) (actors : List AnyActor) (number : ℕ) (a : AnyActor) (words' : List ℕ) (a' : AnyActor)
    → slice_get actors number ≡ Some a → (words', a') ≡ stepped any_machine words a
    → core_of words' (set actors number a') ≡ event any_machine (core_of words actors) (Step number)
after_turn words actors number a words' a' at done =
    ap (λ (z : List ℕ × AnyActor). core_of z.0 (set actors number z.1)) done ∙ sym (event-is any_machine (core_of words actors) (Step number) a at)

-- one that may be drawn no more is taken out
pub left_out : (tracing : Bool) (actors : List AnyActor) (numbers : List ℕ) (place at number : ℕ) (a : AnyActor)
    → numbers ≡ unfinished tracing actors → slice_get numbers place ≡ Some at → number ≡ at → may_be_drawn tracing a ≡ false → remove numbers place ≡ unfinished tracing (set actors number a)
left_out tracing actors numbers place at number a are got n idle =
    let s = stands tracing 0 actors place at (ap (λ (ns : List ℕ). slice_get ns place) (sym are) ∙ got) in
    let e : number ≡ s.index = let h = s.number_is in omega arith in
    ap (λ (ns : List ℕ). remove ns place) are ∙ (sym (s.gone a idle) ∙ ap (λ (i : ℕ). unfinished tracing (set actors i a)) (sym e))

-- with one that still may be the numbers are as they were
pub left_so : (tracing : Bool) (actors : List AnyActor) (numbers : List ℕ) (place at number : ℕ) (a : AnyActor)
    → numbers ≡ unfinished tracing actors → slice_get numbers place ≡ Some at → number ≡ at → may_be_drawn tracing a ≡ true → numbers ≡ unfinished tracing (set actors number a)
left_so tracing actors numbers place at number a are got n does =
    let s = stands tracing 0 actors place at (ap (λ (ns : List ℕ). slice_get ns place) (sym are) ∙ got) in
    let e : number ≡ s.index = let h = s.number_is in omega arith in
    are ∙ (sym (s.still a does) ∙ ap (λ (i : ℕ). unfinished tracing (set actors i a)) (sym e))
