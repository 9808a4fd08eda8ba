-- A turn of a helper: it has made a unit then, and where that found nothing its pocket is empty.
use Rattle.std.proofs.Common.{◌≡◌, ℕ, List, true, Option, Some, None, refl}
use Rattle.std.specs.Prelude.{IsSome, option_map}
use Rattle.lxr_core.specs.declared.actors.AnyActor.{AnyActor}
use Rattle.lxr_core.specs.declared.actors.AnyActor.TheVariants as any
use Rattle.lxr_core.specs.Actors.{any_machine}
use Rattle.lxr_shared_passes.specs.Passing.{Passing, Turned}
use Rattle.lxr_shared.specs.declared.turns.Turn.{Turn}
use Rattle.lxr_shared.specs.declared.turns.Turn.TheVariants as turn
use Rattle.lxr_shared.specs.Ends.{end_of}
use Rattle.lxr_run_threads.specs.Working.{HasServed, is_helper, work_of}
use Rattle.lxr_run_threads.proofs.DrainLemmas.{IsDrained, turn_drains}

-- a helper has no work that counts
pub helpers_have_none : (a : AnyActor) → is_helper a ≡ true → work_of a ≡ 0
helpers_have_none (any.Mutator m) is = absurd (cc)
helpers_have_none (any.Decrementer d) is = refl
helpers_have_none (any.Tracer t) is = refl

some_of_mapped : {X Y : Type 0} (f : X → Y) (o : Option X) (y : Y) → Some y ≡ option_map f o → IsSome o
some_of_mapped f None y is = absurd (cc)
some_of_mapped f (Some x) y is = refl

drained_serves : (a : AnyActor) (how : Turn) → is_helper a ≡ true → any_machine.rests a ≡ true → Some how ≡ end_of a → IsDrained a → HasServed a
drained_serves (any.Mutator m) how helper rests end drained = absurd (cc)
drained_serves (any.Decrementer d) how helper rests end drained = record { some = some_of_mapped turn.Decrementer d.end how end; worked = drained.found rests }
drained_serves (any.Tracer t) how helper rests end drained = record { some = some_of_mapped turn.Tracer t.end how end; worked = drained.found rests }

-- behind its turn a helper has served
pub turn_serves : (olds : List ℕ) (p q : Passing AnyActor) (how : Turn) → is_helper q.actor ≡ true → any_machine.rests p.actor ≡ true → Turned any_machine p olds q → any_machine.rests q.actor ≡ true → Some how ≡ end_of q.actor → HasServed q.actor
turn_serves olds p q how helper before turned rests end = drained_serves q.actor how helper rests end (turn_drains olds p q before turned)
