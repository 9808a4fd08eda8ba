-- A live mutator stays live: no step, order or beginning of an epoch changes what room it has for replies, and an order is taken only where there is room
-- to spare.
use Rattle.std.proofs.Common.{◌≡◌, ℕ, zero, suc, refl, sym, ap, subst, ◌∙◌, arith, Bool, true, false, List, [], ◌∷◌, length, map}
use Rattle.std.specs.Prelude.{◌+◌, Some, slice_get}
use Rattle.lxr_graph.specs.declared.Op.{Op}
use Rattle.lxr_image.specs.declared.space.Space.{Space}
use Rattle.lxr_actor.specs.declared.Core.{Core}
use Rattle.lxr_actor.specs.declared.Event.{Event}
use Rattle.lxr_actor.specs.Run.{run}
use Rattle.lxr_mutator.specs.Dialogues.{most_operations}
use Rattle.lxr_mutator.specs.Mutating.{Mutating}
use Rattle.lxr_mutator.specs.Steps.{after}
use Rattle.lxr_mutator.specs.Orders.{ordered_if, takes_order}
use Rattle.lxr_mutator.specs.Laws.{StepsByRule}
use Rattle.lxr_mutator.specs.Laws.StepsByRule.{does_one, finds_asked, finds_end, gave_up, goes_on, stands_still}
use Rattle.lxr_mutator.specs.Mutators.{MayTakeOrder}
use Rattle.lxr_mutator.proofs.StepLemmas.{step_by_rule}
use Rattle.lxr_mutator.proofs.OrderLemmas.{takes_order_decides}
use Rattle.std.proofs.lemmas.List.{length-append}
use Rattle.lxr_core.specs.declared.actors.AnyActor.{AnyActor}
use Rattle.lxr_core.specs.Actors.{any_machine, mutators_in}
use Rattle.lxr_core.specs.Collecting.{actor_given_up}
use Rattle.lxr_core.specs.Opening.{Opens}
use Rattle.lxr_core.specs.Ordering.{ordered_in, orders_of}
use Rattle.lxr_core.proofs.LastingLemmas.{Lasts, lasts_given, lasts_opened, lasts_run}
use Rattle.lxr_stations.specs.Living.{AreLive, IsLive}

-- ---- a step

-- a mutator has the number, the orders and the room that another has
abbrev Leaves : Mutating → Mutating → Type 0
Leaves m x = (x.thread ≡ m.thread) × (x.operations ≡ m.operations) × (x.replies.room ≡ m.replies.room)

-- each step of a mutator leaves it that room
step_leaves : (m : Mutating) (old : ℕ) (to : Mutating) → StepsByRule m old to → Leaves m to
step_leaves m old to (goes_on log registers spans p busy) = (refl, refl, refl)
step_leaves m old to (finds_asked ready is) = (refl, refl, refl)
step_leaves m old to (finds_end ready unasked is) = (refl, refl, refl)
step_leaves m old to (gave_up why is) = (refl, refl, refl)
step_leaves m old to (does_one log registers r) = (refl, refl, refl)
step_leaves m old to (stands_still is) = (refl, refl, refl)

-- so it stays live
leaves_live : (m x : Mutating) → Leaves m x → IsLive m → IsLive x
leaves_live m x same live =
    let (thread, operations, room) = same in
    let many = ap length operations in
    let spare = live.1 in
    (room ∙ live.0 ∙ ap (λ t. most_operations t + 2) (sym thread), omega (arith, many, room, spare))

-- an order that is taken or not
order_leaves : (m : Mutating) (o : Op) (takes : Bool) → (takes ≡ true → MayTakeOrder m o) → IsLive m → IsLive (ordered_if m o takes).0
order_leaves m o true may live = (live.0, let more = length-append m.operations (o ∷ []) in let room = (may refl).room in omega (arith, more, room))
order_leaves m o false may live = live

-- live mutators stay live
lives_on : Lasts IsLive
lives_on = record {
  steps = λ m old live. leaves_live m (after m old) (step_leaves m old (after m old) (step_by_rule m old)) live;
  orders = λ m o live. order_leaves m o (takes_order m o) (takes_order_decides m o).0 live;
  begins = λ m registers live. live;
  ends = λ m live. live;
}

-- ---- epochs

-- over each schedule
pub live_run : (core : Core AnyActor) (schedule : List Event) → AreLive (mutators_in core.actors) → AreLive (mutators_in (run any_machine core schedule).actors)
live_run = lasts_run IsLive lives_on

-- as an epoch opens
pub live_opened : (before after : Space) (resting started : List AnyActor) → Opens before after resting started → AreLive (mutators_in resting) → AreLive (mutators_in started)
live_opened = lasts_opened IsLive lives_on

-- as they give up what they had
pub live_given : (actors : List AnyActor) → AreLive (mutators_in actors) → AreLive (mutators_in (map actor_given_up actors))
live_given = lasts_given IsLive lives_on

-- and where nobody was asked for more
pub live_as : (before after : List Mutating) → orders_of after ≡ orders_of before → ((i : ℕ) (m x : Mutating) → slice_get before i ≡ Some m → slice_get after i ≡ Some x → x.thread ≡ m.thread)
    → AreLive before → AreLive after
live_as before [] same alike live i m at = absurd (cc)
live_as [] (x ∷ after) same alike live i m at = absurd (cc)
live_as (y ∷ before) (x ∷ after) same alike live zero m at =
    let is : x ≡ m = cc in
    let as_much : ordered_in x ≡ ordered_in y = cc in
    subst IsLive is (leaves_live y x (alike 0 y x refl refl, ap (λ (z : List Op × ℕ). z.0) as_much, ap (λ (z : List Op × ℕ). z.1) as_much) (live 0 y refl))
live_as (y ∷ before) (x ∷ after) same alike live (suc i) m at = live_as before after (cc) (λ j z w one other. alike (suc j) z w one other) (λ j z there. live (suc j) z there) i m at
