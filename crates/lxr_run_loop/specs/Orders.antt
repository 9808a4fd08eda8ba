-- The order of a run's calls and pauses, as it is kept from round to round.
use Rattle.std.specs.Prelude.{◌≡◌, ℕ, zero, suc, ⊤, Option, Some, None, List, [], ◌++◌, slice_get, slice_index}
use Rattle.lxr_graph.specs.History.{Item}
use Rattle.lxr_graph.specs.Order.{order_of}
use Rattle.lxr_graph.specs.declared.Item as kept
use Rattle.lxr_actor.specs.declared.Core.{Core}
use Rattle.lxr_actor.specs.declared.Event.{Event}
use Rattle.lxr_core.specs.declared.actors.AnyActor.{AnyActor}
use Rattle.lxr_run_replay.specs.Recording.{AreCallsOf, calls_since, placed_by}
use Rattle.lxr_words.specs.declared.Command.{Command}
use Rattle.lxr_words.specs.declared.Command.TheVariants.{Order}

-- the order that a run begins with: `order` keeps one, and no other command does
abbrev pub opening_order : Command → Option (List kept.Item)
opening_order Order = Some []
opening_order command = None

-- an order that is kept is that of the history; where none is kept nothing is said
abbrev pub IsOrderOf : Option (List kept.Item) → List Item → Type 0
IsOrderOf None h = ⊤
IsOrderOf (Some items) h = items ≡ order_of h

-- where the one order was that of the one history, the other is that of the other
abbrev pub FollowsOrder : Option (List kept.Item) → List Item → Option (List kept.Item) → List Item → Type 0
FollowsOrder order h order' h' = IsOrderOf order h → IsOrderOf order' h'

-- an order with these behind it, where one is kept; for want of memory it may be kept no more
abbrev pub Notes : Option (List kept.Item) → List kept.Item → Option (List kept.Item) → Type 0
Notes before more None = ⊤
Notes None more (Some after) = ⊥
Notes (Some before) more (Some after) = after ≡ before ++ more

-- so it is with the calls that these events bring into the history of an epoch
abbrev pub NotesCalls : Core AnyActor → List Event → Option (List kept.Item) → Option (List kept.Item) → Type 0
NotesCalls core events before None = ⊤
NotesCalls core events None (Some after) = ⊥
NotesCalls core events (Some before) (Some after) = (calls : List kept.Item) × AreCallsOf core events calls × (after ≡ before ++ calls)

-- how many operations of the thread of an actor stand in the history, where there is such an actor
abbrev pub placed_if : Option AnyActor → ℕ
placed_if None = 0
placed_if (Some a) = placed_by a

-- the same of the actor of a number
abbrev pub placed_at : List AnyActor → ℕ → ℕ
placed_at actors i = placed_if (slice_get actors i)

-- the call of an actor that came to stand in the history since so many did, where there is such an actor
abbrev pub call_of : ℕ → Option AnyActor → List kept.Item
call_of before None = []
call_of before (Some a) = calls_since before a

-- those of the first actors, by how many calls of each stood there before
abbrev pub calls_of_first : List ℕ → List AnyActor → ℕ → List kept.Item
calls_of_first before actors zero = []
calls_of_first before actors (suc n) = calls_of_first before actors n ++ call_of (slice_index before n) (slice_get actors n)
