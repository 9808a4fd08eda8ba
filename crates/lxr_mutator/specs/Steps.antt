-- A mutator as a machine: one case for each phase.
use Rattle.std.specs.Prelude.{ℕ, ◌+◌, ◌-◌, ◌/◌, ◌%◌, ◌^◌, ◌&&◌, nat_eq, nat_le, nat_lt, if◌then◌else◌, Bool, true, false, Option, Some, None, replicate, slice_set}
use Rattle.lxr_layout.specs.declared.TheConstants.{FREE_BLOCK_COUNT, FREE_BLOCK_CURSOR, LINES_IN_BLOCK, MOST_BLOCKS, MOST_GRANULES, REGISTERS, RUN_COUNT, RUN_CURSOR}
use Rattle.lxr_layout.specs.declared.Place.{Place}
use Rattle.lxr_layout.specs.declared.Name.{Name}
use Rattle.lxr_layout.specs.declared.Shape.{Shape}
use Rattle.lxr_layout.specs.declared.Header.{Header}
use Rattle.lxr_layout.specs.declared.Header.TheVariants as header
use Rattle.lxr_layout.specs.declared.LogEntry.{LogEntry}
use Rattle.lxr_layout.specs.declared.Run.{Run}
use Rattle.lxr_layout.specs.Objects.{word_count, line_count, header_of, header_word}
use Rattle.lxr_layout.specs.Places.{first_word, place_in}
use Rattle.lxr_base.specs.Roomy.{Roomy, pushed}
use Rattle.lxr_graph.specs.declared.Op.{Op}
use Rattle.lxr_graph.specs.declared.Op.TheVariants as op
use Rattle.lxr_graph.specs.declared.Reply.{Reply}
use Rattle.lxr_graph.specs.declared.Reply.TheVariants as reply
use Rattle.lxr_actor.specs.declared.Action.{Action}
use Rattle.lxr_actor.specs.declared.Kindred.TheVariants.{Load, Store, Add}
use Rattle.lxr_actor.specs.Machine.{Machine}
use Rattle.lxr_alloc.specs.declared.Span.{Span}
use Rattle.lxr_alloc.specs.Spans.{granule_count, rest_of, front_of, taken_from, run_span, block_span}
use Rattle.lxr_barrier.specs.declared.StoreEnd.{StoreEnd}
use Rattle.lxr_barrier.specs.declared.StoreEnd.TheVariants as store_end
use Rattle.lxr_barrier.specs.Storing.{Storing, begun, begun_swap, next_action, reference_word, store_after, log_after, end_of, swaps_next}
use Rattle.lxr_barrier.specs.Storers.{steps_left}
use Rattle.lxr_mutator.specs.declared.phases.MutEnd.{MutEnd}
use Rattle.lxr_mutator.specs.declared.phases.MutEnd.TheVariants as ends
use Rattle.lxr_mutator.specs.declared.phases.MutatorPhase.{MutatorPhase}
use Rattle.lxr_mutator.specs.declared.phases.MutatorPhase.TheVariants as phase
use Rattle.lxr_mutator.specs.declared.phases.Stop.{Stop}
use Rattle.lxr_mutator.specs.declared.phases.Stop.TheVariants as stop
use Rattle.lxr_mutator.specs.Naming.{unnamed}
use Rattle.lxr_mutator.specs.Operating.{dest_of, index_of, value_of, shape_made, indexed_fields, found_reply, asked_reply}
use Rattle.lxr_mutator.specs.Mutating.{Mutating, nil, op_now, register, next_name, rests_in}
use Rattle.lxr_mutator.specs.Orders.{ordered}

-- the shape of the object that it makes
abbrev pub shape_now : Mutating → Shape
shape_now m = shape_made (op_now m)

-- a load of a word
abbrev pub loading : ℕ → Option Action
loading word = Some (record { kind = Load; word = word; operand = 0 })

-- a store to a word
abbrev pub storing : ℕ → ℕ → Option Action
storing word value = Some (record { kind = Store; word = word; operand = value })

-- an addition to a word
abbrev pub adding : ℕ → ℕ → Option Action
adding word value = Some (record { kind = Add; word = word; operand = value })

-- a draw from a cursor
abbrev pub drawing : ℕ → Option Action
drawing word = adding word 1

-- the heap word of a data word: data words stand behind the header and the references
abbrev pub data_word : Place → ℕ → ℕ → ℕ
data_word place refs index = first_word place.0 + 1 + refs + index

-- its next step, by its phase
abbrev pub action_in : Mutating → MutatorPhase → Option Action
action_in m phase.Ready = loading m.regions.cursors
action_in m phase.Finished = None
action_in m (phase.Base base) = loading (first_word base.0)
action_in m (phase.Reference base) = loading (reference_word base (index_of (op_now m)))
action_in m (phase.Referent place) = loading (first_word place.0)
action_in m (phase.Datum base refs) = loading (data_word base refs (index_of (op_now m)))
action_in m (phase.Putting base refs) = storing (data_word base refs (index_of (op_now m))) (value_of (op_now m))
action_in m (phase.Adding base refs) = adding (data_word base refs (index_of (op_now m))) (value_of (op_now m))
action_in m (phase.Storing store) = next_action store
action_in m phase.DrawsRun = drawing (m.regions.cursors + RUN_CURSOR)
action_in m (phase.RunNumber number) = loading (m.regions.cursors + RUN_COUNT)
action_in m (phase.Run number) = loading (m.regions.runs + number)
action_in m phase.DrawsBlock = drawing (m.regions.cursors + FREE_BLOCK_CURSOR)
action_in m (phase.BlockNumber number) = loading (m.regions.cursors + FREE_BLOCK_COUNT)
action_in m (phase.Block number) = loading (m.regions.frees + number)
action_in m (phase.Wiping place next) = storing (first_word place.0 + next) 0
action_in m (phase.Heading place) = storing (first_word place.0) (header_word (next_name m) (shape_now m))
action_in m phase.Asking = storing m.regions.cursors 1
action_in m (phase.GivingUp why) = storing m.regions.cursors 1

-- its next step
abbrev pub action : Mutating → Option Action
action m = action_in m m.phase

-- the shape that a header tells
abbrev pub shape_told : Header → Shape
shape_told (header.Object name shape) = shape
shape_told (header.Moved place) = record { refs = 0; values = 0 }

-- the name that a header tells
abbrev pub name_told : Header → Name
name_told (header.Object name shape) = name
name_told (header.Moved place) = record { thread = 0; serial = 0 }

-- the word is the header of an object
abbrev pub is_header : ℕ → Bool
is_header word = nat_lt word (2 ^ 63)

-- the object of this header lies in the heap
abbrev pub lies_in_heap : Mutating → Place → ℕ → Bool
lies_in_heap m base word = nat_le (first_word base.0 + word_count (shape_told (header_of word))) m.regions.counts

-- the run of a word of the run table
abbrev pub run_in : ℕ → Run
run_in word = record { block = word / 2 ^ 16; line = word / 2 ^ 8 % 2 ^ 8; lines = word % 2 ^ 8 }

-- a run of at least one line, which lies in its block
abbrev pub is_run : Run → Bool
is_run run = nat_lt run.block MOST_BLOCKS && (nat_le 1 run.lines && nat_le (run.line + run.lines) LINES_IN_BLOCK)

-- The word of its next step tells what its phase looks for: the header of an object of the heap, a reference, also where that is swapped,
-- a count that its table has room for, a run, a block. In an epoch each word does.
abbrev pub accepts_in : Mutating → MutatorPhase → ℕ → Bool
accepts_in m (phase.Base base) old = is_header old && lies_in_heap m base old
accepts_in m (phase.Reference base) old = nat_le old (MOST_GRANULES)
accepts_in m (phase.Referent place) old = is_header old
accepts_in m (phase.Storing store) old = if swaps_next store then nat_le old (MOST_GRANULES) else true
accepts_in m (phase.RunNumber number) old = nat_le (m.regions.runs + old) m.regions.frees
accepts_in m (phase.Run number) old = is_run (run_in old)
accepts_in m (phase.BlockNumber number) old = nat_le (m.regions.frees + old) m.regions.decs
accepts_in m (phase.Block number) old = nat_lt old MOST_BLOCKS
accepts_in m p old = true

-- with one register changed
abbrev pub with_register : Mutating → ℕ → Place → Mutating
with_register m r place = record m { registers = slice_set m.registers r place }

-- through for this epoch, its unit having ended so
abbrev pub finished : Mutating → MutEnd → Mutating
finished m how = record m { phase = phase.Finished; end = Some how }

-- The operation is done with this reply. The operation that makes `every` of them in this epoch is the last in it.
abbrev pub done_with : Mutating → Reply → Mutating
done_with m r = record m {
  replies = pushed m.replies r;
  since = m.since + 1;
  phase = if nat_le m.every (m.since + 1) then phase.Finished else phase.Ready;
  end = Some (if nat_le m.every (m.since + 1) then ends.Turns else ends.OpDone r);
}

-- the thread's end is done: its registers are nil
abbrev pub ended : Mutating → Mutating
ended m = record m {
  registers = replicate REGISTERS nil;
  replies = pushed m.replies reply.Ended;
  phase = phase.Finished;
  end = Some ends.Ended;
}

-- a span has room for an object of this shape
abbrev pub has_room : Span → Shape → Bool
has_room span shape = nat_le (granule_count shape) (rest_of span)

-- an object of this shape has more than one line
abbrev pub is_medium : Shape → Bool
is_medium shape = nat_lt 1 (line_count shape)

-- The object takes the front of this span, which is `current` then. Its further words are wiped next.
abbrev pub in_current : Mutating → Shape → Span → Mutating
in_current m shape span = record m {
  spans = record m.spans { current = taken_from span shape };
  phase = phase.Wiping (front_of span) 1;
}

-- The object takes the front of this span, which is `overflow` then.
abbrev pub in_overflow : Mutating → Shape → Span → Mutating
in_overflow m shape span = record m {
  spans = record m.spans { overflow = taken_from span shape };
  phase = phase.Wiping (front_of span) 1;
}

-- what is drawn for an object that its spans have no room for
abbrev pub draws_for : Shape → MutatorPhase
draws_for shape = if is_medium shape then phase.DrawsBlock else phase.DrawsRun

-- an object of this shape is placed in its spans, or something is drawn for it
abbrev pub placed : Mutating → Shape → Mutating
placed m shape =
    if has_room m.spans.current shape then in_current m shape m.spans.current
    else if is_medium shape && has_room m.spans.overflow shape then in_overflow m shape m.spans.overflow
    else record m { phase = draws_for shape }

-- an object of this shape is placed in the block of this number
abbrev pub in_block : Mutating → Shape → ℕ → Mutating
in_block m shape block = if is_medium shape then in_overflow m shape (block_span block) else in_current m shape (block_span block)

-- an operation on this base looks at its header first
abbrev pub based : Mutating → Place → Mutating
based m base = if nat_eq base.0 0 then done_with m reply.Bad else record m { phase = phase.Base base }

-- what an operation begins with, once the pause word was not 1
abbrev pub started : Mutating → Op → Mutating
started m (op.New dest shape) = placed m shape
started m (op.Load dest base index) = based m (register m base)
started m (op.Store base index source) = based m (register m base)
started m (op.Put base index value) = based m (register m base)
started m (op.Get base index) = based m (register m base)
started m (op.Swap dest base index source) = based m (register m base)
started m (op.Add base index value) = based m (register m base)
started m (op.Move dest source) = done_with (with_register m dest (register m source)) reply.Moved
started m (op.Nil dest) = done_with (with_register m dest nil) reply.Cleared
started m (op.Same left right) = done_with m (reply.Same (nat_eq (register m left).0 (register m right).0))
started m op.Pause = record m { phase = phase.Asking }
started m op.Collect = record m { phase = phase.Asking }
started m op.End = ended m

-- the phase for a field of a base of this shape
abbrev pub reaching : Mutating → Place → Shape → Op → MutatorPhase
reaching m base shape (op.Load dest b index) = phase.Reference base
reaching m base shape (op.Store b index source) = phase.Storing (begun m.regions base index (register m source))
reaching m base shape (op.Put b index value) = phase.Putting base shape.refs
reaching m base shape (op.Get b index) = phase.Datum base shape.refs
reaching m base shape (op.Swap dest b index source) = phase.Storing (begun_swap m.regions base index (register m source))
reaching m base shape (op.Add b index value) = phase.Adding base shape.refs
reaching m base shape o = phase.Ready

-- the base has this shape: the operation goes on at its field, if there is one of this index
abbrev pub reached : Mutating → Place → Shape → Mutating
reached m base shape =
    if nat_lt (index_of (op_now m)) (indexed_fields (op_now m) shape) then record m { phase = reaching m base shape (op_now m) }
    else done_with m reply.Range

-- a place that is not nil was found in the field: who tells names looks its name up
abbrev pub referring : Mutating → Bool → Place → Mutating
referring m true place = record m { phase = phase.Referent place }
referring m false place = done_with m (found_reply (op_now m) (Some unnamed))

-- this place was found in the field: its register holds it
abbrev pub loaded : Mutating → Place → Mutating
loaded m place =
    let m' = with_register m (dest_of (op_now m)) place in
    if nat_eq place.0 0 then done_with m' (found_reply (op_now m) None) else referring m' m.names place

-- its store has gone on, with this log, and has ended so
abbrev pub stored : Mutating → Storing → Roomy LogEntry → Option StoreEnd → Mutating
stored m store log None = record m { log = log; phase = phase.Storing store }
stored m store log (Some store_end.Stored) = done_with (record m { log = log }) reply.Stored
stored m store log (Some (store_end.Swapped old)) = loaded (record m { log = log }) old
stored m store log (Some store_end.LogFull) = record m { log = log; phase = phase.GivingUp stop.LogFull }

-- the words of the new object up to this one are wiped
abbrev pub wiped : Mutating → Place → ℕ → Mutating
wiped m place next =
    record m { phase = if nat_lt (next + 1) (word_count (shape_now m)) then phase.Wiping place (next + 1) else phase.Heading place }

-- how a unit ends that gives up
abbrev pub end_by : Stop → MutEnd
end_by stop.NoRun = ends.NoRun
end_by stop.LogFull = ends.LogFull

-- after its next step, by its phase, where the word tells what this looks for
abbrev pub after_in : Mutating → MutatorPhase → ℕ → Mutating
after_in m phase.Ready old = if nat_eq old 1 then finished m ends.Asked else started m (op_now m)
after_in m phase.Finished old = m
after_in m (phase.Base base) old = reached m base (shape_told (header_of old))
after_in m (phase.Reference base) old = loaded m (place_in old)
after_in m (phase.Referent place) old = done_with m (found_reply (op_now m) (Some (name_told (header_of old))))
after_in m (phase.Datum base refs) old = done_with m (reply.Got old)
after_in m (phase.Putting base refs) old = done_with m reply.Put
after_in m (phase.Adding base refs) old = done_with m (reply.Added old)
after_in m (phase.Storing store) old = let store' = store_after store m.log old in stored m store' (log_after store m.log old) (end_of store')
after_in m phase.DrawsRun old = record m { phase = phase.RunNumber old }
after_in m (phase.RunNumber number) old = record m { phase = if nat_lt number old then phase.Run number else phase.DrawsBlock }
after_in m (phase.Run number) old = in_current m (shape_now m) (run_span (run_in old))
after_in m phase.DrawsBlock old = record m { phase = phase.BlockNumber old }
after_in m (phase.BlockNumber number) old = record m { phase = if nat_lt number old then phase.Block number else phase.GivingUp stop.NoRun }
after_in m (phase.Block number) old = in_block m (shape_now m) old
after_in m (phase.Wiping place next) old = wiped m place next
after_in m (phase.Heading place) old = done_with (with_register m (dest_of (op_now m)) place) (reply.New (next_name m))
after_in m phase.Asking old = done_with m (asked_reply (op_now m))
after_in m (phase.GivingUp why) old = finished m (end_by why)

-- the same, whatever the word was: one that doesn't tell what its phase looks for ends the operation as bad
abbrev pub next_in : Mutating → MutatorPhase → ℕ → Mutating
next_in m p old = if accepts_in m p old then after_in m p old else done_with m reply.Bad

-- after its next step
abbrev pub after : Mutating → ℕ → Mutating
after m old = next_in m m.phase old

-- The most steps that are left of its unit, by its phase. An object has at most 2,048 words, and each is stored to once.
abbrev pub left_in : Mutating → MutatorPhase → ℕ
left_in m phase.Ready = 2054
left_in m phase.Finished = 0
left_in m (phase.Base base) = 6
left_in m (phase.Reference base) = 2
left_in m (phase.Referent place) = 1
left_in m (phase.Datum base refs) = 1
left_in m (phase.Putting base refs) = 1
left_in m (phase.Adding base refs) = 1
left_in m (phase.Storing store) = steps_left store.phase + 1
left_in m phase.DrawsRun = 2053
left_in m (phase.RunNumber number) = 2052
left_in m (phase.Run number) = 2049
left_in m phase.DrawsBlock = 2051
left_in m (phase.BlockNumber number) = 2050
left_in m (phase.Block number) = 2049
left_in m (phase.Wiping place next) = word_count (shape_now m) - next + 1
left_in m (phase.Heading place) = 1
left_in m phase.Asking = 1
left_in m (phase.GivingUp why) = 1

-- what a mutator means: it takes no offers
abbrev pub mutator_machine : Machine Mutating
mutator_machine = record {
  action = action;
  after = after;
  rests = λ m. rests_in m.phase;
  left = λ m. left_in m m.phase;
  offered = λ m place. (m, false);
  spared = λ m. (m, None);
  ordered = ordered;
}
