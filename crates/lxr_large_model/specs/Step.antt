-- One step of a heap with large objects: what an operation of its one thread does, and its reply.
use Rattle.std.specs.Prelude.{◌≡◌, ℕ, ◌<◌, ◌≤◌, Option, Some, None, List, [], ◌∷◌, ◌++◌, slice_get, slice_set}
use Rattle.lxr_layout.specs.declared.Name.{Name}
use Rattle.lxr_graph.specs.declared.Op.TheVariants as op
use Rattle.lxr_graph.specs.declared.Reply.{Reply}
use Rattle.lxr_graph.specs.declared.Reply.TheVariants as reply
use Rattle.lxr_graph.specs.State.{State, next_name, register_at}
use Rattle.lxr_graph.specs.Step.{IsFormedFor, fresh, make, step}
use Rattle.lxr_large_model.specs.declared.TheConstants.{MOST_BODY_BLOCKS}
use Rattle.lxr_large_model.specs.declared.LargeOp.{LargeOp}
use Rattle.lxr_large_model.specs.declared.LargeOp.TheVariants as large_op
use Rattle.lxr_large_model.specs.declared.LargeReply.{LargeReply}
use Rattle.lxr_large_model.specs.declared.LargeReply.TheVariants as large_reply
use Rattle.lxr_large_model.specs.State.{LargeState, body_of, fresh_body, handle, with_body}

-- an operation on the object graph, with its reply
abbrev pub small_step : LargeState → State × Reply → LargeState × LargeReply
small_step s stepped = (record s { small = stepped.0 }, large_reply.Small stepped.1)

-- A successful `big`: its handle joins the graph under name n, the register holds it, and n has a body of zeros.
abbrev pub make_large : LargeState → ℕ → ℕ → Name → LargeState × LargeReply
make_large s dest blocks n = (
  record {
    small = (make s.small 1 dest (fresh handle) n).0;
    large = s.large ++ record { name = n; words = fresh_body blocks } ∷ [];
  },
  large_reply.Big n,
)

-- `bput` to a base that isn't nil, by the word that was found at its index
abbrev pub put_at : LargeState → Name → ℕ → ℕ → Option ℕ → LargeState × LargeReply
put_at s n i value None = (s, large_reply.Range)
put_at s n i value (Some old) = (record s { large = with_body s.large n (λ words. slice_set words i value) }, large_reply.Put)

-- a word of the body of a name, where it has one
abbrev pub word_in : Option (List ℕ) → ℕ → Option ℕ
word_in None i = None
word_in (Some words) i = slice_get words i

-- `bput` by what the base register holds
abbrev pub put_to : LargeState → ℕ → ℕ → Option Name → LargeState × LargeReply
put_to s i value None = (s, large_reply.Bad)
put_to s i value (Some n) = put_at s n i value (word_in (body_of s.large n) i)

-- the reply of `bget` by the word that was found
abbrev pub got : Option ℕ → LargeReply
got None = large_reply.Range
got (Some v) = large_reply.Got v

-- the reply of `bget` by what the base register holds
abbrev pub get_from : LargeState → ℕ → Option Name → LargeReply
get_from s i None = large_reply.Bad
get_from s i (Some n) = got (word_in (body_of s.large n) i)

-- what an operation does to a state, and its reply, where a `new` or a `big` finds room
abbrev pub large_step : LargeState → LargeOp → LargeState × LargeReply
large_step s (large_op.Small o) = small_step s (step s.small 1 o)
large_step s (large_op.Big dest blocks) = make_large s dest blocks (next_name s.small.graph 1)
large_step s (large_op.BigPut base index value) = put_to s index value (register_at s.small 1 base)
large_step s (large_op.BigGet base index) = (s, get_from s index (register_at s.small 1 base))

-- an operation for a thread that may name so many registers: it names the first of them alone, its shape fits, and its body has 1 to 128 blocks
abbrev pub IsLargeOpFor : ℕ → LargeOp → Type 0
IsLargeOpFor n (large_op.Small o) = IsFormedFor n o
IsLargeOpFor n (large_op.Big dest blocks) = (dest < n) × (1 ≤ blocks) × (blocks ≤ MOST_BODY_BLOCKS)
IsLargeOpFor n (large_op.BigPut base index value) = base < n
IsLargeOpFor n (large_op.BigGet base index) = base < n

-- the state after a call with this reply: a `new` or a `big` that replied `full` changed nothing
abbrev pub large_after : LargeState → LargeOp → LargeReply → LargeState
large_after s (large_op.Small (op.New dest shape)) (large_reply.Small reply.Full) = s
large_after s (large_op.Big dest blocks) large_reply.Full = s
large_after s o r = (large_step s o).0

-- the reply is that of a step; `full` is no reply of a step
abbrev pub IsLargeReply : LargeState → LargeOp → LargeReply → Type 0
IsLargeReply s o r = (large_step s o).1 ≡ r
