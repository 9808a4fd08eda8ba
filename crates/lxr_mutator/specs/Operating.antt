-- What the parts of an operation are: each reading is of any operation, and gives 0 where it has no such part.
use Rattle.std.specs.Prelude.{ℕ, Option}
use Rattle.lxr_layout.specs.declared.Name.{Name}
use Rattle.lxr_layout.specs.declared.Shape.{Shape}
use Rattle.lxr_graph.specs.declared.Op.{Op}
use Rattle.lxr_graph.specs.declared.Op.TheVariants as op
use Rattle.lxr_graph.specs.declared.Reply.{Reply}
use Rattle.lxr_graph.specs.declared.Reply.TheVariants as reply

-- the register that gets what is made, loaded or swapped out
abbrev pub dest_of : Op → ℕ
dest_of (op.New dest shape) = dest
dest_of (op.Load dest base index) = dest
dest_of (op.Swap dest base index source) = dest
dest_of o = 0

-- the reference or data word of the base
abbrev pub index_of : Op → ℕ
index_of (op.Load dest base index) = index
index_of (op.Store base index source) = index
index_of (op.Put base index value) = index
index_of (op.Get base index) = index
index_of (op.Swap dest base index source) = index
index_of (op.Add base index value) = index
index_of o = 0

-- what `put` stores or `add` adds
abbrev pub value_of : Op → ℕ
value_of (op.Put base index value) = value
value_of (op.Add base index value) = value
value_of o = 0

-- the shape of what `new` makes
abbrev pub shape_made : Op → Shape
shape_made (op.New dest shape) = shape
shape_made o = record { refs = 0; values = 0 }

-- how many fields a base of this shape has of the kind that the operation indexes: references for `load`, `store` and `swap`, data words for
-- `put`, `get` and `add`
abbrev pub indexed_fields : Op → Shape → ℕ
indexed_fields (op.Load dest base index) shape = shape.refs
indexed_fields (op.Store base index source) shape = shape.refs
indexed_fields (op.Put base index value) shape = shape.values
indexed_fields (op.Get base index) shape = shape.values
indexed_fields (op.Swap dest base index source) shape = shape.refs
indexed_fields (op.Add base index value) shape = shape.values
indexed_fields o shape = 0

-- the reply that tells which object a `load` or a `swap` has found in its field, or none
abbrev pub found_reply : Op → Option Name → Reply
found_reply (op.Swap dest base index source) found = reply.Swapped found
found_reply o found = reply.Loaded found

-- the reply to `pause` and `collect`
abbrev pub asked_reply : Op → Reply
asked_reply op.Collect = reply.Collected
asked_reply o = reply.Paused
