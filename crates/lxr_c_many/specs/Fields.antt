-- The fields of an object in a row that a call means, and the operations that it does with them.
use Rattle.std.specs.Prelude.{ℕ, ◌+◌, ◌-◌, ◌==◌, ◌&&◌, nat_le, nat_lt, not, if◌then◌else◌, Option, None, Some, Result, Ok, Err, Bool, List, [], length, option_map, slice_index_or, take, unwrap_or}
use Rattle.std.specs.List.{list_all}
use Rattle.lxr_layout.specs.declared.Name.{Name}
use Rattle.lxr_graph.specs.declared.Op.TheVariants as op
use Rattle.lxr_graph.specs.declared.Reply.TheVariants as reply
use Rattle.lxr_graph.specs.State.{object_at, refs_of, register_at, values_of}
use Rattle.lxr_direct.specs.declared.known.HeldObject.{HeldObject}
use Rattle.lxr_large_model.specs.declared.LargeOp.TheVariants as large_op
use Rattle.lxr_large_model.specs.declared.LargeReply.TheVariants as large_reply
use Rattle.lxr_large_model.specs.History.{LargeItem, Called}
use Rattle.lxr_large_model.specs.State.{LargeState}
use Rattle.lxr_heap.specs.declared.bulk.BodyReply.{BodyReply}
use Rattle.lxr_heap.specs.declared.bulk.BodyReply.TheVariants as body_reply
use Rattle.lxr_c_base.specs.declared.codes.Code.{Code}
use Rattle.lxr_c_base.specs.declared.codes.Code.TheVariants as code
use Rattle.lxr_c_base.specs.Requests.{register_of}

-- ---- fields of an object

-- the data words of the object that a register holds; none where it is nil
abbrev pub words_in : LargeState → ℕ → Option (List ℕ)
words_in s base = option_map (λ n. values_of (object_at s.small.graph n)) (register_at s.small 1 base)

-- the references of the object that a register holds; none where it is nil
abbrev pub references_in : LargeState → ℕ → Option (List (Option Name))
references_in s base = option_map (λ n. refs_of (object_at s.small.graph n)) (register_at s.small 1 base)

-- what so many fields from an index on come to, of an object with so many: all are there, or not all
abbrev pub within : ℕ → ℕ → ℕ → BodyReply
within fields first count = if nat_le (first + count) fields then body_reply.Done else body_reply.Range

-- what a call comes to that means so many fields from an index on: all are there, or not all, or there is no object
abbrev pub comes_to : {A : Type 0} → Option (List A) → ℕ → ℕ → BodyReply
comes_to None first count = body_reply.Bad
comes_to (Some fields) first count = within (length fields) first count

-- what it is replied that an object was looked up with all of them, or that it wasn't
abbrev pub found_reply : Result HeldObject BodyReply → BodyReply
found_reply (Ok object) = body_reply.Done
found_reply (Err refused) = refused

-- data word i of the object that a register holds
abbrev pub word_at : LargeState → ℕ → ℕ → ℕ
word_at s base i = slice_index_or (unwrap_or (words_in s base) []) i 0

-- what reference i of the object that a register holds refers to
abbrev pub reference_at : LargeState → ℕ → ℕ → Option Name
reference_at s base i = slice_index_or (unwrap_or (references_in s base) []) i None

-- ---- what is done with each field

-- data word i of what a register holds becomes this word
abbrev pub put_of : ℕ → ℕ → ℕ → LargeItem
put_of base i word = Called (large_op.Small (op.Put base i word)) (large_reply.Small reply.Put)

-- reference i of what a register holds becomes what another holds
abbrev pub store_of : ℕ → ℕ → ℕ → LargeItem
store_of base i source = Called (large_op.Small (op.Store base i source)) (large_reply.Small reply.Stored)

-- a register gets what reference i of the object refers to that another holds
abbrev pub load_of : LargeState → ℕ → ℕ → ℕ → LargeItem
load_of s base i dest = Called (large_op.Small (op.Load dest base i)) (large_reply.Small (reply.Loaded (reference_at s base i)))

-- ---- registers

-- these numbers are those of registers, where there are so many
abbrev pub are_registers : ℕ → List ℕ → Bool
are_registers registers rs = list_all (λ r. nat_lt r registers) rs

-- the register that stores go to, where those that they are from are registers too
abbrev pub base_of_stores : ℕ → ℕ → List ℕ → Result ℕ Code
base_of_stores registers base sources = if are_registers registers sources then register_of registers base else Err code.Register

-- none of these but the last is the base: else the loads behind it would be from another object
abbrev pub leave_base : ℕ → List ℕ → Bool
leave_base base targets = list_all (λ r. not (r == base)) (take (length targets - 1) targets)

-- the register that loads are from, where those that they go to are registers too, and leave it what it holds to the end
abbrev pub base_of_loads : ℕ → ℕ → List ℕ → Result ℕ Code
base_of_loads registers base targets = if are_registers registers targets && leave_base base targets then register_of registers base else Err code.Register
