-- What calls answer.
use Rattle.std.specs.Prelude.{ℕ, Bool, if◌then◌else◌, Option, None, Some, Result, Ok, Err}
use Rattle.lxr_graph.specs.declared.Reply.TheVariants as reply
use Rattle.lxr_large_model.specs.declared.LargeReply.{LargeReply}
use Rattle.lxr_large_model.specs.declared.LargeReply.TheVariants as large_reply
use Rattle.lxr_c_base.specs.declared.codes.Code.{Code}
use Rattle.lxr_c_base.specs.declared.codes.Code.TheVariants as code

-- the number of a code, as the header has it
abbrev pub number_of : Code → ℕ
number_of code.Done = 0
number_of code.NoHeap = 1
number_of code.InUse = 2
number_of code.Register = 3
number_of code.Size = 4
number_of code.Nil = 5
number_of code.Index = 6
number_of code.Full = 7
number_of code.Memory = 8
number_of code.What = 9
number_of code.Number = 10
number_of code.UsedUp = 13
number_of code.Lost = 14
number_of code.Waits = 15
number_of code.Held = 16
number_of code.Busy = 17
number_of code.Away = 18
number_of code.Home = 19
number_of code.Kind = 20
number_of code.Epoch = 21
number_of code.NotWanted = 22
number_of code.Nothing = 23
number_of code.Ended = 24

-- the code of a reply: an operation was done, but where the reply is one of these
abbrev pub code_of : LargeReply → Code
code_of (large_reply.Small reply.Bad) = code.Nil
code_of (large_reply.Small reply.Range) = code.Index
code_of (large_reply.Small reply.Full) = code.Full
code_of large_reply.Bad = code.Nil
code_of large_reply.Range = code.Index
code_of large_reply.Full = code.Full
code_of r = code.Done

-- what a call is answered: the reply of its operation, or a code where it comes to none
abbrev pub Answer : Type 0
Answer = Result LargeReply Code

-- the number that the program gets for it
abbrev pub answered : Answer → ℕ
answered (Ok r) = number_of (code_of r)
answered (Err e) = number_of e

-- ---- what the program gets

-- a test as a number of the program's
abbrev pub flag : Bool → ℕ
flag b = if b then 1 else 0

-- the code of what was answered
abbrev pub code_in : {T : Type 0} → Result T Code → Code
code_in (Ok seen) = code.Done
code_in (Err e) = e

-- a number that was told, if one was
abbrev pub told : {T : Type 0} → (T → ℕ) → Result T Code → Option ℕ
told number (Ok seen) = Some (number seen)
told number (Err e) = None

-- what stands in a place of the program's, where something may have been written over what was there
abbrev pub written_over : ℕ → Option ℕ → ℕ
written_over old None = old
written_over old (Some v) = v
