-- The limits of a script: what its operations and threads may be.
use Rattle.std.specs.Prelude.{ℕ, ◌^◌, ◌<◌, ◌≤◌, List, length, All}
use Rattle.lxr_graph.specs.declared.Op.{Op}
use Rattle.lxr_graph.specs.declared.Op.TheVariants as op
use Rattle.lxr_graph.specs.Step.{IsFormedFor}
use Rattle.lxr_text_script.specs.declared.TheConstants.{SCRIPT_REGISTERS}

-- a script has at most so many bytes
abbrev pub most_bytes : ℕ
most_bytes = 67108864

-- a thread has at most so many operations
abbrev pub most_operations : ℕ
most_operations = 1048576

-- indices are at most 1,023 and values below 2^64; the end of a thread is no operation of a script
abbrev pub IsWritten : Op → Type 0
IsWritten (op.New dest shape) = Unit {0}
IsWritten (op.Load dest base index) = index ≤ 1023
IsWritten (op.Store base index source) = index ≤ 1023
IsWritten (op.Put base index value) = (index ≤ 1023) × (value < 2 ^ 64)
IsWritten (op.Get base index) = index ≤ 1023
IsWritten (op.Swap dest base index source) = index ≤ 1023
IsWritten (op.Add base index value) = (index ≤ 1023) × (value < 2 ^ 64)
IsWritten (op.Move dest source) = Unit {0}
IsWritten (op.Nil dest) = Unit {0}
IsWritten (op.Same left right) = Unit {0}
IsWritten op.Pause = Unit {0}
IsWritten op.Collect = Unit {0}
IsWritten op.End = ⊥

-- an operation of a script: its registers are those of scripts, its shape fits, and its numbers are in range
pub record IsOperation (o : Op) : Type 0 where
  pub well_formed : IsFormedFor SCRIPT_REGISTERS o
  pub written : IsWritten o

-- what a thread does
pub record IsThread (operations : List Op) : Type 0 where
  pub count : length operations ≤ most_operations
  pub each : All IsOperation operations

-- a script has 1 to 16 threads
pub record IsScript (threads : List (List Op)) : Type 0 where
  pub least : 1 ≤ length threads
  pub greatest : length threads ≤ 16
  pub each : All IsThread threads
