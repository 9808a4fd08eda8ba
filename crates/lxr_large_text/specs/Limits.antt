-- The limits of a script with large objects.
use Rattle.std.specs.Prelude.{◌≡◌, ◌^◌, ◌<◌, ◌≤◌, List, length, All}
use Rattle.lxr_text_script.specs.declared.TheConstants.{SCRIPT_REGISTERS}
use Rattle.lxr_text_script.specs.declared.Version.TheVariants.{One}
use Rattle.lxr_text_script.specs.Spelling.{operation_version}
use Rattle.lxr_text_script.specs.Limits.{IsWritten, most_operations}
use Rattle.lxr_large_model.specs.declared.TheConstants.{MOST_BODY_INDEX}
use Rattle.lxr_large_model.specs.declared.LargeOp.{LargeOp}
use Rattle.lxr_large_model.specs.declared.LargeOp.TheVariants as op
use Rattle.lxr_large_model.specs.Step.{IsLargeOpFor}

-- indices are at most those that there are, and values below 2^64; the end of the thread is no operation of a script
abbrev pub IsLargeWritten : LargeOp → Type 0
IsLargeWritten (op.Small o) = IsWritten o
IsLargeWritten (op.Big dest blocks) = Unit {0}
IsLargeWritten (op.BigPut base index value) = (index ≤ MOST_BODY_INDEX) × (value < 2 ^ 64)
IsLargeWritten (op.BigGet base index) = index ≤ MOST_BODY_INDEX

-- an operation on the object graph is one of the first version of scripts, which has neither `swap` nor `add`
abbrev pub IsOfFirst : LargeOp → Type 0
IsOfFirst (op.Small o) = operation_version o ≡ One
IsOfFirst o = Unit {0}

-- an operation of a script: its registers are those of scripts, its shape and its body fit, and its numbers are in range
pub record IsLargeOperation (o : LargeOp) : Type 0 where
  pub well_formed : IsLargeOpFor SCRIPT_REGISTERS o
  pub written : IsLargeWritten o
  pub first : IsOfFirst o

-- so many operations at most, and each of them is one of a script
pub record IsLargeScript (operations : List LargeOp) : Type 0 where
  pub count : length operations ≤ most_operations
  pub each : All IsLargeOperation operations
