-- What the bytes of a script with large objects say: its operations, or the first fault with its line.
--
--     script = `lxr large 1`, operations, `end`
--
-- Each of these stands on a line of its own, and nothing comes after the last.
use Rattle.std.specs.Prelude.{ℕ, ◌+◌, nat_lt, nat_le, List, [], ◌∷◌, length, Ok, Err, codes, if◌then◌else◌}
use Rattle.lxr_text_script.specs.declared.fault.ScriptFault.TheVariants as fault
use Rattle.lxr_text_script.specs.Lines.{Text, Line, items_from, end_from}
use Rattle.lxr_text_script.specs.Limits.{most_bytes, most_operations}
use Rattle.lxr_text_script.specs.Operations.{Read, ◌>>=◌}
use Rattle.lxr_text_script.specs.Reading.{are, nothing_after}
use Rattle.lxr_large_model.specs.declared.LargeOp.{LargeOp}
use Rattle.lxr_large_text.specs.Operations.{large_operation_of}

-- In the following, end is the number after that of the last line. An item's reading gives what it says and the lines after it.

-- the line `lxr large 1`
unfoldable pub large_header_of : ℕ → List Line → Read (List Line)
large_header_of end [] = Err (fault.Header end)
large_header_of end (line ∷ others) =
    if are line.words (codes "lxr" ∷ codes "large" ∷ codes "1" ∷ []) then Ok others else Err (fault.Header line.number)

-- the operation of a line, where so many stand before it
unfoldable pub next_operation : ℕ → Line → Read LargeOp
next_operation before line = do
  o ← large_operation_of line.number line.words
  if nat_lt before most_operations then Ok o else Err (fault.TooManyOperations line.number)

-- the operations up to `end`, where so many stand before them
unfoldable pub operations_of : ℕ → ℕ → List Line → Read (List LargeOp × List Line)
operations_of end before [] = Err (fault.NoEnd end)
operations_of end before (line ∷ others) =
    if are line.words (codes "end" ∷ []) then Ok ([], others)
    else do
      o ← next_operation before line
      more ← operations_of end (before + 1) others
      Ok (o ∷ more.0, more.1)

-- the operations by the lines that aren't skipped
unfoldable pub large_script_of : ℕ → List Line → Read (List LargeOp)
large_script_of end items = do
  first ← large_header_of end items
  operations ← operations_of end 0 first
  none ← nothing_after operations.1
  Ok operations.0

-- the operations by the bytes, of which there aren't too many
unfoldable pub large_reading_of : Text → Read (List LargeOp)
large_reading_of bytes =
    if nat_le (length bytes) most_bytes then large_script_of (end_from 1 bytes) (items_from 1 bytes)
    else Err fault.TooLong
