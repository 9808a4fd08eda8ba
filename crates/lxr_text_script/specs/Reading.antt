-- What the bytes of a script say: the operations of its threads, or the first fault with its line.
--
--     script   = `lxr 1` or `lxr 2`, `threads N`, thread 1 .. thread N
--     thread t = `thread t`, operations, `end`
--
-- Each of these stands on a line of its own, and nothing comes after the last.
use Rattle.std.specs.Prelude.{◌≡◌, ℕ, zero, suc, ◌+◌, Bool, false, ◌&&◌, ◌==◌, nat_lt, nat_le, List, [], ◌∷◌, length, map, Option, Some, None, Ok, Err, Result, codes, if◌then◌else◌}
use Rattle.std.specs.Option.{option_map_or}
use Rattle.std.specs.Cmp.Lexicographic.{pointwise}
use Rattle.std.specs.Str.{bytes_eq}
use Rattle.lxr_base.specs.Roomy.{Roomy}
use Rattle.lxr_graph.specs.declared.Op.{Op}
use Rattle.lxr_text_script.specs.declared.Version.{Version}
use Rattle.lxr_text_script.specs.declared.Version.TheVariants.{One, Two}
use Rattle.lxr_text_script.specs.declared.fault.ScriptFault.TheVariants as fault
use Rattle.lxr_text_script.specs.declared.fault.ScriptError.{ScriptError}
use Rattle.lxr_text_script.specs.declared.fault.ScriptError.TheVariants as error
use Rattle.lxr_text_script.specs.declared.Script.{Script}
use Rattle.lxr_text_script.specs.Lines.{Text, Line, items_from, end_from}
use Rattle.lxr_text_script.specs.Limits.{most_bytes, most_operations}
use Rattle.lxr_text_script.specs.Numbers.{number_of}
use Rattle.lxr_text_script.specs.Operations.{Read, ◌>>=◌, or_fault, operation_of}

-- these very words
abbrev pub are : List Text → List Text → Bool
are = pointwise bytes_eq

-- the number of a line that consists of the given word and a number
unfoldable pub number_after : Text → List Text → Option ℕ
number_after name (word ∷ digits ∷ []) = if bytes_eq word name then number_of digits else None
number_after name words = None

-- In the following, end is the number after that of the last line. An item's reading gives what it says and the lines
-- after it.

-- the version that a word names
abbrev pub version_of : Text → Option Version
version_of word = if bytes_eq word (codes "1") then Some One else if bytes_eq word (codes "2") then Some Two else None

-- the version of a line that consists of `lxr` and its number
unfoldable pub header_version : List Text → Option Version
header_version (word ∷ version ∷ []) = if bytes_eq word (codes "lxr") then version_of version else None
header_version words = None

-- the line `lxr 1` or `lxr 2`
unfoldable pub header_of : ℕ → List Line → Read (Version × List Line)
header_of end [] = Err (fault.Header end)
header_of end (line ∷ others) = do
  version ← or_fault (fault.Header line.number) (header_version line.words)
  Ok (version, others)

-- a number of 1 to 16
abbrev pub thread_count : Option ℕ → Option ℕ
thread_count None = None
thread_count (Some n) = if nat_le 1 n && nat_le n 16 then Some n else None

-- the line `threads N`, with N of 1 to 16
unfoldable pub threads_of : ℕ → List Line → Read (ℕ × List Line)
threads_of end [] = Err (fault.Threads end)
threads_of end (line ∷ others) = do
  n ← or_fault (fault.Threads line.number) (thread_count (number_after (codes "threads") line.words))
  Ok (n, others)

-- these words are `thread` and the number t
abbrev pub is_opening : ℕ → List Text → Bool
is_opening t words = option_map_or (λ n. n == t) (number_after (codes "thread") words) false

-- the line `thread t`
unfoldable pub opening_of : ℕ → ℕ → List Line → Read (List Line)
opening_of end t [] = Err (fault.NoEnd end)
opening_of end t (line ∷ others) =
    if is_opening t line.words then Ok others else Err (fault.Threads line.number)

-- the operation of a line, where so many of its thread stand before it
unfoldable pub next_operation : Version → ℕ → Line → Read Op
next_operation version before line = do
  o ← operation_of version line.number line.words
  if nat_lt before most_operations then Ok o else Err (fault.TooManyOperations line.number)

-- the operations of a thread up to its `end`, where so many of its operations stand before them
unfoldable pub operations_of : Version → ℕ → ℕ → List Line → Read (List Op × List Line)
operations_of version end before [] = Err (fault.NoEnd end)
operations_of version end before (line ∷ others) =
    if are line.words (codes "end" ∷ []) then Ok ([], others)
    else do
      o ← next_operation version before line
      more ← operations_of version end (before + 1) others
      Ok (o ∷ more.0, more.1)

-- so many threads, the first of which is thread t
unfoldable pub bodies_of : Version → ℕ → ℕ → ℕ → List Line → Read (List (List Op) × List Line)
bodies_of version end zero t items = Ok ([], items)
bodies_of version end (suc count) t items = do
  body ← opening_of end t items
  thread ← operations_of version end 0 body
  more ← bodies_of version end count (t + 1) thread.1
  Ok (thread.0 ∷ more.0, more.1)

-- nothing comes after the last `end`
abbrev pub nothing_after : List Line → Read (Unit {0})
nothing_after [] = Ok tt
nothing_after (line ∷ others) = Err (fault.AfterEnd line.number)

-- the operations of the threads by the lines that aren't skipped
unfoldable pub script_of : ℕ → List Line → Read (List (List Op))
script_of end items = do
  first ← header_of end items
  threads ← threads_of end first.1
  bodies ← bodies_of first.0 end threads.0 1 threads.1
  none ← nothing_after bodies.1
  Ok bodies.0

-- the operations of the threads by the bytes, of which there aren't too many
unfoldable pub reading_of : Text → Read (List (List Op))
reading_of bytes =
    if nat_le (length bytes) most_bytes then script_of (end_from 1 bytes) (items_from 1 bytes)
    else Err fault.TooLong

-- the operations in lists of them, whatever their room
abbrev pub lists_in : Roomy (Roomy Op) → List (List Op)
lists_in lists = map (λ operations. operations.items) lists.items

-- the operations of a script's threads
abbrev pub threads_in : Script → List (List Op)
threads_in script = lists_in script.operations

-- a refusal is the fault that is read; want of memory is free
abbrev pub Fails : {Y : Type 0} → ScriptError → Read Y → Type 0
Fails (error.Fault f) read = read ≡ Err f
Fails error.Memory read = Unit {0}

-- the answer, seen by view, is what is read, unless memory runs out
abbrev pub Gives : {X Y : Type 0} → (X → Y) → Result X ScriptError → Read Y → Type 0
Gives view (Ok x) read = read ≡ Ok (view x)
Gives view (Err e) read = Fails e read
