-- What the words of an operation's line say in a script with large objects: the operation, or the first fault. The number of words is
-- looked at first, and then the words from left to right.
use Rattle.std.specs.Prelude.{ℕ, ◌&&◌, List, [], ◌∷◌, nat_le, Ok, Err, codes, if◌then◌else◌}
use Rattle.std.specs.Str.{bytes_eq}
use Rattle.lxr_text_script.specs.declared.fault.ScriptFault.TheVariants as fault
use Rattle.lxr_text_script.specs.declared.Version.TheVariants.{One}
use Rattle.lxr_text_script.specs.Lines.{Text}
use Rattle.lxr_text_script.specs.Operations.{Read, ◌>>=◌, number_at, register_at, two_words, three_words, operation_of}
use Rattle.lxr_large_model.specs.declared.TheConstants.{MOST_BODY_BLOCKS, MOST_BODY_INDEX}
use Rattle.lxr_large_model.specs.declared.LargeOp.{LargeOp}
use Rattle.lxr_large_model.specs.declared.LargeOp.TheVariants as op

-- In the following, n is the number of the line.

-- how many blocks a body has: a number of 1 to 128
unfoldable pub blocks_at : ℕ → Text → Read ℕ
blocks_at n word = do
  blocks ← number_at n word
  if nat_le 1 blocks && nat_le blocks MOST_BODY_BLOCKS then Ok blocks else Err (fault.Shape n)

-- the index of a word of a body: a number of at most 524,287
unfoldable pub body_index_at : ℕ → Text → Read ℕ
body_index_at n word = do
  index ← number_at n word
  if nat_le index MOST_BODY_INDEX then Ok index else Err (fault.Field n)

-- `big DEST BLOCKS`, by the words after its own
unfoldable pub big_of : ℕ → List Text → Read LargeOp
big_of n words = do
  w ← two_words n words
  dest ← register_at n w.0
  blocks ← blocks_at n w.1
  Ok (op.Big dest blocks)

-- `bput BASE INDEX VALUE`
unfoldable pub put_of : ℕ → List Text → Read LargeOp
put_of n words = do
  w ← three_words n words
  base ← register_at n w.0
  index ← body_index_at n w.1
  value ← number_at n w.2
  Ok (op.BigPut base index value)

-- `bget BASE INDEX`
unfoldable pub get_of : ℕ → List Text → Read LargeOp
get_of n words = do
  w ← two_words n words
  base ← register_at n w.0
  index ← body_index_at n w.1
  Ok (op.BigGet base index)

-- an operation that a script of the first version has, by all words of its line
unfoldable pub small_of : ℕ → List Text → Read LargeOp
small_of n words = do
  o ← operation_of One n words
  Ok (op.Small o)

-- the operation of a line by its words
unfoldable pub large_operation_of : ℕ → List Text → Read LargeOp
large_operation_of n [] = Err (fault.Operation n)
large_operation_of n (word ∷ words) =
    if bytes_eq word (codes "big") then big_of n words
    else if bytes_eq word (codes "bput") then put_of n words
    else if bytes_eq word (codes "bget") then get_of n words
    else small_of n (word ∷ words)
