-- What the words of an operation's line say: the operation, or the first fault. The number of words is looked at
-- first, and then the words from left to right.
use Rattle.std.specs.Prelude.{ℕ, List, [], ◌∷◌, nat_le, Option, Some, None, Result, Ok, Err, codes, if◌then◌else◌}
use Rattle.std.specs.Str.{bytes_eq}
use Rattle.lxr_layout.specs.declared.fields.TheConstants.{MOST_FIELDS}
use Rattle.lxr_graph.specs.declared.Op.{Op}
use Rattle.lxr_graph.specs.declared.Op.TheVariants as op
use Rattle.lxr_text_script.specs.declared.Version.{Version}
use Rattle.lxr_text_script.specs.declared.Version.TheVariants.{One, Two}
use Rattle.lxr_text_script.specs.declared.fault.ScriptFault.{ScriptFault}
use Rattle.lxr_text_script.specs.declared.fault.ScriptFault.TheVariants as fault
use Rattle.lxr_text_script.specs.Lines.{Text}
use Rattle.lxr_text_script.specs.Numbers.{number_of, register_of}

-- what is read, or the first fault
abbrev pub Read : Type 0 → Type 0
Read A = Result A ScriptFault

infixl 10 ◌>>=◌
-- first the one, and where it has no fault, then the other
abbrev pub ◌>>=◌ : {A B : Type 0} → Read A → (A → Read B) → Read B
(Ok x) >>= next = next x
(Err f) >>= next = Err f

-- the value where there is one, and else the fault
abbrev pub or_fault : {A : Type 0} → ScriptFault → Option A → Read A
or_fault f None = Err f
or_fault f (Some x) = Ok x

-- In the following, n is the number of the line.

-- a word in a number's place
abbrev pub number_at : ℕ → Text → Read ℕ
number_at n word = or_fault (fault.Number n) (number_of word)

-- a word in a register's place
abbrev pub register_at : ℕ → Text → Read ℕ
register_at n word = or_fault (fault.Register n) (register_of word)

-- how many references or data words a new object has: a number of at most 1,023
unfoldable pub size_at : ℕ → Text → Read ℕ
size_at n word = do
  size ← number_at n word
  if nat_le size MOST_FIELDS then Ok size else Err (fault.Shape n)

-- the index of a reference or a data word: a number of at most 1,023
unfoldable pub index_at : ℕ → Text → Read ℕ
index_at n word = do
  index ← number_at n word
  if nat_le index MOST_FIELDS then Ok index else Err (fault.Field n)

-- The number of words after an operation's word is its own.

-- no word
abbrev pub no_words : ℕ → List Text → Read (Unit {0})
no_words n [] = Ok tt
no_words n words = Err (fault.Operation n)

-- exactly one word
abbrev pub one_word : ℕ → List Text → Read Text
one_word n (a ∷ []) = Ok a
one_word n words = Err (fault.Operation n)

-- exactly two words
abbrev pub two_words : ℕ → List Text → Read (Text × Text)
two_words n (a ∷ b ∷ []) = Ok (a, b)
two_words n words = Err (fault.Operation n)

-- exactly three words
abbrev pub three_words : ℕ → List Text → Read (Text × Text × Text)
three_words n (a ∷ b ∷ c ∷ []) = Ok (a, b, c)
three_words n words = Err (fault.Operation n)

-- exactly four words
abbrev pub four_words : ℕ → List Text → Read (Text × Text × Text × Text)
four_words n (a ∷ b ∷ c ∷ d ∷ []) = Ok (a, b, c, d)
four_words n words = Err (fault.Operation n)

-- The operations, by the words after their own.

-- `new DEST REFS VALUES`
unfoldable pub new_of : ℕ → List Text → Read Op
new_of n words = do
  w ← three_words n words
  dest ← register_at n w.0
  refs ← size_at n w.1
  values ← size_at n w.2
  Ok (op.New dest (record { refs = refs; values = values }))

-- `load DEST BASE INDEX`
unfoldable pub load_of : ℕ → List Text → Read Op
load_of n words = do
  w ← three_words n words
  dest ← register_at n w.0
  base ← register_at n w.1
  index ← index_at n w.2
  Ok (op.Load dest base index)

-- `store BASE INDEX SOURCE`
unfoldable pub store_of : ℕ → List Text → Read Op
store_of n words = do
  w ← three_words n words
  base ← register_at n w.0
  index ← index_at n w.1
  source ← register_at n w.2
  Ok (op.Store base index source)

-- `put BASE INDEX VALUE`
unfoldable pub put_of : ℕ → List Text → Read Op
put_of n words = do
  w ← three_words n words
  base ← register_at n w.0
  index ← index_at n w.1
  value ← number_at n w.2
  Ok (op.Put base index value)

-- `get BASE INDEX`
unfoldable pub get_of : ℕ → List Text → Read Op
get_of n words = do
  w ← two_words n words
  base ← register_at n w.0
  index ← index_at n w.1
  Ok (op.Get base index)

-- `move DEST SOURCE`
unfoldable pub move_of : ℕ → List Text → Read Op
move_of n words = do
  w ← two_words n words
  dest ← register_at n w.0
  source ← register_at n w.1
  Ok (op.Move dest source)

-- `nil DEST`
unfoldable pub nil_of : ℕ → List Text → Read Op
nil_of n words = do
  w ← one_word n words
  dest ← register_at n w
  Ok (op.Nil dest)

-- `same LEFT RIGHT`
unfoldable pub same_of : ℕ → List Text → Read Op
same_of n words = do
  w ← two_words n words
  left ← register_at n w.0
  right ← register_at n w.1
  Ok (op.Same left right)

-- `swap DEST BASE INDEX SOURCE`
unfoldable pub swap_of : ℕ → List Text → Read Op
swap_of n words = do
  w ← four_words n words
  dest ← register_at n w.0
  base ← register_at n w.1
  index ← index_at n w.2
  source ← register_at n w.3
  Ok (op.Swap dest base index source)

-- `add BASE INDEX VALUE`
unfoldable pub add_of : ℕ → List Text → Read Op
add_of n words = do
  w ← three_words n words
  base ← register_at n w.0
  index ← index_at n w.1
  value ← number_at n w.2
  Ok (op.Add base index value)

-- `pause` and `collect`
unfoldable pub alone : Op → ℕ → List Text → Read Op
alone o n words = do
  none ← no_words n words
  Ok o

-- an operation that each version has, by its word and those after it
unfoldable pub first_of : ℕ → Text → List Text → Read Op
first_of n word words =
    if bytes_eq word (codes "new") then new_of n words
    else if bytes_eq word (codes "load") then load_of n words
    else if bytes_eq word (codes "store") then store_of n words
    else if bytes_eq word (codes "put") then put_of n words
    else if bytes_eq word (codes "get") then get_of n words
    else if bytes_eq word (codes "move") then move_of n words
    else if bytes_eq word (codes "nil") then nil_of n words
    else if bytes_eq word (codes "same") then same_of n words
    else if bytes_eq word (codes "pause") then alone op.Pause n words
    else if bytes_eq word (codes "collect") then alone op.Collect n words
    else Err (fault.Operation n)

-- an operation of version 2, which has two more
unfoldable pub second_of : ℕ → Text → List Text → Read Op
second_of n word words =
    if bytes_eq word (codes "swap") then swap_of n words
    else if bytes_eq word (codes "add") then add_of n words
    else first_of n word words

-- the operation of a line by its words, in a script of a version
unfoldable pub operation_of : Version → ℕ → List Text → Read Op
operation_of version n [] = Err (fault.Operation n)
operation_of One n (word ∷ words) = first_of n word words
operation_of Two n (word ∷ words) = second_of n word words
