-- The one canonical spelling of a script: the first version that has all its operations, a line for each item with one
-- space between its words, numbers without leading zeros, and a line feed at the end of each line.
use Rattle.std.specs.Prelude.{ℕ, ◌+◌, List, [], ◌∷◌, ◌++◌, length, codes}
use Rattle.std.specs.Fmt.{decimal}
use Rattle.lxr_graph.specs.declared.Op.{Op}
use Rattle.lxr_graph.specs.declared.Op.TheVariants as op
use Rattle.lxr_text_script.specs.declared.Version.{Version}
use Rattle.lxr_text_script.specs.declared.Version.TheVariants.{One, Two}
use Rattle.lxr_text_script.specs.Grammar.{version_word}
use Rattle.lxr_text_script.specs.Lines.{Text}

-- words with one space between them
abbrev pub joined : List Text → Text
joined [] = []
joined (word ∷ []) = word
joined (word ∷ next ∷ words) = word ++ 32 ∷ joined (next ∷ words)

-- lines of words as a text
abbrev pub text_of : List (List Text) → Text
text_of [] = []
text_of (words ∷ lines) = joined words ++ 10 ∷ text_of lines

-- `r` and the register's number
abbrev pub register : ℕ → Text
register r = 114 ∷ decimal r

-- the words of an operation; the end of a thread is no operation of a script and has none
unfoldable pub operation_words : Op → List Text
operation_words (op.New dest shape) = codes "new" ∷ register dest ∷ decimal shape.refs ∷ decimal shape.values ∷ []
operation_words (op.Load dest base index) = codes "load" ∷ register dest ∷ register base ∷ decimal index ∷ []
operation_words (op.Store base index source) = codes "store" ∷ register base ∷ decimal index ∷ register source ∷ []
operation_words (op.Put base index value) = codes "put" ∷ register base ∷ decimal index ∷ decimal value ∷ []
operation_words (op.Get base index) = codes "get" ∷ register base ∷ decimal index ∷ []
operation_words (op.Swap dest base index source) = codes "swap" ∷ register dest ∷ register base ∷ decimal index ∷ register source ∷ []
operation_words (op.Add base index value) = codes "add" ∷ register base ∷ decimal index ∷ decimal value ∷ []
operation_words (op.Move dest source) = codes "move" ∷ register dest ∷ register source ∷ []
operation_words (op.Nil dest) = codes "nil" ∷ register dest ∷ []
operation_words (op.Same left right) = codes "same" ∷ register left ∷ register right ∷ []
operation_words op.Pause = codes "pause" ∷ []
operation_words op.Collect = codes "collect" ∷ []
operation_words op.End = []

-- the lines of operations and their `end`, before the lines that follow
abbrev pub operations_before : List Op → List (List Text) → List (List Text)
operations_before [] lines = (codes "end" ∷ []) ∷ lines
operations_before (o ∷ operations) lines = operation_words o ∷ operations_before operations lines

-- the lines of threads, the first of which is thread t
abbrev pub thread_lines : ℕ → List (List Op) → List (List Text)
thread_lines t [] = []
thread_lines t (operations ∷ threads) = (codes "thread" ∷ decimal t ∷ []) ∷ operations_before operations (thread_lines (t + 1) threads)

-- the first version that has an operation
abbrev pub operation_version : Op → Version
operation_version (op.New dest shape) = One
operation_version (op.Load dest base index) = One
operation_version (op.Store base index source) = One
operation_version (op.Put base index value) = One
operation_version (op.Get base index) = One
operation_version (op.Swap dest base index source) = Two
operation_version (op.Add base index value) = Two
operation_version (op.Move dest source) = One
operation_version (op.Nil dest) = One
operation_version (op.Same left right) = One
operation_version op.Pause = One
operation_version op.Collect = One
operation_version op.End = One

-- the later of two versions
abbrev pub later : Version → Version → Version
later One other = other
later Two other = Two

-- the first version that has all operations of a thread
abbrev pub thread_version : List Op → Version
thread_version [] = One
thread_version (o ∷ operations) = later (operation_version o) (thread_version operations)

-- the first version that has all operations of a script
abbrev pub script_version : List (List Op) → Version
script_version [] = One
script_version (operations ∷ threads) = later (thread_version operations) (script_version threads)

-- the lines of a script
abbrev pub script_lines : List (List Op) → List (List Text)
script_lines threads = (codes "lxr" ∷ version_word (script_version threads) ∷ []) ∷ (codes "threads" ∷ decimal (length threads) ∷ []) ∷ thread_lines 1 threads

-- the text of a script
unfoldable pub spelling_of : List (List Op) → Text
spelling_of threads = text_of (script_lines threads)
