-- The grammar of scripts, as relations between words and what they say.
--
--     script   = `lxr 1` or `lxr 2`, `threads N`, thread 1 .. thread N
--     thread t = `thread t`, operations, `end`
use Rattle.std.specs.Prelude.{◌≡◌, ℕ, ◌+◌, ◌<◌, ◌≤◌, ◌^◌, true, List, [], ◌∷◌, length, codes}
use Rattle.std.specs.Str.{all_ascii_digits}
use Rattle.std.specs.Str.Parse.{digits_value}
use Rattle.lxr_graph.specs.declared.Op.{Op}
use Rattle.lxr_graph.specs.declared.Op.TheVariants as op
use Rattle.lxr_text_script.specs.declared.TheConstants.{SCRIPT_REGISTERS}
use Rattle.lxr_text_script.specs.declared.Version.{Version}
use Rattle.lxr_text_script.specs.declared.Version.TheVariants.{One, Two}
use Rattle.lxr_text_script.specs.Lines.{Text}

-- one or more decimal digits, with a value below 2^64
pub record IsNumber (word : Text) (n : ℕ) : Type 0 where
  pub some : 0 < length word
  pub digits : all_ascii_digits word ≡ true
  pub value : digits_value 10 word ≡ n
  pub small : n < 2 ^ 64

-- a number of at most 1,023: of references, of data words, or an index
pub record IsSize (word : Text) (n : ℕ) : Type 0 where
  pub number : IsNumber word n
  pub small : n ≤ 1023

-- `r` followed by the number of a register that scripts have
pub record IsRegister (word : Text) (r : ℕ) : Type 0 where
  pub digits : Text
  pub is : word ≡ 114 ∷ digits
  pub number : IsNumber digits r
  pub small : r < SCRIPT_REGISTERS

-- the word of a version
abbrev pub version_word : Version → Text
version_word One = codes "1"
version_word Two = codes "2"

-- the words of an operation's line in a script of a version; `swap` and `add` stand in version 2 alone
pub data SpellsOperation : Version → List Text → Op → Type 0 where
  new : {version : Version} {d r v : Text} {dest refs values : ℕ} → IsRegister d dest → IsSize r refs → IsSize v values → SpellsOperation version (codes "new" ∷ d ∷ r ∷ v ∷ []) (op.New dest (record { refs = refs; values = values }))
  load : {version : Version} {d b i : Text} {dest base index : ℕ} → IsRegister d dest → IsRegister b base → IsSize i index → SpellsOperation version (codes "load" ∷ d ∷ b ∷ i ∷ []) (op.Load dest base index)
  store : {version : Version} {b i s : Text} {base index source : ℕ} → IsRegister b base → IsSize i index → IsRegister s source → SpellsOperation version (codes "store" ∷ b ∷ i ∷ s ∷ []) (op.Store base index source)
  put : {version : Version} {b i v : Text} {base index value : ℕ} → IsRegister b base → IsSize i index → IsNumber v value → SpellsOperation version (codes "put" ∷ b ∷ i ∷ v ∷ []) (op.Put base index value)
  get : {version : Version} {b i : Text} {base index : ℕ} → IsRegister b base → IsSize i index → SpellsOperation version (codes "get" ∷ b ∷ i ∷ []) (op.Get base index)
  swap : {d b i s : Text} {dest base index source : ℕ} → IsRegister d dest → IsRegister b base → IsSize i index → IsRegister s source → SpellsOperation Two (codes "swap" ∷ d ∷ b ∷ i ∷ s ∷ []) (op.Swap dest base index source)
  add : {b i v : Text} {base index value : ℕ} → IsRegister b base → IsSize i index → IsNumber v value → SpellsOperation Two (codes "add" ∷ b ∷ i ∷ v ∷ []) (op.Add base index value)
  move : {version : Version} {d s : Text} {dest source : ℕ} → IsRegister d dest → IsRegister s source → SpellsOperation version (codes "move" ∷ d ∷ s ∷ []) (op.Move dest source)
  nil : {version : Version} {d : Text} {dest : ℕ} → IsRegister d dest → SpellsOperation version (codes "nil" ∷ d ∷ []) (op.Nil dest)
  same : {version : Version} {l r : Text} {left right : ℕ} → IsRegister l left → IsRegister r right → SpellsOperation version (codes "same" ∷ l ∷ r ∷ []) (op.Same left right)
  pause : {version : Version} → SpellsOperation version (codes "pause" ∷ []) op.Pause
  collect : {version : Version} → SpellsOperation version (codes "collect" ∷ []) op.Collect

-- the lines of operations up to `end`, with the lines after it
pub data SpellsOperations (version : Version) : List (List Text) → List Op → List (List Text) → Type 0 where
  ended : {rest : List (List Text)} → SpellsOperations version ((codes "end" ∷ []) ∷ rest) [] rest
  operation : {line : List Text} {lines rest : List (List Text)} {o : Op} {operations : List Op} → SpellsOperation version line o → SpellsOperations version lines operations rest → SpellsOperations version (line ∷ lines) (o ∷ operations) rest

-- the lines of threads, the first of which is thread t, with the lines after them
pub data SpellsThreads (version : Version) : ℕ → List (List Text) → List (List Op) → List (List Text) → Type 0 where
  over : {t : ℕ} {rest : List (List Text)} → SpellsThreads version t rest [] rest
  thread : {t : ℕ} {number : Text} {lines others rest : List (List Text)} {operations : List Op} {threads : List (List Op)} → IsNumber number t → SpellsOperations version lines operations others → SpellsThreads version (t + 1) others threads rest
      → SpellsThreads version t ((codes "thread" ∷ number ∷ []) ∷ lines) (operations ∷ threads) rest

-- the lines of a script, of which the first names the version
pub data Spells : List (List Text) → List (List Op) → Type 0 where
  script : {version : Version} {number : Text} {lines : List (List Text)} {threads : List (List Op)} → IsNumber number (length threads) → SpellsThreads version 1 lines threads []
      → Spells ((codes "lxr" ∷ version_word version ∷ []) ∷ (codes "threads" ∷ number ∷ []) ∷ lines) threads
