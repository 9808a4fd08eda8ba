-- The items of an order: a line each, of one word. Lines without words are passed over, and counted.
use Rattle.std.specs.Prelude.{◌≡◌, ℕ, ◌⊎◌, Bool, true, false, ◌&&◌, nat_le, Option, Some, None, Result, Ok, Err, List, [], ◌∷◌, ◌++◌, map, filter, codes, if◌then◌else◌}
use Rattle.std.specs.Str.{bytes_eq}
use Rattle.std.specs.Str.Lines.{lines}
use Rattle.lxr_base.specs.Roomy.{Roomy}
use Rattle.lxr_text_script.specs.Lines.{Text, Line, numbered}
use Rattle.lxr_text_script.specs.Numbers.{number_of}
use Rattle.lxr_graph.specs.declared.Item.{Item}
use Rattle.lxr_graph.specs.declared.Item.TheVariants as item
use Rattle.lxr_case.specs.declared.fault.CaseError.{CaseError}
use Rattle.lxr_case.specs.declared.fault.CaseError.TheVariants as error

-- the item of a number, where there are so many threads
abbrev pub call_of : ℕ → Option ℕ → Option Item
call_of threads None = None
call_of threads (Some t) = if nat_le 1 t && nat_le t threads then Some (item.Call t) else None

-- the item that words say, where there are so many threads: `pause`, or the number of a thread
abbrev pub item_of : ℕ → List Text → Option Item
item_of threads [] = None
item_of threads (word ∷ []) = if bytes_eq word (codes "pause") then Some item.Pause else call_of threads (number_of word)
item_of threads (word ∷ next ∷ words) = None

-- there is a word
abbrev pub has_words : List Text → Bool
has_words [] = false
has_words (word ∷ words) = true

-- the lines of a text that have words; the first line of the text has number n
abbrev pub worded_from : ℕ → Text → List Line
worded_from n text = filter (λ line. has_words line.words) (numbered n (lines text))

-- each of these lines says its item
abbrev pub SayItems : ℕ → List Line → List Item → Type 0
SayItems threads lines items = map (λ line. item_of threads line.words) lines ≡ map Some items

-- the first of these lines that says no item has number n
pub record IsFirstWithoutItem (threads : ℕ) (lines : List Line) (n : ℕ) : Type 0 where
  pub before : List Line
  pub line : Line
  pub after : List Line
  pub items : List Item
  pub stand : lines ≡ before ++ line ∷ after
  pub said : SayItems threads before items
  pub none : item_of threads line.words ≡ None
  pub number : line.number ≡ n

-- a line with these words is read: nothing joins the items where it has none, and else its item does
abbrev pub ReadsLine : ℕ → List Text → List Item → List Item → Type 0
ReadsLine threads words old new =
    ((words ≡ []) × (new ≡ old)) ⊎ ((x : Item) × (item_of threads words ≡ Some x) × (new ≡ old ++ x ∷ []))

-- a line with these words, which has number n, is refused: it has words and says no item; want of memory is free
abbrev pub RefusesLine : ℕ → ℕ → List Text → CaseError → Type 0
RefusesLine threads n words error.Parts = ⊥
RefusesLine threads n words (error.Script fault) = ⊥
RefusesLine threads n words (error.Item line) = (line ≡ n) × (has_words words ≡ true) × (item_of threads words ≡ None)
RefusesLine threads n words error.Memory = Unit {0}

-- why lines aren't read as items; want of memory is free
abbrev pub RefusesItems : ℕ → List Line → CaseError → Type 0
RefusesItems threads lines error.Parts = ⊥
RefusesItems threads lines (error.Script fault) = ⊥
RefusesItems threads lines (error.Item n) = IsFirstWithoutItem threads lines n
RefusesItems threads lines error.Memory = Unit {0}

-- the answer to lines: their items, or why there are none
abbrev pub AnswersItems : ℕ → List Line → Result (Roomy Item) CaseError → Type 0
AnswersItems threads lines (Ok items) = SayItems threads lines items.items
AnswersItems threads lines (Err error) = RefusesItems threads lines error
