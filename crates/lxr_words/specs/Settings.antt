-- Which options the words of a command line set, for any table of options. An option with a number
-- is spelt `--name value`, in two words, or `--name=value`, in one; a flag is spelt `--name`.
use Rattle.std.specs.Prelude.{◌==◌, ◌&&◌, ℕ, Bool, true, false, not, List, [], ◌∷◌, codes, drop, find}
use Rattle.std.specs.Prelude.{Option, Some, None, option_map, if◌then◌else◌, nat_eq, nat_le}
use Rattle.std.specs.List.{list_all, list_any, before_first, after_first, starts_with}
use Rattle.std.specs.Option.{option_map_or}
use Rattle.std.specs.Str.{bytes_eq}
use Rattle.lxr_words.specs.Number.{Text, is_number, value_of}

-- an option of a table: its name, and the least and the greatest value of its number; a flag has no
-- number
pub record KnownOption : Type 0 where
  pub name : Text
  pub range : Option (ℕ × ℕ)

-- a table of options; each name stands in it once
abbrev pub Table : Type 0
Table = List KnownOption

-- the option of that name, if the table has one
abbrev pub option_named : Table → Text → Option KnownOption
option_named table name = find (λ option. bytes_eq option.name name) table

-- options by name, each with the text that it is set to, in the order of the words; a flag that is
-- set has the text `true`
abbrev pub Settings : Type 0
Settings = List (Text × Text)

-- ---- one word

-- an option with its text; an option whose text is the next word; neither
pub data Word : Type 0 where
  whole : Text → Text → Word
  opens : Text → Word
  stray : Word

-- the word `--`, which is also how an option begins
abbrev pub dashes : Text
dashes = codes "--"

-- what follows the two hyphens of a word that begins with them
abbrev pub after_dashes : Text → Option Text
after_dashes word = if starts_with nat_eq word dashes then Some (drop 2 word) else None

-- the sign `=`
abbrev pub is_equals : ℕ → Bool
is_equals code = code == 61

-- what stands before the first `=`, or all where there is none
abbrev pub name_in : Text → Text
name_in body = before_first is_equals body

-- what stands after the first `=`, if there is one
abbrev pub value_in : Text → Option Text
value_in body = if list_any is_equals body then Some (after_first is_equals body) else None

-- an option of that range and name, where that text, or none, stands after `=`
abbrev pub word_with : Option (ℕ × ℕ) → Text → Option Text → Word
word_with (Some range) name (Some text) = whole name text
word_with (Some range) name None = opens name
word_with None name (Some text) = stray
word_with None name None = whole name (codes "true")

-- a word by the option that it names, if the table has it, and by the text after `=`
abbrev pub word_for : Option KnownOption → Option Text → Word
word_for None text = stray
word_for (Some option) text = word_with option.range option.name text

-- a word by what follows its two hyphens
abbrev pub word_after : Table → Option Text → Word
word_after table None = stray
word_after table (Some body) = word_for (option_named table (name_in body)) (value_in body)

-- what a word is that no option waits for
abbrev pub word_of : Table → Text → Word
word_of table word = word_after table (after_dashes word)

-- ---- all words

-- one setting more, before those of the words that follow
abbrev pub with_setting : Text → Text → Option Settings → Option Settings
with_setting name text more = option_map (λ settings. (name, text) ∷ settings) more

-- the settings of a word and of those after it; `rest` gives the latter, by the option that waits
abbrev pub after_word : Word → (Option Text → Option Settings) → Option Settings
after_word (whole name text) rest = with_setting name text (rest None)
after_word (opens name) rest = rest (Some name)
after_word stray rest = None

-- the settings that the words spell, in order, where the option that waits, if one does, takes the
-- next word; `None` where some word is neither an option nor the text of one
abbrev pub settings_in : Table → List Text → Option Text → Option Settings
settings_in table [] None = Some []
settings_in table [] (Some name) = None
settings_in table (word ∷ rest) None = after_word (word_of table word) (settings_in table rest)
settings_in table (word ∷ rest) (Some name) = with_setting name word (settings_in table rest None)

-- ---- what is accepted

-- whether the option of that name is set
abbrev pub is_set : Text → Settings → Bool
is_set name settings = list_any (λ setting. bytes_eq setting.0 name) settings

-- the text that the option of that name is set to
abbrev pub text_of : Text → Settings → Option Text
text_of name settings =
    option_map (λ setting. setting.1) (find (λ setting. bytes_eq setting.0 name) settings)

-- no option is set twice
abbrev pub each_once : Settings → Bool
each_once [] = true
each_once (setting ∷ rest) = not (is_set setting.0 rest) && each_once rest

-- a text that an option of that range may be set to: a number from the least to the greatest
abbrev pub is_in : Option (ℕ × ℕ) → Text → Bool
is_in None text = true
is_in (Some range) text =
    is_number text && (nat_le range.0 (value_of text) && nat_le (value_of text) range.1)

-- whether the table has the option, with a range that its text is in
abbrev pub fits : Table → Text × Text → Bool
fits table setting =
    option_map_or (λ option. is_in option.range setting.1) (option_named table setting.0) false

-- each option at most once, with a number in its range
abbrev pub is_accepted : Table → Settings → Bool
is_accepted table settings = each_once settings && list_all (fits table) settings
