-- The command lines as a grammar, and what it says of the reading of the words: the reading accepts
-- exactly what the grammar spells, and takes the two spellings of a number alike.
use Rattle.std.specs.Prelude.{◌≡◌, ◌≢◌, ◌↔◌, ◌++◌, ℕ, true, false, List, [], ◌∷◌, Some, None, Ok, codes}
use Rattle.std.specs.List.{list_any}
use Rattle.lxr_words.specs.Number.{Text, is_number, value_of}
use Rattle.lxr_words.specs.Settings.{Settings, Table, dashes, is_accepted, is_equals, option_named}
use Rattle.lxr_words.specs.Options.{agree, options_from, reading_of, table_of}
use Rattle.lxr_words.specs.declared.Command.{Command}
use Rattle.lxr_words.specs.declared.Command.TheVariants.{Judge, Large, Load, Map, Order, Run}
use Rattle.lxr_words.specs.declared.Options.{Options}

-- the table has an option of that name with a number
abbrev pub TakesNumber : Table → Text → Type 0
TakesNumber table name =
    (range : ℕ × ℕ) × (option_named table name ≡ Some (record { name = name; range = Some range }))

-- the table has a flag of that name
abbrev pub IsFlag : Table → Text → Type 0
IsFlag table name = option_named table name ≡ Some (record { name = name; range = None })

-- the word `--name`
abbrev pub name_word : Text → Text
name_word name = dashes ++ name

-- the word `--name=value`
abbrev pub joined_word : Text → Text → Text
joined_word name value = dashes ++ (name ++ (codes "=" ++ value))

-- the words spell the settings, in order: there are none, or first comes `--name value`,
-- `--name=value` or `--name`
pub data Spells (table : Table) : List Text → Settings → Type 0 where
  nothing : Spells table [] []
  apart : (name value : Text) (words : List Text) (settings : Settings) → TakesNumber table name
      → Spells table words settings
      → Spells table (name_word name ∷ value ∷ words) ((name, value) ∷ settings)
  joined : (name value : Text) (words : List Text) (settings : Settings) → TakesNumber table name
      → Spells table words settings
      → Spells table (joined_word name value ∷ words) ((name, value) ∷ settings)
  alone : (name : Text) (words : List Text) (settings : Settings) → IsFlag table name
      → Spells table words settings
      → Spells table (name_word name ∷ words) ((name, codes "true") ∷ settings)

-- the words spell settings of the command, each option at most once and with a number in its range,
-- and the options are by these settings and go together
pub record SpellsOptions (command : Command) (words : List Text) (options : Options) : Type 0 where
  pub settings : Settings
  pub spelt : Spells (table_of command) words settings
  pub accepted : is_accepted (table_of command) settings ≡ true
  pub options_are : options ≡ options_from command settings
  pub together : agree options ≡ true

-- the words are a command line, with these options
pub data CommandLine : List Text → Options → Type 0 where
  run : (words : List Text) (options : Options) → SpellsOptions Run words options
      → CommandLine (codes "run" ∷ words) options
  map : (words : List Text) (options : Options) → SpellsOptions Map words options
      → CommandLine (codes "map" ∷ words) options
  large : (words : List Text) (options : Options) → SpellsOptions Large words options
      → CommandLine (codes "large" ∷ words) options
  order : (words : List Text) (options : Options) → SpellsOptions Order words options
      → CommandLine (codes "order" ∷ words) options
  judge : (words : List Text) (options : Options) → SpellsOptions Judge words options
      → CommandLine (codes "judge" ∷ words) options
  load : (seed : Text) (words : List Text) (options : Options) → is_number seed ≡ true
      → SpellsOptions (Load (value_of seed)) words options
      → CommandLine (codes "load" ∷ seed ∷ words) options

-- the words say options exactly where they are a command line with these
abbrev pub AcceptsCommandLines : Type 0
AcceptsCommandLines =
    (words : List Text) (options : Options)
    → reading_of words ≡ Ok options ↔ CommandLine words options

-- `--name value` and `--name=value` say the same wherever they stand, also where a word is wrong,
-- for each name without `=` that is not a flag's
abbrev pub ReadsSpellingsAlike : Type 0
ReadsSpellingsAlike =
    (name value : Text) (before after : List Text)
    → list_any is_equals name ≡ false → name ≢ codes "counts" → name ≢ codes "stand"
    → reading_of (before ++ (name_word name ∷ value ∷ after))
    ≡ reading_of (before ++ (joined_word name value ∷ after))
