-- What the words of a command line say: the command, and its options by the table of options.
use Rattle.std.specs.Prelude.{◌≡◌, ◌&&◌, ⊤, List, [], ◌∷◌, ℕ, Bool, true, false, Option, Some, None, filter, map}
use Rattle.std.specs.Prelude.{Result, Ok, Err, option_map, if◌then◌else◌, codes}
use Rattle.std.specs.Option.{option_map_or}
use Rattle.std.specs.Str.{bytes_eq}
use Rattle.lxr_words.specs.Number.{Text, is_number, value_of}
use Rattle.lxr_words.specs.Settings.{KnownOption, Settings, Table, is_accepted, is_set, settings_in, text_of}
use Rattle.lxr_words.specs.declared.Command.{Command}
use Rattle.lxr_words.specs.declared.Command.TheVariants.{Judge, Large, Load, Map, Order, Run}
use Rattle.lxr_words.specs.declared.Options.{Options}
use Rattle.lxr_words.specs.declared.WordError.{WordError}
use Rattle.lxr_words.specs.declared.WordError.TheVariants.{Fault, Memory}
use Rattle.lxr_words.specs.declared.WordFault.{WordFault}
use Rattle.lxr_words.specs.declared.WordFault.TheVariants as fault

-- ---- the table of options

-- a row of the table: an option, and whether a command has it
pub record OptionRow : Type 0 where
  pub option : KnownOption
  pub is_of : Command → Bool

-- the commands that have an option: all of them
abbrev pub all_commands : Command → Bool
all_commands command = true

-- the commands that take a script, alone or in a case
abbrev pub script_commands : Command → Bool
script_commands Run = true
script_commands Map = true
script_commands Order = true
script_commands Judge = true
script_commands Large = true
script_commands (Load seed) = false

-- the commands that run threads
abbrev pub thread_commands : Command → Bool
thread_commands Run = true
thread_commands Map = true
thread_commands Order = true
thread_commands Judge = false
thread_commands Large = false
thread_commands (Load seed) = true

-- the commands that have to do with calls of threads between pauses
abbrev pub pause_commands : Command → Bool
pause_commands Large = false
pause_commands _ = true

-- the command `load` alone
abbrev pub load_command : Command → Bool
load_command (Load seed) = true
load_command _ = false

-- the command `large` alone
abbrev pub large_command : Command → Bool
large_command Large = true
large_command _ = false

-- a row of an option with a number
abbrev pub number_row : Text → ℕ → ℕ → (Command → Bool) → OptionRow
number_row name least greatest is_of = record {
  option = record { name = name; range = Some (least, greatest) };
  is_of = is_of;
}

-- a row of a flag
abbrev pub flag_row : Text → (Command → Bool) → OptionRow
flag_row name is_of = record { option = record { name = name; range = None }; is_of = is_of }

-- the table: name, least and greatest value, commands
abbrev pub option_rows : List OptionRow
option_rows = number_row (codes "blocks") 1 1024 all_commands
    ∷ number_row (codes "workers") 1 8 thread_commands
    ∷ number_row (codes "every") 1 1048576 pause_commands
    ∷ number_row (codes "log") 1 65536 pause_commands
    ∷ number_row (codes "trace") 1 1000000 pause_commands
    ∷ number_row (codes "within") 1 1000000 pause_commands
    ∷ number_row (codes "remember") 1 1048576 thread_commands
    ∷ number_row (codes "replay") 0 18446744073709551615 thread_commands
    ∷ flag_row (codes "stand") thread_commands
    ∷ flag_row (codes "counts") script_commands
    ∷ number_row (codes "threads") 1 16 load_command
    ∷ number_row (codes "rounds") 1 100000 load_command
    ∷ number_row (codes "bodies") 1 1024 large_command
    ∷ []

-- the options that a command has
abbrev pub table_of : Command → Table
table_of command = map (λ row. row.option) (filter (λ row. row.is_of command) option_rows)

-- ---- the values of the options

-- the number that the text writes, or the default where there is no text
abbrev pub number_or : ℕ → Option Text → ℕ
number_or default text = option_map_or value_of text default

-- the options by the texts that they are set to, each with its default where there is none
abbrev pub options_by : (Text → Option Text) → (counts stand : Bool) → Command → Options
options_by text counts stand command = record {
  command = command;
  blocks = number_or 64 (text (codes "blocks"));
  workers = number_or 2 (text (codes "workers"));
  every = number_or 1024 (text (codes "every"));
  log = number_or 1024 (text (codes "log"));
  trace = number_or 8 (text (codes "trace"));
  within = number_or 4 (text (codes "within"));
  remember = number_or 4096 (text (codes "remember"));
  counts = counts;
  replay = option_map value_of (text (codes "replay"));
  stand = stand;
  threads = number_or 4 (text (codes "threads"));
  rounds = number_or 1000 (text (codes "rounds"));
  bodies = number_or 64 (text (codes "bodies"));
}

-- the options of the command by the settings
abbrev pub options_from : Command → Settings → Options
options_from command settings =
    options_by (λ name. text_of name settings) (is_set (codes "counts") settings) (is_set (codes "stand") settings) command

-- ---- options that go together

-- whether there is a schedule where the command needs one: `order` tells the order of a run that can be had again
abbrev pub is_scheduled : Command → Option ℕ → Bool
is_scheduled Order None = false
is_scheduled command replay = true

-- threads that stand run as they come, so nothing is replayed by them
abbrev pub may_stand : Bool → Option ℕ → Bool
may_stand true (Some seed) = false
may_stand stand replay = true

-- whether the options go together
abbrev pub agree : Options → Bool
agree options = is_scheduled options.command options.replay && may_stand options.stand options.replay

-- the options, where they go together
abbrev pub agreeing : Options → Result Options WordFault
agreeing options = if agree options then Ok options else Err fault.Options

-- ---- the words

-- the options by the settings, if there are any, they are accepted, and the options go together
abbrev pub accepted : Command → Option Settings → Result Options WordFault
accepted command None = Err fault.Options
accepted command (Some settings) =
    if is_accepted (table_of command) settings then agreeing (options_from command settings)
    else Err fault.Options

-- the words after the command and its seed
abbrev pub options_in : Command → List Text → Result Options WordFault
options_in command words = accepted command (settings_in (table_of command) words None)

-- the words after `load`
abbrev pub load_in : List Text → Result Options WordFault
load_in [] = Err fault.Seed
load_in (seed ∷ words) =
    if is_number seed then options_in (Load (value_of seed)) words else Err fault.Seed

-- what the words of a command line say, or what is wrong with them
abbrev pub reading_of : List Text → Result Options WordFault
reading_of [] = Err fault.Command
reading_of (word ∷ words) =
    if bytes_eq word (codes "run") then options_in Run words
    else (if bytes_eq word (codes "map") then options_in Map words
    else (if bytes_eq word (codes "large") then options_in Large words
    else (if bytes_eq word (codes "order") then options_in Order words
    else (if bytes_eq word (codes "judge") then options_in Judge words
    else (if bytes_eq word (codes "load") then load_in words else Err fault.Command)))))

-- the answer is that reading, unless memory ran out
abbrev pub Answers : Result Options WordFault → Result Options WordError → Type 0
Answers reading (Ok options) = reading ≡ Ok options
Answers reading (Err (Fault wrong)) = reading ≡ Err wrong
Answers reading (Err Memory) = ⊤
