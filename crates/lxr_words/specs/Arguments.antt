-- The table of a command as `clap` is told of it, and what `clap`'s answer then says of the words.
use Rattle.std.specs.Prelude.{◌≡◌, ⊤, Bool, Result, Ok, Err, ℕ, true, false, List, [], Option, Some, None, filter, is_some, map, codes, take}
use Rattle.std.specs.List.{list_all}
use Rattle.std.specs.Option.{option_map_or}
use Rattle.clap.specs.Walk.{Rule}
use Rattle.clap.specs.Simple.{App, new_rule, new_shape}
use Rattle.clap.specs.declared.builder.action.ArgAction.TheVariants.{Set, SetTrue}
use Rattle.clap.specs.Matches.{first_value, found_of, one_text}
use Rattle.clap.specs.declared.parser.matches.ArgMatches.{ArgMatches}
use Rattle.clap.specs.declared.parser.matches.Found.{Found}
use Rattle.lxr_words.specs.Number.{Text}
use Rattle.lxr_words.specs.Settings.{KnownOption, Table, is_in}
use Rattle.lxr_words.specs.Options.{agreeing, options_by, options_in, option_rows, table_of}
use Rattle.lxr_words.specs.declared.Command.{Command}
use Rattle.lxr_words.specs.declared.Command.TheVariants.{Judge}
use Rattle.lxr_words.specs.declared.WordError.{WordError}
use Rattle.lxr_words.specs.declared.WordError.TheVariants as error
use Rattle.lxr_words.specs.declared.WordFault.TheVariants as fault

-- an argument that takes one text, or is a flag where there is no range
abbrev pub argument_rule : Option (ℕ × ℕ) → Text → Rule
argument_rule (Some range) name = record (new_rule name) { long = Some name; action = Some Set }
argument_rule None name = record (new_rule name) { long = Some name; action = Some SetTrue }

-- the argument of an option
abbrev pub rule_for : KnownOption → Rule
rule_for option = argument_rule option.range option.name

-- one simple command with an argument for each option of the table, without `--help`
abbrev pub app_for : Text → Table → App
app_for title table = record {
  top = record (new_shape title) {
    rules = map rule_for table;
    no_binary_name = true;
    disable_help_flag = true;
  };
  subs = [];
}

-- the options of every command: the first row of the table
abbrev pub common_options : Table
common_options = map (λ row. row.option) (take 1 option_rows)

-- those of every command that runs threads: the table up to the flag `--stand`
abbrev pub thread_options : Table
thread_options = map (λ row. row.option) (take 9 option_rows)

-- those of `judge`, which are about calls and pauses, up to the flag `--counts`
abbrev pub pause_options : Table
pause_options = take 5 (table_of Judge)

-- the options of all commands together
abbrev pub every_option : Table
every_option = map (λ row. row.option) option_rows

-- the options with a number
abbrev pub number_options : Table
number_options = filter (λ option. is_some option.range) every_option

-- an option's text, where there is one, is a number in its range
abbrev pub is_fine : ℕ × ℕ → Option Text → Bool
is_fine range text = option_map_or (is_in (Some range)) text true

-- each option's text is a number in its range
abbrev pub all_fine : (Text → Option Text) → Bool
all_fine text =
    list_all (λ option. option_map_or (is_in option.range) (text option.name) true) number_options

-- the value where the texts are fine, and else the fault Options
abbrev pub ReadsIfFine : {X : Type 0} → Bool → X → Result X WordError → Type 0
ReadsIfFine fine x (Ok y) = (fine ≡ true) × (y ≡ x)
ReadsIfFine fine x (Err e) = (fine ≡ false) × (e ≡ error.Fault fault.Options)

-- what `get_flag` says of a flag whose text is `text`
pub record FlagReads (text : Option Text) (answer : Bool) : Type 0 where
  pub none : text ≡ None → answer ≡ false
  pub yes : text ≡ Some (codes "true") → answer ≡ true
  pub no : text ≡ Some (codes "false") → answer ≡ false

-- the words are accepted just where each text that was found is fine and these texts' options go together, and then say those
-- options
pub record Holds (command : Command) (words : List Text) (found : Found) : Type 0 where
  pub fine : all_fine (first_value found) ≡ true
      → (counts stand : Bool) → FlagReads (one_text found (codes "counts")) counts → FlagReads (one_text found (codes "stand")) stand
      → options_in command words ≡ agreeing (options_by (first_value found) counts stand command)
  pub wrong : all_fine (first_value found) ≡ false → options_in command words ≡ Err fault.Options

-- the matches hold what the words say, or the words are refused, or memory ran out
abbrev pub Finds : Command → List Text → Result ArgMatches WordError → Type 0
Finds command words (Ok matches) = Holds command words (found_of matches)
Finds command words (Err (error.Fault wrong)) = options_in command words ≡ Err wrong
Finds command words (Err error.Memory) = ⊤
