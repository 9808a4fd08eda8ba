-- The line that reports what is wrong with the words.
use Rattle.std.specs.Prelude.{◌++◌, ℕ, List, [], ◌∷◌, codes}
use Rattle.lxr_words.specs.declared.WordFault.{WordFault}
use Rattle.lxr_words.specs.declared.WordFault.TheVariants as fault

-- the name of a fault in its line
abbrev pub fault_name : WordFault → List ℕ
fault_name fault.Command = codes "command"
fault_name fault.Seed = codes "seed"
fault_name fault.Options = codes "options"

-- the program's name, the word `words` and the fault's name, and a line feed
abbrev pub error_line_of : WordFault → List ℕ
error_line_of wrong = codes "lxr: words: " ++ fault_name wrong ++ 10 ∷ []
