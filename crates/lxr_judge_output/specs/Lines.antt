-- The lines of an output, by their words. Words are what stands between single spaces.
use Rattle.std.specs.Prelude.{ℕ, Bool, false, ◌&&◌, ◌||◌, ◌==◌, Option, Some, None, List, [], ◌∷◌, length, codes, if◌then◌else◌}
use Rattle.std.specs.List.{list_all, slice_split}
use Rattle.std.specs.Option.{option_map_or}
use Rattle.std.specs.Str.{bytes_eq}
use Rattle.lxr_text_script.specs.Lines.{Text}
use Rattle.lxr_text_script.specs.Numbers.{number_of}
use Rattle.lxr_judge_output.specs.declared.lines.Sort.{Sort}
use Rattle.lxr_judge_output.specs.declared.lines.Sort.TheVariants as sort
use Rattle.lxr_judge_output.specs.Words.{is_numeral, is_name, is_reply}

-- a space
abbrev pub is_space : ℕ → Bool
is_space b = b == 32

-- what stands between the spaces of a line
unfoldable pub fields_of : Text → List Text
fields_of line = slice_split is_space line

-- the one word of a line that has one alone
abbrev pub single_of : List Text → Option Text
single_of [] = None
single_of (word ∷ []) = Some word
single_of (word ∷ next ∷ words) = None

-- the one word passes a test
abbrev pub is_single : (Text → Bool) → List Text → Bool
is_single passes words = option_map_or passes (single_of words) false

-- the number, as it is printed
abbrev pub is_number : ℕ → Text → Bool
is_number n word = is_numeral word && option_map_or (λ m. m == n) (number_of word) false

-- the sort of a pause that has one word
abbrev pub sort_of_word : Text → Option Sort
sort_of_word word =
    if bytes_eq word (codes "plain") then Some sort.Plain
    else if bytes_eq word (codes "begin") then Some sort.Begin
    else if bytes_eq word (codes "collect") then Some sort.Collect
    else None

-- the sort that has two: `end J`
abbrev pub end_sort : List Text → Option Sort
end_sort [] = None
end_sort (word ∷ words) = if bytes_eq word (codes "end") && is_single is_numeral words then Some sort.End else None

-- the sort of a pause: the one word, or else the two
abbrev pub sort_by : Option Text → List Text → Option Sort
sort_by (Some word) words = sort_of_word word
sort_by None words = end_sort words

-- a pause's number and its sort
abbrev pub numbered_sort : List Text → Option Sort
numbered_sort [] = None
numbered_sort (number ∷ words) = if is_numeral number then sort_by (single_of words) words else None

-- `pause K` and its sort: `plain`, `begin`, `end J` or `collect`
abbrev pub sort_of : List Text → Option Sort
sort_of [] = None
sort_of (first ∷ words) = if bytes_eq first (codes "pause") then numbered_sort words else None

-- how many names there are, and the names
abbrev pub are_counted_names : List Text → Bool
are_counted_names [] = false
are_counted_names (number ∷ names) = list_all is_name names && is_number (length names) number

-- a list of names behind its label
abbrev pub are_names : Text → List Text → Bool
are_names label [] = false
are_names label (first ∷ words) = bytes_eq first label && are_counted_names words

-- `stuck` or a number
abbrev pub is_count_word : Text → Bool
is_count_word word = is_numeral word || bytes_eq word (codes "stuck")

-- a name and its count
abbrev pub is_counted_name : List Text → Bool
is_counted_name [] = false
is_counted_name (name ∷ words) = is_name name && is_single is_count_word words

-- `count`, a name and its count
abbrev pub is_count : List Text → Bool
is_count [] = false
is_count (first ∷ words) = bytes_eq first (codes "count") && is_counted_name words

-- `thread T`
abbrev pub is_heading : ℕ → List Text → Bool
is_heading t [] = false
is_heading t (first ∷ words) = bytes_eq first (codes "thread") && is_single (is_number t) words

-- the word of an operation and a reply to it
abbrev pub replies : List Text → Bool
replies [] = false
replies (word ∷ words) = is_single (is_reply word) words
