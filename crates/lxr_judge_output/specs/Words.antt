-- The words of printed texts: numbers, names, and what is replied.
use Rattle.std.specs.Prelude.{ℕ, Bool, false, not, ◌&&◌, ◌||◌, ◌==◌, [], ◌∷◌, length, codes, if◌then◌else◌}
use Rattle.std.specs.Char.{is_ascii_digit}
use Rattle.std.specs.List.{list_all, before_first, after_first}
use Rattle.std.specs.Str.{bytes_eq}
use Rattle.lxr_text_script.specs.Lines.{Text}

-- a number as it is printed: decimal digits, of which the first is no zero, but for `0` itself
unfoldable pub is_numeral : Text → Bool
is_numeral [] = false
is_numeral (b ∷ bs) = list_all is_ascii_digit (b ∷ bs) && (length bs == 0 || not (b == 48))

-- a dot
abbrev pub is_dot : ℕ → Bool
is_dot b = b == 46

-- a name as T.S: numbers in front of its first dot and behind it
unfoldable pub is_name : Text → Bool
is_name word = is_numeral (before_first is_dot word) && is_numeral (after_first is_dot word)

-- an operation that needs a base was refused
abbrev pub is_refusal : Text → Bool
is_refusal word = bytes_eq word (codes "bad") || bytes_eq word (codes "range")

-- a reference was read
abbrev pub is_reference : Text → Bool
is_reference word = (is_name word || bytes_eq word (codes "nil")) || is_refusal word

-- a data word was read
abbrev pub is_datum : Text → Bool
is_datum word = is_numeral word || is_refusal word

-- something was written
abbrev pub is_written : Text → Bool
is_written word = bytes_eq word (codes "ok") || is_refusal word

-- something was done
abbrev pub is_done : Text → Bool
is_done word = bytes_eq word (codes "ok")

-- an object was made, or there was no room
abbrev pub is_made : Text → Bool
is_made word = is_name word || bytes_eq word (codes "full")

-- whether two registers hold the same
abbrev pub is_told : Text → Bool
is_told word = bytes_eq word (codes "yes") || bytes_eq word (codes "no")

-- what may be replied to an operation with this word
unfoldable pub is_reply : Text → Text → Bool
is_reply word answer =
    if bytes_eq word (codes "new") then is_made answer
    else if bytes_eq word (codes "load") then is_reference answer
    else if bytes_eq word (codes "swap") then is_reference answer
    else if bytes_eq word (codes "store") then is_written answer
    else if bytes_eq word (codes "put") then is_written answer
    else if bytes_eq word (codes "get") then is_datum answer
    else if bytes_eq word (codes "add") then is_datum answer
    else if bytes_eq word (codes "same") then is_told answer
    else if bytes_eq word (codes "move") then is_done answer
    else if bytes_eq word (codes "nil") then is_done answer
    else if bytes_eq word (codes "pause") then is_done answer
    else if bytes_eq word (codes "collect") then is_done answer
    else false
