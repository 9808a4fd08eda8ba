-- Numbers as texts: decimal digits and nothing else.
use Rattle.std.specs.Prelude.{◌^◌, ◌&&◌, ℕ, Bool, List, Option, Some, None, if◌then◌else◌, length, nat_lt}
use Rattle.std.specs.List.{list_all}
use Rattle.std.specs.Char.{is_ascii_digit}
use Rattle.std.specs.Str.Parse.{digits_value}

-- a text, as its bytes
abbrev pub Text : Type 0
Text = List ℕ

-- the value of a text of decimal digits
abbrev pub value_of : Text → ℕ
value_of text = digits_value 10 text

-- one decimal digit or more, leading zeros allowed, with a value below 2 ^ 64
abbrev pub is_number : Text → Bool
is_number text =
    nat_lt 0 (length text) && (list_all is_ascii_digit text && nat_lt (value_of text) (2 ^ 64))

-- the number that the text writes, if it writes one
abbrev pub number_of : Text → Option ℕ
number_of text = if is_number text then Some (value_of text) else None
