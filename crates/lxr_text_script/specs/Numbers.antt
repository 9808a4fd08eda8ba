-- Numbers and registers as words.
use Rattle.std.specs.Prelude.{ℕ, ◌^◌, ◌&&◌, [], ◌∷◌, length, nat_lt, ◌==◌, Option, Some, None, option_and_then, if◌then◌else◌}
use Rattle.std.specs.Str.{all_ascii_digits}
use Rattle.std.specs.Str.Parse.{digits_value}
use Rattle.lxr_text_script.specs.declared.TheConstants.{SCRIPT_REGISTERS}
use Rattle.lxr_text_script.specs.Lines.{Text}

-- the value of a number: one or more decimal digits, leading zeros among them, with a value below 2^64
unfoldable pub number_of : Text → Option ℕ
number_of word =
    if nat_lt 0 (length word) && all_ascii_digits word && nat_lt (digits_value 10 word) (2 ^ 64)
    then Some (digits_value 10 word) else None

-- the register of scripts that has this number
abbrev pub register_numbered : ℕ → Option ℕ
register_numbered n = if nat_lt n SCRIPT_REGISTERS then Some n else None

-- the number of a register: `r` followed by the number of one that scripts have
unfoldable pub register_of : Text → Option ℕ
register_of [] = None
register_of (b ∷ digits) = if b == 114 then option_and_then register_numbered (number_of digits) else None
