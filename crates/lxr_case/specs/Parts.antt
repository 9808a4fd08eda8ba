-- How the bytes of a case are cut: by the first line `== output` and the first line `== order`.
use Rattle.std.specs.Prelude.{◌≡◌, ℕ, ◌+◌, ◌-◌, ◌<◌, ◌≤◌, ◌⊎◌, Some, length, take, drop, slice_get, codes}
use Rattle.lxr_text_script.specs.Lines.{Text}

-- a line begins at this place: it is the front of the text, or a line feed stands before it
abbrev pub BeginsLine : Text → ℕ → Type 0
BeginsLine text at = (at ≡ 0) ⊎ (slice_get text (at - 1) ≡ Some 10)

-- at this place stands a line that has exactly these bytes, its line feed among them
pub record IsLineAt (line text : Text) (at : ℕ) : Type 0 where
  pub begins : BeginsLine text at
  pub bytes : take (length line) (drop at text) ≡ line

-- the first such line stands there
pub record IsFirstLineAt (line text : Text) (at : ℕ) : Type 0 where
  pub stands : IsLineAt line text at
  pub first : (i : ℕ) → IsLineAt line text i → at ≤ i

-- the line before an output
abbrev pub output_line : Text
output_line = codes "== output\n"

-- the line before an order
abbrev pub order_line : Text
order_line = codes "== order\n"

-- the first line of each sort stands there, that before the output in front of that before the order
pub record IsDivided (bytes : Text) (output order : ℕ) : Type 0 where
  pub output_stands : IsFirstLineAt output_line bytes output
  pub order_stands : IsFirstLineAt order_line bytes order
  pub in_order : output < order

-- what stands before the one, between them and behind the other
abbrev pub script_part : Text → ℕ → Text
script_part bytes output = take output bytes

abbrev pub output_part : Text → ℕ → ℕ → Text
output_part bytes output order = take (order - (output + length output_line)) (drop (output + length output_line) bytes)

abbrev pub order_part : Text → ℕ → Text
order_part bytes order = drop (order + length order_line) bytes

-- these are the parts of the bytes
pub record ArePartsOf (bytes script output order : Text) : Type 0 where
  pub output_at : ℕ
  pub order_at : ℕ
  pub divided : IsDivided bytes output_at order_at
  pub script_is : script ≡ script_part bytes output_at
  pub output_is : output ≡ output_part bytes output_at order_at
  pub order_is : order ≡ order_part bytes order_at
