-- What a source gives, what a sink takes, and when a count of faults has risen.
use Rattle.std.specs.Prelude.{◌≡◌, ℕ, ◌+◌, ◌-◌, ◌^◌, ◌≤◌, min, Bool, true, false, Option, List, [], ◌++◌, length, take, option_map, IfSome}
use Rattle.lxr_text_stream.specs.declared.Taken.{Taken}
use Rattle.lxr_text_stream.specs.declared.Taken.TheVariants as taken
use Rattle.lxr_text_stream.specs.declared.Put.{Put}
use Rattle.lxr_text_stream.specs.declared.Put.TheVariants as put

-- the last number of a count of 64 bits
abbrev pub last_count : ℕ
last_count = 2 ^ 64 - 1

-- a count raised by one; at its type's end it stands still
abbrev pub raised : ℕ → ℕ
raised n = min (n + 1) last_count

-- a count of 64 bits has risen: by one or more, or up to its type's end
abbrev pub Rose : ℕ → ℕ → Type 0
Rose before after = raised before ≤ after

-- the bytes were taken from the front of what was left; where a source doesn't tell what is left, it never does
abbrev pub Takes : Option (List ℕ) → Option (List ℕ) → List ℕ → Type 0
Takes before after bytes = before ≡ option_map (λ rest. bytes ++ rest) after

-- some bytes were taken from the front of what was left
abbrev pub TakesSome : Option (List ℕ) → Option (List ℕ) → Type 0
TakesSome before after = (bytes : List ℕ) × Takes before after bytes

-- nothing is left, where the source tells what is
abbrev pub IsAtEnd : Option (List ℕ) → Type 0
IsAtEnd left = IfSome left (λ bytes. bytes ≡ [])

-- what a read means: its bytes stand at the front of the buffer, which is given as it is afterwards
abbrev pub Reads : Option (List ℕ) → Option (List ℕ) → List ℕ → Taken → Type 0
Reads before after buf (taken.Bytes n) = (1 ≤ n) × (n ≤ length buf) × Takes before after (take n buf)
Reads before after buf taken.End = IsAtEnd before × (after ≡ before)
Reads before after buf taken.Failed = after ≡ before

-- the bytes were written behind what was written before; where a sink doesn't tell what is written, it never does
abbrev pub Appends : Option (List ℕ) → Option (List ℕ) → List ℕ → Type 0
Appends before after bytes = after ≡ option_map (λ written. written ++ bytes) before

-- the first so many of the bytes were written
abbrev pub AppendsFront : Option (List ℕ) → Option (List ℕ) → List ℕ → Type 0
AppendsFront before after bytes = (n : ℕ) × Appends before after (take n bytes)

-- what a sink did with a piece
abbrev pub Writes : Option (List ℕ) → Option (List ℕ) → List ℕ → Put → Type 0
Writes before after piece (put.Bytes n) = (1 ≤ n) × (n ≤ length piece) × Appends before after (take n piece)
Writes before after piece put.Failed = after ≡ before
Writes before after piece put.Memory = after ≡ before

-- whether a read failed
abbrev pub is_failed_read : Taken → Bool
is_failed_read (taken.Bytes n) = false
is_failed_read taken.End = false
is_failed_read taken.Failed = true

-- whether a put failed
abbrev pub is_failed_put : Put → Bool
is_failed_put (put.Bytes n) = false
is_failed_put put.Failed = true
is_failed_put put.Memory = false
