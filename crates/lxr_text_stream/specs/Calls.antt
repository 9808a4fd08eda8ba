-- What one call of a reader or a writer answers, and what a source or a sink makes of it.
use Rattle.std.specs.Prelude.{◌≡◌, ℕ, ◌<◌, Option, Some, None, List, ◌⊎◌, length, take}
use Rattle.std.specs.Io.KnownBytes.{Appends, Consumes, IsAtEnd, Keeps}
use Rattle.lxr_text_stream.specs.declared.Taken.{Taken}
use Rattle.lxr_text_stream.specs.declared.Taken.TheVariants as taken
use Rattle.lxr_text_stream.specs.declared.Put.{Put}
use Rattle.lxr_text_stream.specs.declared.Put.TheVariants as put

-- a stream, and how often its calls failed
pub record Counted (S : Type 0) : Type 0 where
  pub stream : S
  pub faults : ℕ

-- what a read gave, where the bytes that are left are known: the next ones stand at the front of the buffer; none, where it
-- has room, only at their end; where the read failed, they are all left
abbrev pub Gave : Option (List ℕ) → Option (List ℕ) → List ℕ → Option ℕ → Type 0
Gave before after buf (Some n) = Consumes before after (take n buf) × (n ≡ 0 → 0 < length buf → IsAtEnd after)
Gave before after buf None = Keeps before after

-- what a write took, where the bytes that are written are known: the first ones of the piece are written behind these; where
-- the write failed, none is
abbrev pub Took : Option (List ℕ) → Option (List ℕ) → List ℕ → Option ℕ → Type 0
Took before after piece (Some n) = Appends before after (take n piece)
Took before after piece None = Keeps before after

-- what a source says is what the reader's call answered: no bytes are the end
abbrev pub WasGiven : (Option ℕ → Type 0) → Taken → Type 0
WasGiven Answered (taken.Bytes n) = Answered (Some n)
WasGiven Answered taken.End = Answered (Some 0)
WasGiven Answered taken.Failed = Answered None

-- what a sink says is what the writer's call answered: to take no bytes is to fail
abbrev pub WasTaken : (Option ℕ → Type 0) → Put → Type 0
WasTaken Answered (put.Bytes n) = Answered (Some n)
WasTaken Answered put.Failed = Answered None ⊎ Answered (Some 0)
WasTaken Answered put.Memory = ⊥
