-- A run as its caller sees it: what it is handed, before and after it, and the space that it leaves.
use Rattle.std.specs.Prelude.{◌≡◌, ℕ, Option, List}
use Rattle.lxr_image.specs.declared.space.Space.{Space}
use Rattle.lxr_text_stream.specs.Streams.{Appends, AppendsFront, Rose}
use Rattle.lxr_sights.specs.Sights.{Sight}

-- a stream before and after a run, with what it tells of itself: its bytes, where it tells them, and how often it failed
pub record Stream (X : Type 0) : Type 0 where
  pub bytes : X → Option (List ℕ)
  pub faults : X → ℕ
  pub before : X
  pub after : X

-- a watch before and after a run, with what it has seen, where it tells it
pub record Watcher (W : Type 0) : Type 0 where
  pub seen : W → Option (List Sight)
  pub before : W
  pub after : W

-- a run: the words that it is asked by, its input, its output and its watch, and the space that it leaves
pub record Run (I O W : Type 0) : Type 0 where
  pub words : List (List ℕ)
  pub input : Stream I
  pub output : Stream O
  pub watch : Watcher W
  pub space : Space

-- a stream told by its bytes, its faults, and what it was before and after a run
abbrev pub stream : {X : Type 0} → (X → Option (List ℕ)) → (X → ℕ) → X → X → Stream X
stream bytes faults before after = record { bytes = bytes; faults = faults; before = before; after = after }

-- a watch told by what it has seen, and what it was before and after a run
abbrev pub watcher : {W : Type 0} → (W → Option (List Sight)) → W → W → Watcher W
watcher seen before after = record { seen = seen; before = before; after = after }

-- a run told by its parts
abbrev pub run_of : {I O W : Type 0} → List (List ℕ) → Stream I → Stream O → Watcher W → Space → Run I O W
run_of words input output watch space = record { words = words; input = input; output = output; watch = watch; space = space }

-- a stream is as it was
abbrev pub IsUntouched : {X : Type 0} → Stream X → Type 0
IsUntouched s = s.after ≡ s.before

-- its count of faults rose
abbrev pub HasFailed : {X : Type 0} → Stream X → Type 0
HasFailed s = Rose (s.faults s.before) (s.faults s.after)

-- this text was written to it
abbrev pub IsWritten : {X : Type 0} → Stream X → List ℕ → Type 0
IsWritten s text = Appends (s.bytes s.before) (s.bytes s.after) text

-- a prefix of this text was written to it
abbrev pub IsPartlyWritten : {X : Type 0} → Stream X → List ℕ → Type 0
IsPartlyWritten s text = AppendsFront (s.bytes s.before) (s.bytes s.after) text
