-- When a history belongs to a script: each thread's operations once and in order, and pauses for a cause.
use Rattle.std.specs.Prelude.{◌≡◌, ℕ, suc, ◌+◌, ◌-◌, ◌<◌, ◌≤◌, ◌⊎◌, Bool, true, false, ◌&&◌, ◌||◌, nat_eq, Option, Some, List, [], ◌∷◌, ◌++◌, IsTrue, length, slice_get, slice_index_or, if◌then◌else◌}
use Rattle.lxr_graph.specs.declared.Op.{Op}
use Rattle.lxr_graph.specs.declared.Op.TheVariants as op
use Rattle.lxr_graph.specs.History.{Item, Call, Pause, Renew, calls_of}
use Rattle.lxr_model.specs.Terms.{Terms}
use Rattle.lxr_model.specs.Moments.{Moment, moment}
use Rattle.lxr_model.specs.Kinds.{ends}
use Rattle.lxr_model.specs.Legal.{IsLegalSoFar}

-- the operations of each thread, thread 1 first
abbrev pub Script : Type 0
Script = List (List Op)

-- the operations of a thread, followed by its end
abbrev pub operations_of : Script → ℕ → List Op
operations_of script t = slice_index_or script (t - 1) [] ++ op.End ∷ []

-- ---- first point: the calls of each thread are its operations

-- each thread's calls are its operations and then its end, each once and in order
abbrev pub CallsAreOperations : Terms → Script → List Item → Type 0
CallsAreOperations terms script h = (t : ℕ) → 1 ≤ t → t ≤ terms.threads → calls_of t h ≡ operations_of script t

-- the same as far as the history goes
abbrev pub CallsBeginOperations : Terms → Script → List Item → Type 0
CallsBeginOperations terms script h = (t : ℕ) → 1 ≤ t → t ≤ terms.threads → (rest : List Op) × (calls_of t h ++ rest ≡ operations_of script t)

-- ---- second point: a thread that asked for a pause waits for it

-- the operation asks for a pause: `pause` or `collect`
abbrev pub asks_for_pause : Op → Bool
asks_for_pause op.Pause = true
asks_for_pause op.Collect = true
asks_for_pause _ = false

-- thread t has asked for a pause since the last one
abbrev pub has_asked : ℕ → List Item → Bool
has_asked t [] = false
has_asked t (Renew ns ∷ h) = false
has_asked t (Pause report ∷ h) = false
has_asked t (Call u o r ∷ h) = (nat_eq t u && asks_for_pause o) || has_asked t h

-- after a `pause` or `collect` of a thread the next pause stands before that thread's next call
abbrev pub AskedPausesComeFirst : List Item → Type 0
AskedPausesComeFirst [] = Unit {0}
AskedPausesComeFirst (Renew ns ∷ h) = Unit {0}
AskedPausesComeFirst (Pause report ∷ h) = AskedPausesComeFirst h
AskedPausesComeFirst (Call t o r ∷ h) = AskedPausesComeFirst h × (has_asked t h ≡ false)

-- ---- third point: turns are short

-- how many calls thread t has had since the last pause, or since the opening
abbrev pub calls_since_pause : ℕ → List Item → ℕ
calls_since_pause t [] = 0
calls_since_pause t (Renew ns ∷ h) = 0
calls_since_pause t (Pause report ∷ h) = 0
calls_since_pause t (Call u o r ∷ h) = if nat_eq t u then suc (calls_since_pause t h) else calls_since_pause t h

-- between two pauses a thread has at most `every` + 1 calls
abbrev pub TurnsAreShort : Terms → List Item → Type 0
TurnsAreShort terms [] = Unit {0}
TurnsAreShort terms (Renew ns ∷ h) = Unit {0}
TurnsAreShort terms (Pause report ∷ h) = TurnsAreShort terms h
TurnsAreShort terms (Call t o r ∷ h) = TurnsAreShort terms h × (calls_since_pause t (Call t o r ∷ h) ≤ terms.every + 1)

-- ---- fourth point: each pause but the last has a cause

-- the operation that thread t does next
abbrev pub next_operation : Script → ℕ → List Item → Option Op
next_operation script t h = slice_get (operations_of script t) (length (calls_of t h))

-- there is a next operation, and it is a `new`
abbrev pub is_new : Option Op → Bool
is_new (Some (op.New dest shape)) = true
is_new _ = false

-- there is a next operation, and it writes a reference: a `store` or a `swap`
abbrev pub writes_reference : Option Op → Bool
writes_reference (Some (op.Store base index source)) = true
writes_reference (Some (op.Swap dest base index source)) = true
writes_reference _ = false

-- a `new` may have found no block: each block that isn't listed as free holds an object, is block 0, or is chosen
abbrev pub BlocksAreTaken : Terms → Moment → Type 0
BlocksAreTaken terms m = terms.blocks - terms.evacuate ≤ length m.unreclaimed + length m.made

-- why a pause may stand after h because of thread t
abbrev pub IsCauseOf : Terms → Script → List Item → ℕ → Type 0
IsCauseOf terms script h t =
    IsTrue (has_asked t h)
    ⊎ (terms.every ≤ calls_since_pause t h)
    ⊎ (IsTrue (is_new (next_operation script t h)) × BlocksAreTaken terms (moment terms.threads h))
    ⊎ (IsTrue (writes_reference (next_operation script t h)) × (terms.log ≤ length (moment terms.threads h).written))

-- all threads have ended, so the pause that stands next is the last; or some thread is a cause
abbrev pub HasCause : Terms → Script → List Item → Type 0
HasCause terms script h = (ends h ≡ terms.threads) ⊎ ((t : ℕ) × (1 ≤ t) × (t ≤ terms.threads) × IsCauseOf terms script h t)

-- each pause has a cause in what stands before it
abbrev pub PausesHaveCauses : Terms → Script → List Item → Type 0
PausesHaveCauses terms script [] = Unit {0}
PausesHaveCauses terms script (Renew ns ∷ h) = Unit {0}
PausesHaveCauses terms script (Call t o r ∷ h) = PausesHaveCauses terms script h
PausesHaveCauses terms script (Pause report ∷ h) = PausesHaveCauses terms script h × HasCause terms script h

-- ---- fifth point: the last item is a pause, before which all threads have ended, and before no earlier pause have they

-- at the last pause of h not all threads had ended
abbrev pub LastPauseWasEarly : Terms → List Item → Type 0
LastPauseWasEarly terms [] = Unit {0}
LastPauseWasEarly terms (Renew ns ∷ h) = Unit {0}
LastPauseWasEarly terms (Call t o r ∷ h) = LastPauseWasEarly terms h
LastPauseWasEarly terms (Pause report ∷ h) = ends h < terms.threads

-- before no pause but the last had all threads ended
abbrev pub EarlierPausesWereEarly : Terms → List Item → Type 0
EarlierPausesWereEarly terms [] = Unit {0}
EarlierPausesWereEarly terms (Renew ns ∷ h) = Unit {0}
EarlierPausesWereEarly terms (Call t o r ∷ h) = EarlierPausesWereEarly terms h
EarlierPausesWereEarly terms (Pause report ∷ h) = LastPauseWasEarly terms h

-- the newest item is a pause, before which all threads have ended, and they had not at the pause before it
abbrev pub EndsWithPause : Terms → List Item → Type 0
EndsWithPause terms [] = ⊥
EndsWithPause terms (Renew ns ∷ h) = ⊥
EndsWithPause terms (Call t o r ∷ h) = ⊥
EndsWithPause terms (Pause report ∷ h) = (ends h ≡ terms.threads) × LastPauseWasEarly terms h

-- ---- the five points together

-- a whole history belongs to a script
pub record Belongs (terms : Terms) (script : Script) (h : List Item) : Type 0 where
  pub calls : CallsAreOperations terms script h
  pub asked : AskedPausesComeFirst h
  pub turns : TurnsAreShort terms h
  pub causes : PausesHaveCauses terms script h
  pub last : EndsWithPause terms h

-- A history belongs as far as it goes: each thread has a beginning of its calls, and it need not be at its end. Behind the
-- last thread's end stands one pause at most, so each pause but the last has a cause of its own.
pub record BelongsSoFar (terms : Terms) (script : Script) (h : List Item) : Type 0 where
  pub calls : CallsBeginOperations terms script h
  pub asked : AskedPausesComeFirst h
  pub turns : TurnsAreShort terms h
  pub causes : PausesHaveCauses terms script h
  pub early : EarlierPausesWereEarly terms h

-- a history so far: legal and belonging as far as it goes
abbrev pub IsHistorySoFar : Terms → Script → List Item → Type 0
IsHistorySoFar terms script h = IsLegalSoFar terms h × BelongsSoFar terms script h
