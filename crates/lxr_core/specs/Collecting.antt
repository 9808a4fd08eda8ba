-- What a space takes of mutators as an epoch closes.
use Rattle.std.specs.Prelude.{◌≡◌, ℕ, ◌+◌, ◌-◌, ◌*◌, ◌^◌, ◌<◌, ◌≤◌, ⊤, true, Some, List, [], ◌∷◌, ◌++◌, length, slice_get, take, drop}
use Rattle.std.specs.List.{flat_map}
use Rattle.lxr_layout.specs.declared.TheConstants.{REGISTERS}
use Rattle.lxr_layout.specs.declared.runs.LogEntry.{LogEntry}
use Rattle.lxr_layout.specs.declared.Place.{Place}
use Rattle.lxr_layout.specs.declared.limits.Limits.{Limits}
use Rattle.lxr_base.specs.Roomy.{emptied}
use Rattle.lxr_image.specs.declared.space.Space.{Space}
use Rattle.lxr_image.specs.Registers.{with_row}
use Rattle.lxr_image.specs.declared.space.Tally.{Tally}
use Rattle.lxr_mutator.specs.declared.phases.MutTally.{MutTally}
use Rattle.lxr_mutator.specs.Dialogues.{most_operations}
use Rattle.lxr_mutator.specs.Mutating.{Mutating, rests_in, tally_of}
use Rattle.lxr_mutator.specs.Mutators.{no_spans}
use Rattle.lxr_core.specs.declared.actors.AnyActor.{AnyActor}
use Rattle.lxr_core.specs.declared.actors.AnyActor.TheVariants as any
use Rattle.lxr_core.specs.Actors.{AreInOrder, mutators_in}

-- ---- one mutator

-- a mutator that has given up its log's entries and what it had drawn and not filled
abbrev pub given_up : Mutating → Mutating
given_up m = record m { log = emptied m.log; spans = no_spans }

-- an actor that has: a helper has neither
abbrev pub actor_given_up : AnyActor → AnyActor
actor_given_up (any.Mutator m) = any.Mutator (given_up m)
actor_given_up (any.Decrementer d) = any.Decrementer d
actor_given_up (any.Tracer d) = any.Tracer d

-- a tally with what the operations of a thread did
abbrev pub tallied : Tally → MutTally → Tally
tallied t done = record t { news = t.news + done.news; loads = t.loads + done.loads; stores = t.stores + done.stores }

-- a space that has taken the registers of a mutator in place of those that its thread had, and the entries and the tally of the mutator to
-- those that it had
abbrev pub taken_of : Space → Mutating → Space
taken_of s m = record s {
  registers = record s.registers { items = with_row s.registers.items (m.thread - 1) m.registers };
  logged = record s.logged { items = s.logged.items ++ m.log.items };
  tally = tallied s.tally (tally_of m.replies.items);
}

-- a space that has taken what an actor has
abbrev pub taken_of_actor : Space → AnyActor → Space
taken_of_actor s (any.Mutator m) = taken_of s m
taken_of_actor s (any.Decrementer d) = s
taken_of_actor s (any.Tracer d) = s

-- a mutator may give up what it has, in a space of these limits
pub record MayGive (l : Limits) (m : Mutating) : Type 0 where
  pub rests : rests_in m.phase ≡ true
  pub as_many : length m.registers ≡ REGISTERS
  pub width : m.width ≡ l.registers
  pub log : length m.log.items ≤ l.log
  pub replies : length m.replies.items ≤ most_operations m.thread + 2

-- a space has room for what another mutator gives
pub record MayTake (s : Space) (m : Mutating) : Type 0 where
  pub registers : (1 ≤ m.thread) × (REGISTERS * (m.thread - 1) + REGISTERS ≤ length s.registers.items)
  pub width : s.registers.width ≡ s.limits.registers
  pub logged : length s.logged.items + length m.log.items ≤ s.logged.room
  pub news : s.tally.news ≤ 2 ^ 32
  pub loads : s.tally.loads ≤ 2 ^ 32
  pub stores : s.tally.stores ≤ 2 ^ 32

-- an actor may give up what it has, and a space has room for it: a helper gives nothing
abbrev pub ActorMayGive : Limits → AnyActor → Type 0
ActorMayGive l (any.Mutator m) = MayGive l m
ActorMayGive l (any.Decrementer d) = ⊤
ActorMayGive l (any.Tracer d) = ⊤

abbrev pub MayTakeOf : Space → AnyActor → Type 0
MayTakeOf s (any.Mutator m) = MayTake s m
MayTakeOf s (any.Decrementer d) = ⊤
MayTakeOf s (any.Tracer d) = ⊤

-- ---- all mutators

-- how many objects all threads together made
abbrev pub news_of : List Mutating → ℕ
news_of [] = 0
news_of (m ∷ mutators) = (tally_of m.replies.items).news + news_of mutators

-- how many references they loaded
abbrev pub loads_of : List Mutating → ℕ
loads_of [] = 0
loads_of (m ∷ mutators) = (tally_of m.replies.items).loads + loads_of mutators

-- how many they stored
abbrev pub stores_of : List Mutating → ℕ
stores_of [] = 0
stores_of (m ∷ mutators) = (tally_of m.replies.items).stores + stores_of mutators

-- the tally with what the operations of these threads did
abbrev pub tally_with : Tally → List Mutating → Tally
tally_with t mutators = record t { news = news_of mutators; loads = loads_of mutators; stores = stores_of mutators }

-- the registers of all mutators, thread 1 first
abbrev pub all_registers : List Mutating → List Place
all_registers mutators = flat_map (λ m. m.registers) mutators

-- the entries of all mutators
abbrev pub all_entries : List Mutating → List LogEntry
all_entries mutators = flat_map (λ m. m.log.items) mutators

-- a space that has the registers of these mutators, of the first threads, in place of those that it had, and their entries and tally
abbrev pub holding : Space → List Mutating → Space
holding s mutators = record s {
  registers = record s.registers { items = all_registers mutators ++ drop (REGISTERS * length mutators) s.registers.items };
  logged = record s.logged { items = all_entries mutators };
  tally = tally_with s.tally mutators;
}

-- there is one mutator for each thread whose registers a space has, thread 1 first, the space has room for their entries, and each may give up
-- what it has
pub record MayAllGive (s : Space) (actors : List AnyActor) : Type 0 where
  pub order : AreInOrder actors
  pub threads : (i : ℕ) (m : Mutating) → slice_get (mutators_in actors) i ≡ Some m → m.thread ≡ i + 1
  pub few : length (mutators_in actors) ≤ 255
  pub registers : length s.registers.items ≡ REGISTERS * length (mutators_in actors)
  pub width : s.registers.width ≡ s.limits.registers
  pub logged : length (mutators_in actors) * s.limits.log ≤ s.logged.room
  pub each : (i : ℕ) (m : Mutating) → slice_get (mutators_in actors) i ≡ Some m → MayGive s.limits m

-- the first so many actors have given up what they had, and the space has it
pub record HaveGiven (start : Space) (before : List AnyActor) (now : Space) (after : List AnyActor) (count : ℕ) : Type 0 where
  pub as_many : length after ≡ length before
  pub given : (i : ℕ) (a : AnyActor) → slice_get before i ≡ Some a → i < count → slice_get after i ≡ Some (actor_given_up a)
  pub others : (i : ℕ) → count ≤ i → slice_get after i ≡ slice_get before i
  pub space : now ≡ holding start (mutators_in (take count before))
