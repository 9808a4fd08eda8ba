-- A mutator's fields: what contracts see of them, and what holds of them.
use Rattle.std.specs.Prelude.{◌≡◌, ℕ, ◌≤◌}
use Rattle.lxr_layout.specs.declared.TheConstants.{REGISTERS}
use Rattle.lxr_layout.specs.declared.Shape.{Shape}
use Rattle.lxr_layout.specs.Objects.{word_count}
use Rattle.lxr_mutator.specs.declared.mutator.Mutator.TheInside.{Inside}
use Rattle.lxr_mutator.specs.declared.phases.MutatorPhase.{MutatorPhase}
use Rattle.lxr_mutator.specs.declared.phases.MutatorPhase.TheVariants as phase
use Rattle.lxr_layout.specs.Registers.{AreNil}
use Rattle.lxr_mutator.specs.Mutating.{Mutating, tally_of}
use Rattle.lxr_mutator.specs.Steps.{shape_now}
use Rattle.lxr_mutator.specs.Mutators.{IsMutator}

-- what contracts see
abbrev pub seen : Inside → Mutating
seen m = record {
  thread = m.thread;
  operations = m.agenda.operations;
  regions = m.regions;
  every = m.every;
  width = m.width;
  names = m.names;
  log = m.log;
  registers = m.registers.items;
  spans = m.spans;
  before = m.before;
  replies = m.agenda.replies;
  since = m.since;
  phase = m.phase;
  end = m.end;
}

-- while an object of this shape is wiped, it has so many words
abbrev pub AreWords : ℕ → Shape → MutatorPhase → Type 0
AreWords words shape (phase.Wiping place next) = words ≡ word_count shape
AreWords words shape p = Unit {0}

-- The fields are those of a mutator. Of its registers so many are in use, and the others are nil. Its tally is that of its replies, and its words
-- are those of what it wipes.
pub record IsKept (m : Inside) : Type 0 where
  pub sound : IsMutator (seen m)
  pub few : m.in_use ≤ m.width
  pub others : AreNil m.registers.items m.in_use REGISTERS
  pub tally : m.tally ≡ tally_of m.agenda.replies.items
  pub words : AreWords m.words (shape_now (seen m)) m.phase
