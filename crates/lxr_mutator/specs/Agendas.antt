-- An agenda's fields: what contracts see of them, and what holds of them.
use Rattle.std.specs.Prelude.{◌≡◌, ◌+◌, ◌<◌, ◌≤◌, Option, Some, None, length}
use Rattle.lxr_alloc.specs.declared.TheConstants.{MOST_OPERATIONS}
use Rattle.lxr_mutator.specs.declared.agenda.Agenda.TheInside.{Inside}
use Rattle.lxr_mutator.specs.declared.agenda.Kept.{Kept}
use Rattle.lxr_mutator.specs.Dialogues.{Dialogue, newest, op_at_hand}

-- what contracts see
abbrev pub dialogue : Inside → Dialogue
dialogue a = record { operations = a.orders.items; replies = record { items = a.answers.items; room = a.most + 1 } }

-- the lists that a thread of a script keeps are its operations and replies, and it has all its operations
pub record AreKept (d : Dialogue) (kept : Kept) : Type 0 where
  pub operations : kept.operations.items ≡ d.operations
  pub replies : kept.replies ≡ d.replies
  pub whole : d.replies.room ≡ length d.operations + 1

-- a live thread keeps no list: it has room to spare, and at most one operation that has no reply yet
pub record IsUnkept (d : Dialogue) : Type 0 where
  pub room : length d.operations + 2 ≤ d.replies.room
  pub one : length d.operations ≤ length d.replies.items + 1

-- which of the two it is
abbrev pub IsKeptIn : Dialogue → Option Kept → Type 0
IsKeptIn d (Some kept) = AreKept d kept
IsKeptIn d None = IsUnkept d

-- the fields tell the counts, the newest reply, and the operation at hand while there is one without a reply
pub record IsAgenda (a : Inside) : Type 0 where
  pub ordered : a.ordered ≡ length a.orders.items
  pub answered : a.answered ≡ length a.answers.items
  pub most : a.most ≤ MOST_OPERATIONS + 1
  pub at_hand : length a.answers.items < length a.orders.items → a.at_hand ≡ op_at_hand (dialogue a)
  pub newest : a.newest ≡ newest (dialogue a)
  pub kept : IsKeptIn (dialogue a) a.kept
