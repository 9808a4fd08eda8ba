-- The tally: what a space counts of a history.
use Rattle.std.specs.Prelude.{◌≡◌, ℕ, ◌+◌, List, [], ◌∷◌, length}
use Rattle.lxr_graph.specs.declared.Reply.{Reply}
use Rattle.lxr_graph.specs.declared.Reply.TheVariants as reply
use Rattle.lxr_graph.specs.History.{Item, Call, Pause, Renew}
use Rattle.lxr_image.specs.declared.space.Tally.{Tally}
use Rattle.lxr_image.specs.Opened.{no_tally}
use Rattle.lxr_model.specs.Moments.{moment}

-- a new object, a loaded reference and a store that was done are counted, each in its own number; a swap that was done loads and stores
abbrev pub counted : Tally → Reply → Tally
counted t (reply.New n) = record t { news = t.news + 1 }
counted t (reply.Loaded v) = record t { loads = t.loads + 1 }
counted t reply.Stored = record t { stores = t.stores + 1 }
counted t (reply.Swapped v) = record t { loads = t.loads + 1; stores = t.stores + 1 }
counted t r = t

-- The numbers of a history of so many threads, whose items stand newest first: those of its replies, its pauses, and the references of
-- unreclaimed objects that were written before each of them.
abbrev pub tally_of : ℕ → List Item → Tally
tally_of threads [] = no_tally
tally_of threads (Renew ns ∷ h) = no_tally
tally_of threads (Call t o r ∷ h) = counted (tally_of threads h) r
tally_of threads (Pause report ∷ h) = let before = tally_of threads h in
    record before { logs = before.logs + length (moment threads h).written; pauses = before.pauses + 1 }

-- A tally has the numbers of a history of so many threads. How many objects evacuation moved and kept is no number of a history: these two
-- come from the places that objects stood at, and are told with the sights of its pauses.
abbrev pub HasNumbersOf : ℕ → List Item → Tally → Type 0
HasNumbersOf threads h tally = tally ≡ record (tally_of threads h) { moved = tally.moved; kept = tally.kept }

-- how many objects pauses have moved out of Chosen blocks, and how many they have kept there
pub record Evacuated : Type 0 where
  pub moved : ℕ
  pub kept : ℕ

-- none yet; and those that a tally counts
abbrev pub none_evacuated : Evacuated
none_evacuated = record { moved = 0; kept = 0 }

-- what a tally says of it
abbrev pub evacuated_in : Tally → Evacuated
evacuated_in t = record { moved = t.moved; kept = t.kept }
