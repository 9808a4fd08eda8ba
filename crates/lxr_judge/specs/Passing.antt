-- When an item of the order passes. It takes something, what it takes is legal there, and it keeps the first four points of belonging. What
-- these ask of the items behind a pause is asked of that pause, and found in the order.
use Rattle.std.specs.Prelude.{◌≡◌, ℕ, suc, ◌+◌, ◌<◌, ◌≤◌, ◌⊎◌, Bool, true, false, nat_eq, Option, Some, None, IsSome, List, [], ◌∷◌, IsTrue, length, drop, slice_get}
use Rattle.std.specs.List.{list_any}
use Rattle.lxr_graph.specs.declared.Op.{Op}
use Rattle.lxr_graph.specs.declared.Op.TheVariants as op
use Rattle.lxr_graph.specs.declared.Reply.TheVariants as reply
use Rattle.lxr_graph.specs.History.{PauseReport, Item, Call, Pause, Renew}
use Rattle.lxr_text_script.specs.Lines.{Text}
use Rattle.lxr_graph.specs.declared.Item as ordered
use Rattle.lxr_graph.specs.declared.Item.TheVariants as ordered_as
use Rattle.lxr_model.specs.Legal.{MayFollow, StandsForWaiting, IsWaitedFor}
use Rattle.lxr_model.specs.Belongs.{has_asked, calls_since_pause, next_operation, IsCauseOf}
use Rattle.lxr_judge.specs.Evidence.{Evidence, report_count}
use Rattle.lxr_judge.specs.Taking.{pauses_in, next_line, Takes}

-- ---- what stands behind a pause

-- the items of the order behind the one that stands where h ends
abbrev pub items_behind : Evidence → List Item → List ordered.Item
items_behind e h = drop (suc (length h)) e.order

-- the item is a call of thread t
abbrev pub is_call_of : ℕ → ordered.Item → Bool
is_call_of t (ordered_as.Call u) = nat_eq t u
is_call_of t ordered_as.Pause = false

-- the item is a pause
abbrev pub is_pause : ordered.Item → Bool
is_pause (ordered_as.Call t) = false
is_pause ordered_as.Pause = true

-- there is an operation, and a line for it; the end needs none
abbrev pub HasLine : Option Op → Option Text → Type 0
HasLine None line = ⊥
HasLine (Some op.End) line = Unit {0}
HasLine (Some o) line = IsSome line

-- thread t has a call to take behind h
abbrev pub HasNextCall : Evidence → List Item → ℕ → Type 0
HasNextCall e h t = HasLine (next_operation e.script t h) (next_line e t h)

-- thread t goes on behind the pause that stands where h ends: an item behind it is a call of t, and finds what it takes
pub record GoesOn (e : Evidence) (h : List Item) (t : ℕ) : Type 0 where
  pub behind : IsTrue (list_any (is_call_of t) (items_behind e h))
  pub finds : HasNextCall e h t

-- the pause that stands where h ends isn't the last: an item behind it is a pause, and finds a report
pub record IsPausedAgain (e : Evidence) (h : List Item) : Type 0 where
  pub behind : IsTrue (list_any is_pause (items_behind e h))
  pub finds : suc (pauses_in h) < report_count e

-- ---- why a pause stands

-- Thread t is why a pause stands where h ends: it asked, or had its turn, or waits with its next operation. Where it waits, it goes on
-- behind the pause.
pub record IsReason (e : Evidence) (h : List Item) (t : ℕ) : Type 0 where
  pub thread : (1 ≤ t) × (t ≤ e.terms.threads)
  pub cause : IsCauseOf e.terms e.script h t
  pub shown : IsTrue (has_asked t h) ⊎ (e.terms.every ≤ calls_since_pause t h) ⊎ GoesOn e h t

-- a pause but the last has a thread that is the reason for it
abbrev pub HasReason : Evidence → List Item → Type 0
HasReason e h = IsPausedAgain e h → (t : ℕ) × IsReason e h t

-- Right behind the pause that stands where h ends, thread t calls a `new` for which the objects could leave no run outside the blocks that
-- may be chosen for evacuation. Its reply isn't asked for.
pub record IsWaiting (e : Evidence) (h : List Item) (t : ℕ) (o : Op) : Type 0 where
  pub thread : (1 ≤ t) × (t ≤ e.terms.threads)
  pub next : slice_get e.order (suc (length h)) ≡ Some (ordered_as.Call t)
  pub finds : HasNextCall e h t
  pub operation : next_operation e.script t h ≡ Some o
  pub waits : IsWaitedFor e.terms h (Call t o reply.Full)

-- a pause that collects though no thread asked for it and not all have ended stands right before the `new` that waits for it
abbrev pub HasWaiting : Evidence → List Item → PauseReport → Type 0
HasWaiting e h report = StandsForWaiting e.terms h report → (t : ℕ) × (o : Op) × IsWaiting e h t o

-- ---- passing

-- an item keeps the points of belonging behind h: a call of a thread that has neither asked for a pause nor had its turn; a pause with a
-- reason; names are never renewed in a script's run
abbrev pub KeepsPoints : Evidence → List Item → Item → Type 0
KeepsPoints e h (Call t o r) = (has_asked t h ≡ false) × (calls_since_pause t (Call t o r ∷ h) ≤ e.terms.every + 1)
KeepsPoints e h (Pause report) = HasWaiting e h report × HasReason e h
KeepsPoints e h (Renew ns) = ⊥

-- the item of the order that stands where h ends passes with x: this is what it takes, it is legal behind h, and it keeps the points
pub record Passes (e : Evidence) (h : List Item) (x : Item) : Type 0 where
  pub takes : Takes e h x
  pub legal : MayFollow e.terms h x
  pub belongs : KeepsPoints e h x

-- the first items of the order pass, and h is what they take
abbrev pub AllPass : Evidence → List Item → Type 0
AllPass e [] = Unit {0}
AllPass e (x ∷ h) = AllPass e h × Passes e h x
