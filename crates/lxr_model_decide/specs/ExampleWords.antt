-- Short words for histories, most of them of one thread.
use Rattle.std.specs.Prelude.{ℕ, false, Option, Some, None, List, [], reverse}
use Rattle.lxr_layout.specs.declared.TheConstants.{LEAST_REGISTERS}
use Rattle.lxr_layout.specs.declared.Name.{Name}
use Rattle.lxr_graph.specs.declared.Op.{Op}
use Rattle.lxr_graph.specs.declared.Op.TheVariants as op
use Rattle.lxr_graph.specs.declared.Reply.{Reply}
use Rattle.lxr_graph.specs.declared.Reply.TheVariants as reply
use Rattle.lxr_graph.specs.declared.report.Count.{Count}
use Rattle.lxr_graph.specs.declared.report.Kind.{Kind}
use Rattle.lxr_graph.specs.State.{world_name}
use Rattle.lxr_graph.specs.History.{PauseReport, Item, Call}
use Rattle.lxr_model.specs.Terms.{Terms}
use Rattle.lxr_model.specs.Legal.{IsLegal}
use Rattle.lxr_model.specs.Belongs.{Script, Belongs}

-- one thread, and the numbers that a run has unless told otherwise
abbrev pub usual_terms : Terms
usual_terms = record { threads = 1; registers = LEAST_REGISTERS; blocks = 64; evacuate = 8; every = 1024; log = 1024; trace = 8; within = 4; renews = false }

-- the name of thread 1's object of this serial
abbrev pub made : ℕ → Name
made serial = record { thread = 1; serial = serial }

-- ---- operations

-- a register gets a new object of so many references and no data
abbrev pub new : ℕ → ℕ → Op
new dest refs = op.New dest (record { refs = refs; values = 0 })

-- reference `index` of what `base` holds becomes what `source` holds
abbrev pub store : ℕ → ℕ → ℕ → Op
store base index source = op.Store base index source

-- a register gets reference `index` of what `base` holds
abbrev pub load : ℕ → ℕ → ℕ → Op
load dest base index = op.Load dest base index

-- reference `index` of what `base` holds becomes what `source` holds, and then a register gets what it was
abbrev pub swap : ℕ → ℕ → ℕ → ℕ → Op
swap dest base index source = op.Swap dest base index source

-- data word `index` of what `base` holds grows by a value
abbrev pub add : ℕ → ℕ → ℕ → Op
add base index value = op.Add base index value

abbrev pub clear : ℕ → Op
clear dest = op.Nil dest

-- ---- items

-- a call of thread 1, and what it replied
abbrev pub does : Op → Reply → Item
does o r = Call 1 o r

abbrev pub makes : ℕ → ℕ → ℕ → Item
makes dest refs serial = does (new dest refs) (reply.New (made serial))

abbrev pub stores : ℕ → ℕ → ℕ → Item
stores base index source = does (store base index source) reply.Stored

abbrev pub loads : ℕ → ℕ → ℕ → ℕ → Item
loads dest base index serial = does (load dest base index) (reply.Loaded (Some (made serial)))

abbrev pub swaps : ℕ → ℕ → ℕ → ℕ → Option Name → Item
swaps dest base index source old = does (swap dest base index source) (reply.Swapped old)

abbrev pub adds : ℕ → ℕ → ℕ → ℕ → Item
adds base index value old = does (add base index value) (reply.Added old)

abbrev pub clears : ℕ → Item
clears dest = does (clear dest) reply.Cleared

abbrev pub asks : Item
asks = does op.Pause reply.Paused

abbrev pub collects : Item
collects = does op.Collect reply.Collected

abbrev pub ends : Item
ends = does op.End reply.Ended

-- ---- reports

-- a pause that reports nothing but counts
abbrev pub quiet : ℕ → Kind → List Count → PauseReport
quiet number k counts = record { number = number; kind = k; promoted = []; dead = []; stuck = []; swept = []; counts = counts }

-- the count of the world, which is stuck, and that of thread 1's object of this serial
abbrev pub world_count : Count
world_count = record { name = world_name; count = None }

abbrev pub counted : ℕ → ℕ → Count
counted serial count = record { name = made serial; count = Some count }

-- ---- the claim

-- under these terms this history, oldest item first, is legal and belongs to this script
pub record IsRunOf (terms : Terms) (script : Script) (items : List Item) : Type 0 where
  pub legal : IsLegal terms (reverse items)
  pub belongs : Belongs terms script (reverse items)
