-- When the objects of a heap can leave no run of lines for a new one.
use Rattle.std.specs.Prelude.{◌≡◌, ◌≢◌, ℕ, ◌+◌, ◌-◌, ◌*◌, ◌/◌, ◌≤◌, List, [], ◌∷◌, sum_by}
use Rattle.std.specs.Option.{option_map_or}
use Rattle.lxr_layout.specs.declared.Name.{Name}
use Rattle.lxr_layout.specs.declared.Shape.{Shape}
use Rattle.lxr_layout.specs.declared.TheConstants.{LINES_IN_BLOCK, WORLD_LINES}
use Rattle.lxr_layout.specs.Objects.{line_count}
use Rattle.lxr_graph.specs.declared.Op.TheVariants as op
use Rattle.lxr_graph.specs.declared.Reply.TheVariants as reply
use Rattle.lxr_graph.specs.declared.report.Kind.TheVariants as kind
use Rattle.lxr_graph.specs.Names.{IsSetOf}
use Rattle.lxr_graph.specs.State.{Graph, world_name, object_at, shape_of}
use Rattle.lxr_graph.specs.History.{Item, Call, Pause, Renew}
use Rattle.lxr_model.specs.Reachable.{Reachable}
use Rattle.lxr_model.specs.Terms.{Terms}
use Rattle.lxr_model.specs.Moments.{state_at}

-- the lines of a name's object
abbrev pub lines_at : Graph → Name → ℕ
lines_at g n = option_map_or (λ o. line_count (shape_of o)) (object_at g n) 0

-- Each block is cut into slots of k lines. An object of so many lines overlaps at most one line more in a row, hence at
-- most this many slots: its lines over k, rounded up, and one.
abbrev pub slots_touched : ℕ → ℕ → ℕ
slots_touched k lines = (lines + (k - 1)) / k + 1

-- how many slots the objects of these names overlap at most
abbrev pub slots_taken : Graph → ℕ → List Name → ℕ
slots_taken g k ns = sum_by (λ n. slots_touched k (lines_at g n)) ns

-- the slots of k lines of block 0, whose first lines the world takes, and of so many whole blocks
abbrev pub slots_in : ℕ → ℕ → ℕ
slots_in k whole_blocks = (LINES_IN_BLOCK - WORLD_LINES) / k + whole_blocks * (LINES_IN_BLOCK / k)

-- these objects can leave no run of k lines in so many blocks, of which block 0 is one
abbrev pub LeaveNoRun : Graph → List Name → ℕ → ℕ → Type 0
LeaveNoRun g ns blocks k = slots_in k (blocks - 1) ≤ slots_taken g k ns

-- the last pause collected, and nothing but `new full` stands behind it
abbrev pub IsRightAfterCollecting : List Item → Type 0
IsRightAfterCollecting [] = ⊥
IsRightAfterCollecting (Renew ns ∷ h) = ⊥
IsRightAfterCollecting (Pause report ∷ h) = report.kind ≡ kind.Collect
IsRightAfterCollecting (Call t (op.New dest shape) reply.Full ∷ h) = IsRightAfterCollecting h
IsRightAfterCollecting (Call t _ _ ∷ h) = ⊥

-- A `new` of this shape may reply `full` after h: right after a collecting pause, where the objects that are reachable, but for
-- the world, can leave no run that fits.
abbrev pub MayBeFull : Terms → List Item → Shape → Type 0
MayBeFull terms h shape =
    IsRightAfterCollecting h
    × (ns : List Name) × IsSetOf ns (λ n. Reachable (state_at terms h) n × (n ≢ world_name))
    × LeaveNoRun (state_at terms h).graph ns terms.blocks (line_count shape)
