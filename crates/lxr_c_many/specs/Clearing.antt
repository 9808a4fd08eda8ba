-- Registers that are let go of.
use Rattle.std.specs.Prelude.{ℕ, zero, suc, ◌+◌, ◌-◌, List, [], ◌∷◌}
use Rattle.lxr_graph.specs.declared.Op.TheVariants as op
use Rattle.lxr_graph.specs.declared.Reply.TheVariants as reply
use Rattle.lxr_large_model.specs.declared.LargeOp.TheVariants as large_op
use Rattle.lxr_large_model.specs.declared.LargeReply.TheVariants as large_reply
use Rattle.lxr_large_model.specs.History.{LargeItem, Called}
use Rattle.lxr_c_heap.specs.declared.host.HostHeap.{HostHeap}
use Rattle.lxr_c_heap.specs.Hosting.{registers_in}
use Rattle.lxr_c_many.specs.Following.{Follows}

-- a register becomes nil
abbrev pub nil_of : ℕ → LargeItem
nil_of register = Called (large_op.Small (op.Nil register)) (large_reply.Small reply.Cleared)

-- so many registers become nil from one on, in order: the newest first
abbrev pub nils : ℕ → ℕ → List LargeItem
nils first zero = []
nils first (suc count) = nil_of (first + count) ∷ nils first count

-- The first so many registers stay in use: each behind them became nil, in order, and no pause was made.
abbrev pub LetsGo : HostHeap → HostHeap → List LargeItem → ℕ → Unit {0} → Type 0
LetsGo x y h count told = Follows x h y (nils count (registers_in x - count))
