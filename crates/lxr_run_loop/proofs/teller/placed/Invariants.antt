use Rattle.std.proofs.Common.{◌≡◌, ℕ, ◌<◌, length, slice_index}
use Rattle.lxr_run_loop.specs.Orders.{placed_at}
use Rattle.lxr_run_loop.proofs.teller.placed.Given as goal

abbrev pub invariant-loop-number : goal.invariant-loop-number
invariant-loop-number l = (length l.counts ≡ 255) × ((i : ℕ) → i < l.number → slice_index l.counts i ≡ placed_at l.actors i)
