-- The opening state.
use Rattle.std.proofs.Common.{◌≡◌, ℕ, zero, suc, ◌*◌, refl, arith, length, length-append}
use Rattle.lxr_layout.specs.declared.TheConstants.{REGISTERS}
use Rattle.lxr_graph.specs.State.{opening_registers, opening_row}

-- how many registers so many threads have
pub length-opening : (threads : ℕ) → length (opening_registers threads) ≡ REGISTERS * threads
length-opening zero = refl
length-opening (suc t) = let e = length-append (opening_registers t) opening_row in let k = length-opening t in omega (arith, e, k)
