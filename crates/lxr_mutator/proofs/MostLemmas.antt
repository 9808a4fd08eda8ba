-- No thread has more operations than the first ones.
use Rattle.std.proofs.Common.{ℕ, ◌/◌, ◌≤◌, Bool, true, false, arith}
use Rattle.std.specs.Prelude.{nat_le, if◌then◌else◌}
use Rattle.lxr_alloc.specs.declared.TheConstants.{MOST_OPERATIONS}
use Rattle.lxr_mutator.specs.Dialogues.{most_operations}

few_by : (is : Bool) → (if is then MOST_OPERATIONS else MOST_OPERATIONS / 16) ≤ MOST_OPERATIONS
few_by true = omega arith
few_by false = omega arith

pub few_operations : (thread : ℕ) → most_operations thread ≤ MOST_OPERATIONS
few_operations thread = few_by (nat_le thread 16)
