use Rattle.std.proofs.Common.{arith}
use Rattle.test_heaps.proofs.renewed.a_heap_at_its_end_is_renewed.Goals as goal

pub settle-requires : goal.settle-requires
settle-requires c = λ c'. record { made = omega arith; pauses = omega arith }
