-- What a heap that was lent leaves.
use Rattle.std.specs.Prelude.{Some}
use Rattle.std.specs.Borrow.{Fml, Lends, MutBor}
use Rattle.lxr_c_heap.specs.declared.block.Block.{Block}
use Rattle.lxr_c_heap.specs.declared.host.HostHeap.{HostHeap}
use Rattle.lxr_c_heap.specs.contracts.block.Block as block
use Rattle.lxr_c_heap.specs.contracts.host.HostHeap as host

-- the block with this heap at its address
abbrev pub with_heap : Block → HostHeap → Block
with_heap b x = record b { value = Some x }

-- a block ends with the heap that was left of what was lent
abbrev pub LendsHeap : MutBor Block → MutBor HostHeap → Fml
LendsHeap b lent = Lends block.the_row host.the_row b lent (with_heap b.now)
