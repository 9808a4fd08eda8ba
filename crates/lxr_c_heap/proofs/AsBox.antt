-- What is held and its parts own what a box at the same types owns.
use mir.Syntax.{impl, tnil, dnil}
use mathlib.Core.List.{[]}
use denote.Signature.{Slot, plain}
use Rattle.std_alloc.proofs.BoxSteps.Form.{Bx}
use Rattle.std_heap.specs.contracts.Global as Heap
use Rattle.std_heap.specs.contracts.GlobalAllocator.TheImpl.{ghosts, dict}
use Rattle.std_heap.proofs.Global.TheLaws as heap
use Rattle.lxr_c_heap.specs.contracts.host.HostHeap as HostHeap
use Rattle.lxr_c_heap.proofs.host.HostHeap.TheLaws as host
use Rattle.lxr_c_base.specs.contracts.boxed.Parts as Parts
use Rattle.lxr_c_heap.specs.contracts.block.Block as Block

abbrev pub E : Bx
E = record { row = HostHeap.the_row; laws = host.the_row_laws; al = record { row = Heap.the_row; laws = heap.the_row_laws; g = ghosts; d = dict; drops = impl [] tnil dnil } }

abbrev pub FromParts : Slot 0
FromParts = plain (λ _. Parts.the_row HostHeap.the_row Heap.the_row ghosts)

abbrev pub FromBlock : Slot 0
FromBlock = plain (λ _. Block.the_row)
