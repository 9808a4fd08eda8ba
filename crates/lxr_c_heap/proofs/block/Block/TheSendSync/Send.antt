-- What a block owns is a box, or nothing, and neither names a thread.
use base.Shift.{Keyless}
use mir.Raw.{raw}
use denote.Memory.{lone}
use denote.RawPtr.{Ptr}
use denote.Param.Send.{IsSend, owning_send, sendable}
use Rattle.std.specs.declared.option.Option.TheVariants.{None, Some}
use Rattle.std.specs.Global.{Global}
use Rattle.std.proofs.Crossing.{frees}
use Rattle.std.proofs.alloc.Global.TheSendSync as global
use Rattle.std_alloc.proofs.SendSync.{lies}
use Rattle.lxr_c_heap.specs.contracts.block.Block.{the_row, the_type}
use Rattle.lxr_c_heap.specs.contracts.host.HostHeap as HostHeap
use Rattle.lxr_c_heap.specs.Keeping.{Kept, block_owns}
use Rattle.lxr_c_heap.proofs.CrossingLemmas.{host_send}

owns_keyless : (a : Global) (p : Ptr) (k : Kept) → Keyless (block_owns a p k)
owns_keyless a p None = tt
owns_keyless a p (Some x) = (lies HostHeap.the_row host_send p x, frees.frees a (raw (lone HostHeap.the_row.mir)) p)

pub send : IsSend the_row
send = owning_send the_type (search sendable, (global.the_field_send, tt)) (λ d. owns_keyless d.alloc d.ptr d.value) (λ k x w. tt)
