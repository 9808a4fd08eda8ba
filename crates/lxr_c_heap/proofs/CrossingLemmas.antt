-- What a heap for one thread owns names no thread, whatever the language says of its words: they are memory, and the rights to free it.
use mathlib.Core.Bool.{Bool, true, false}
use mathlib.Core.List.{List, [], ◌∷◌}
use Prim.Native.Nat.{ℕ}
use base.Shift.{Keyless}
use mir.Syntax.{Ty}
use denote.RattleType.{RattleType}
use denote.RawPtr.{Ptr, block_ptr, null_ptr, room_for, ◌+ₚ◌}
use denote.Param.Send.{IsSend, Frees, owning_send, view_send, sendable}
use denote.Param.SendFields.{declared_send}
use Rattle.core.specs.declared.alloc.Allocator.{Ghosts}
use Rattle.core.specs.Mem.Slots.Ownership.{slot, slots, owned, bytes_of}
use Rattle.core.specs.contracts.slots.Lease as Lease
use Rattle.core.specs.contracts.slots.Slots as Slots
use Rattle.std_alloc.proofs.SendSync.{lies}
use Rattle.std_heap.specs.contracts.Global as Global
use Rattle.std_heap.specs.contracts.GlobalAllocator.TheImpl.{ghosts}
use Rattle.std.specs.contracts.option.Option as Option
use Rattle.std.proofs.Crossing.{frees, send, Vec-send}
use Rattle.lxr_base.specs.contracts.lists.Listed as Listed
use Rattle.lxr_base.proofs.lists.Listed.TheSendSync as listed
use Rattle.lxr_layout.specs.contracts.Name as Name
use Rattle.lxr_layout.specs.contracts.Place as Place
use Rattle.lxr_layout.specs.contracts.runs.LogEntry as LogEntry
use Rattle.lxr_layout.proofs.Name.TheSendSync as name
use Rattle.lxr_layout.proofs.Place.TheSendSync as place
use Rattle.lxr_layout.proofs.limits.Limits.TheSendSync as limits
use Rattle.lxr_layout.proofs.runs.LogEntry.TheSendSync as log_entry
use Rattle.lxr_graph.proofs.name_list.Names.TheSendSync as names
use Rattle.lxr_graph.proofs.report.Report.TheSendSync as report
use Rattle.lxr_tables.specs.contracts.closed.ClosedWords as ClosedWords
use Rattle.lxr_tables.specs.contracts.closed.ClosedWords.TheInside as in_closed
use Rattle.lxr_tables.specs.contracts.memory.TableMemory as TableMemory
use Rattle.lxr_tables.specs.contracts.pages.Pages as Pages
use Rattle.lxr_tables.specs.contracts.words.PlainWords as PlainWords
use Rattle.lxr_tables.specs.contracts.words.PlainWords.TheInside as in_words
use Rattle.lxr_image.specs.contracts.space.Space as Space
use Rattle.lxr_image.specs.contracts.words.HeapWords as HeapWords
use Rattle.lxr_image.specs.contracts.words.HeapWords.TheInside as in_heap_words
use Rattle.lxr_image.proofs.registers.RegisterFile.TheSendSync as registers
use Rattle.lxr_image.proofs.settled.Settled.TheSendSync as settled
use Rattle.lxr_image.proofs.space.Tally.TheSendSync as tally
use Rattle.lxr_large_bodies.proofs.bodies.Bodies.TheSendSync as bodies
use Rattle.lxr_heap.specs.contracts.LargeHeap as LargeHeap
use Rattle.lxr_heap.specs.contracts.LargeHeap.TheInside as in_heap
use Rattle.lxr_heap.specs.contracts.heap.Heap as Heap
use Rattle.lxr_c_heap.specs.contracts.host.HostHeap as HostHeap
use Rattle.lxr_c_heap.proofs.host.Seal.TheSendSync as seal
use Rattle.lxr_c_heap.proofs.pacing.Pace.TheSendSync as pace
use Rattle.lxr_c_heap.proofs.room.Room.TheSendSync as room

-- ---- rows of memory, and the rights to free them

room_keyless : (τ : Ty) (p : Ptr) → Keyless (room_for τ p)
room_keyless τ (block_ptr b o) = tt
room_keyless τ null_ptr = tt

slot_keyless : (R : RattleType) → IsSend R → (full : Bool) (p : Ptr) (x : R.Denot) → Keyless (slot R full p x)
slot_keyless R s true p x = lies R s p x
slot_keyless R s false p x = room_keyless _ p

slots_keyless : (R : RattleType) → IsSend R → (p : Ptr) (xs : List R.Denot) (full : List Bool) → Keyless (slots R p xs full)
slots_keyless R s p [] full = tt
slots_keyless R s p (x ∷ xs) [] = tt
slots_keyless R s p (x ∷ xs) (f ∷ full) = (slot_keyless R s f p x, slots_keyless R s (p +ₚ bytes_of R) xs full)

owned_keyless : (R : RattleType) → IsSend R → (p : Ptr) (n : ℕ) (xs : List R.Denot) (full : List Bool) → Keyless (owned R p n xs full)
owned_keyless R s null_ptr n xs full = (tt, tt)
owned_keyless R s (block_ptr b o) n xs full = (tt, slots_keyless R s (block_ptr b o) xs full)

slots_send : (R : RattleType) → IsSend R → IsSend (Slots.the_row R)
slots_send R s = owning_send (Slots.the_type R) (search sendable, (search sendable, tt)) (λ d. owned_keyless R s d.ptr d.len d.items d.filled) (λ k x w. tt)

lease_send : (R A : RattleType) (g : Ghosts A.Denot) → Frees g g.dealloc_token → IsSend (Lease.the_row R A g)
lease_send R A g f = owning_send (Lease.the_type R A g) (search sendable, (search sendable, (search sendable, tt))) (λ d. f.frees _ _ _) (λ k x w. tt)

-- ---- the words of a heap

memory_send : IsSend (TableMemory.the_row Global.the_row ghosts)
memory_send = search (sendable, slots_send, lease_send, frees, send) depth 20

pages_send : IsSend (Pages.the_row Global.the_row ghosts)
pages_send = search (sendable, Vec-send) depth 20

maybe_pages_send : IsSend (Option.the_row (Pages.the_row Global.the_row ghosts))
maybe_pages_send = search (sendable, pages_send) depth 20

in_closed_send : IsSend (in_closed.the_row Global.the_row ghosts)
in_closed_send = declared_send (in_closed.the_type Global.the_row ghosts) (maybe_pages_send, (memory_send, tt))

closed_send : IsSend (ClosedWords.the_row Global.the_row ghosts)
closed_send = search (sendable, in_closed_send) depth 20

maybe_closed_send : IsSend (Option.the_row (ClosedWords.the_row Global.the_row ghosts))
maybe_closed_send = search (sendable, closed_send) depth 20

plain_send : IsSend PlainWords.the_row
plain_send = view_send in_words.the_row _ _ _ _ (declared_send in_words.the_type (maybe_closed_send, tt))

words_send : IsSend HeapWords.the_row
words_send = view_send in_heap_words.the_row _ _ _ _ (declared_send in_heap_words.the_type (plain_send, (settled.the_send, tt)))

-- ---- a heap

places_send : IsSend (Listed.the_row Place.the_row)
places_send = listed.the_send Place.the_row place.the_send

entries_send : IsSend (Listed.the_row LogEntry.the_row)
entries_send = listed.the_send LogEntry.the_row log_entry.the_send

space_send : IsSend Space.the_row
space_send =
    declared_send Space.the_type (words_send, (limits.the_send, (registers.the_send, (registers.the_send, (entries_send, (places_send, (report.the_send, (tally.the_send, (search sendable, (search sendable depth 20, (search sendable, (search sendable, tt))))))))))))

heap_send : IsSend Heap.the_row
heap_send = declared_send Heap.the_type (space_send, (bodies.the_send, (names.the_send, (search sendable, (search sendable, (search sendable, (search sendable, tt)))))))

large_send : IsSend LargeHeap.the_row
large_send = view_send in_heap.the_row _ _ _ _ (declared_send in_heap.the_type (heap_send, tt))

pub host_send : IsSend HostHeap.the_row
host_send = declared_send HostHeap.the_type (large_send, (search sendable, (pace.the_send, (room.the_send, (search sendable depth 20, (search sendable depth 20, (search sendable, (search sendable, (search sendable depth 20, (search sendable, (search sendable, (seal.the_send, tt))))))))))))
