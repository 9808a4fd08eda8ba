-- A heap whose Free blocks have zeros for words serves as it did.
use Rattle.std.proofs.Common.{◌≡◌, ℕ, refl, sym, ap, subst, arith, Option, Some}
use mathlib.Core.Logic.{∥∥₁_elim, ∥∥₁_prop}
use Rattle.lxr_heap.specs.declared.heap.Heap.{Heap}
use Rattle.lxr_heap.specs.Trimming.{TrimsHeap}
use Rattle.lxr_c_heap.specs.declared.host.HostHeap.{HostHeap}
use Rattle.lxr_c_heap.specs.Hosting.{IsServing}
use Rattle.lxr_c_heap.specs.Keeping.{Kept}
use Rattle.lxr_c_heap.specs.Trimming.{Trims, TrimsHost, told_block}
use Rattle.lxr_c_heap.proofs.PacingLemmas.{still_named}

pub trimmed_serves : (from : ℕ) (x : HostHeap) (heap : Heap) (block : Option ℕ) → IsServing x → TrimsHeap from x.heap heap block → IsServing (record x { heap = heap })
trimmed_serves from x heap block room trims =
    let made : heap.made ≡ x.heap.made = ap (λ z. z.made) trims.rest in
    let pauses : heap.space.pauses ≡ x.heap.space.pauses = ap (λ z. z.space.pauses) trims.rest in
    let few = room.made in
    let paused = room.paused in
    let bytes = room.bytes in
    record {
      holds = ∥∥₁_elim room.holds ∥∥₁_prop (λ of. ∣ (of.0, record { heap = trims.holds of.0 of.1.heap; bytes = of.1.bytes; named = still_named x (record x { heap = heap }) refl (ap (λ z. z.space.limits.registers) trims.rest) of.1.named }) ∣₁);
      made = omega (arith, made, few);
      paused = omega (arith, pauses, paused);
      bytes = omega (arith, made, bytes);
      timed = room.timed;
    }

pub trims_done : (from : ℕ) (before after : Kept) (x y : HostHeap) (block : Option ℕ) → before ≡ Some x → after ≡ Some y → TrimsHost from x y block → Trims from before after (told_block block)
trims_done from before after x y block had has done = subst (λ k. Trims from k after (told_block block)) (sym had) (y, block, has, done, refl)
