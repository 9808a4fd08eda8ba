use Rattle.std.proofs.Common.{ℕ, ◌∙◌, ◌*◌, ap, sym, subst, refl, arith, inl, inr, Option}
use Rattle.std.proofs.lemmas.Bool.{iff_false}
use Rattle.lxr_c_heap.specs.declared.working.TheConstants.{SLICE_PARTS}
use Rattle.lxr_c_heap.specs.Pacing.{IsReached}
use Rattle.lxr_c_heap.specs.Working.{Works, slice_from}
use Rattle.lxr_c_heap.proofs.RoomLemmas.{bytes_far, worked_room}
use Rattle.lxr_c_heap.proofs.host.HostHeap.work_if_due.Goals as goal

pub slice_from-next-requires : goal.slice_from-next-requires
slice_from-next-requires c = bytes_far 2 3 c.args.self.now c.requires.room

pub overflow_mul-self : goal.overflow_mul-self
overflow_mul-self c = let few = c.requires.room.timed.0 in omega (arith, few)

pub returns-then-not-is_reached-clause-works : goal.returns-then-not-is_reached-clause-works
returns-then-not-is_reached-clause-works c = λ h is.
    inr (λ due. iff_false c.is_reached.ensures c.if-not-is_reached.true (subst (IsReached c.args.self.now.slice) (sym is.bytes) due), refl)

pub returns-clause-works : goal.returns-clause-works
returns-clause-works c = λ h is.
    let x = c.args.self.now in
    inl (
      subst (IsReached x.slice) is.bytes (c.is_reached.ensures.0 c.if-not-is_reached.false),
      c.work.result,
      subst (λ (next : Option ℕ). Works x c.work.new.self h (SLICE_PARTS * x.work) next c.work.result) (c.slice_from-next.ensures ∙ ap (slice_from x.work) is.bytes) (c.work.ensures h is.heap),
    )

pub returns-clause-room : goal.returns-clause-room
returns-clause-room c = worked_room 2 3 c.args.self.now c.work.new.self (SLICE_PARTS * c.args.self.now.work) c.slice_from-next.result c.work.result c.requires.room c.work.ensures
